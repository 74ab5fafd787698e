use Rattle.std.proofs.Common.{◌≡◌, ◌≤◌, Err, length, ap, subst, ◌∙◌, arith, rules}
use Rattle.def_map.specs.Inner.Closing.{Enters, places_at, fact_places}
use Rattle.def_map.proofs.Closing.{goes_first, goes_indexed, goes_last, goes_on, goes_many, item_is, too_many_seeds, too_many_facts, too_many_joins, empty_places}
use Rattle.def_map.proofs.closure.find_closure.Goals as goal

pub returns-in_err-put_seeds-clause-too_many_facts : goal.returns-in_err-put_seeds-clause-too_many_facts
returns-in_err-put_seeds-clause-too_many_facts c =
    let is : c.from_residual.result ≡ Err c.in_err-put_seeds.field-0.0 = search rules in
    too_many_seeds c.args.table.now c.args.seeds.now c.new-found.result.keys c.put_seeds.new.found.keys c.in_err-put_seeds.field-0.0 c.from_residual.result is c.new-found.ensures.len
    c.put_seeds.ensures.grows c.in_err-put_seeds.ensures.refused

pub loop-at-init : goal.loop-at-init
loop-at-init c =
    goes_first c.args.table.now c.args.seeds.now c.new-found.result.keys c.put_seeds.new.found.keys (places_at c.new-index.result) c.new-found.ensures.len
    c.put_seeds.ensures.grows c.in_ok-put_seeds.ensures.has c.in_ok-put_seeds.ensures.few (empty_places c.new-index.result c.new-index.ensures)

pub returns-in_default-clause-complete : goal.returns-in_default-clause-complete
returns-in_default-clause-complete c =
    goes_last c.args.table.now c.args.seeds.now c.loop-at.at c.loop-at.found.keys (places_at c.loop-at.index) c.loop-at.joins c.loop-at.invariant
    (subst (λ l. length l ≤ c.loop-at.at) c.as_slice.ensures.keys c.in_default.ensures.lookup.3)

pub returns-in_default-clause-indexed : goal.returns-in_default-clause-indexed
returns-in_default-clause-indexed c =
    goes_indexed c.args.table.now c.args.seeds.now c.loop-at.at c.loop-at.found.keys c.loop-at.index c.loop-at.joins c.loop-at.invariant
    (subst (λ l. length l ≤ c.loop-at.at) c.as_slice.ensures.keys c.in_default.ensures.lookup.3)

pub returns-clause-indexed : goal.returns-clause-indexed
returns-clause-indexed c =
    goes_indexed c.args.table.now c.args.seeds.now c.loop-at.at c.loop-at.found.keys c.loop-at.index c.loop-at.joins c.loop-at.invariant
    (omega (arith, c.loop-at-test.false, c.loop-at.invariant.few))

pub returns-clause-complete : goal.returns-clause-complete
returns-clause-complete c =
    goes_last c.args.table.now c.args.seeds.now c.loop-at.at c.loop-at.found.keys (places_at c.loop-at.index) c.loop-at.joins c.loop-at.invariant
    (omega (arith, c.loop-at-test.false, c.loop-at.invariant.few))

pub returns-in_err-joins-clause-too_many_joins : goal.returns-in_err-joins-clause-too_many_joins
returns-in_err-joins-clause-too_many_joins c =
    let is = item_is _ c.loop-at.found.keys c.loop-at.at c.in-Some.fact.now c.as_slice.ensures.keys c.in-Some.ensures.lookup.3.0 c.in-Some.ensures.lookup.1 in
    let one = ap length (c.places-first.ensures ∙ ap (λ k. fact_places c.loop-at.index k.0) c.met_keys-keys.ensures) in
    let two = ap length (c.places-second.ensures ∙ ap (λ k. fact_places c.loop-at.index k.1) c.met_keys-keys.ensures) in
    λ says. too_many_joins c.args.table.now c.args.seeds.now c.loop-at.found.keys c.loop-at.invariant.sound c.as_slice.ensures.unique
    (goes_many c.args.table.now c.args.seeds.now c.loop-at.at c.in-Some.fact.now c.loop-at.found.keys (places_at c.loop-at.index) c.loop-at.joins c.loop-at.invariant is
    (length c.places-first.result.now) (length c.places-second.result.now) one two c.in_err-joins.ensures.many)

pub returns-in_err-apply-clause-too_many_facts : goal.returns-in_err-apply-clause-too_many_facts
returns-in_err-apply-clause-too_many_facts c =
    let is = item_is _ c.loop-at.found.keys c.loop-at.at c.in-Some.fact.now c.as_slice.ensures.keys c.in-Some.ensures.lookup.3.0 c.in-Some.ensures.lookup.1 in
    let err : c.from_residual-in_err-apply.result ≡ Err c.in_err-apply.field-0.0 = search rules in
    too_many_facts c.args.table.now c.args.seeds.now c.loop-at.at c.in-Some.fact.now c.loop-at.found.keys c.apply.new.found.keys c.in_err-apply.field-0.0 c.from_residual-in_err-apply.result err
    c.loop-at.invariant.sound is c.apply.ensures.reaches c.in_err-apply.ensures.refused

pub loop-at-preserved : goal.loop-at-preserved
loop-at-preserved c =
    let is = item_is _ c.loop-at.found.keys c.loop-at.at c.in-Some.fact.now c.as_slice.ensures.keys c.in-Some.ensures.lookup.3.0 c.in-Some.ensures.lookup.1 in
    let one = c.places-first.ensures ∙ ap (λ k. fact_places c.loop-at.index k.0) c.met_keys-keys.ensures in
    let two = c.places-second.ensures ∙ ap (λ k. fact_places c.loop-at.index k.1) c.met_keys-keys.ensures in
    goes_on c.args.table.now c.args.seeds.now c.loop-at.at c.in-Some.fact.now c.loop-at.found.keys (places_at c.loop-at.index) c.loop-at.joins c.loop-at.invariant is
    c.apply.new.found.keys (places_at c.enter.new.self) c.places-first.result.now c.places-second.result.now c.apply.ensures.reaches c.in_ok-apply.ensures.applied one two
    (subst (λ k. Enters k c.loop-at.at c.loop-at.index c.enter.new.self) c.own_keys.ensures c.in_ok-enter.ensures)
    c.in_ok-joins.joins c.in_ok-apply.ensures.few c.in_ok-joins.ensures.counted c.in_ok-joins.ensures.small
