use Rattle.std.proofs.Common.{ℕ, nat_eq, [], ◌++◌, take, refl, sym, ap, subst, ◌∙◌}
use Rattle.std.specs.{List.filter_map, List.list_any, Option.option_to_list}
use Rattle.std.proofs.lemmas.List.{take_all}
use Rattle.def_map.specs.Numbering.{Interns}
use Rattle.def_map.specs.Private.{hidden_from}
use Rattle.def_map.proofs.Interning.{all_known, interns_both, interns_none, kept_more}
use Rattle.def_map.proofs.private.private_imports.Goals as goal

pub loop-fact-init : goal.loop-fact-init
loop-fact-init c = interns_none nat_eq (λ (n : ℕ). n) [] c.new-found.result.keys c.new-found.ensures.empty

pub loop-fact-preserved : goal.loop-fact-preserved
loop-fact-preserved c =
    let of = λ (n : ℕ). n in
    let hidden = hidden_from c.args.table.now c.args.closure.now.facts.keys in
    let i = c.loop-fact.fact-index in let facts = c.as_slice-fact-items.result.now in
    let done = filter_map hidden (take i facts) in
    subst (Interns nat_eq of [] c.put_number.new.others.keys)
    (ap (λ o. done ++ option_to_list o) c.hidden_from.ensures ∙ sym (kept_more hidden facts i _ c.loop-fact-test.true))
    (interns_both nat_eq of [] c.loop-fact.found.keys c.put_number.new.others.keys done _ c.loop-fact.invariant c.in_ok-put_number.ensures)

pub returns : goal.returns
returns c = λ i.
    let hidden = hidden_from c.args.table.now c.args.closure.now.facts.keys in
    all_known nat_eq (λ (n : ℕ). n) [] c.loop-fact.found.keys _ refl c.loop-fact.invariant i
    ∙ ap (λ facts. list_any (nat_eq i) (filter_map hidden facts)) (take_all c.loop-fact.fact-index c.as_slice-fact-items.result.now c.loop-fact-test.false ∙ c.as_slice-fact-items.ensures.keys)
