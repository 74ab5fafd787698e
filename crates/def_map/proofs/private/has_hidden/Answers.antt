use Rattle.std.proofs.Common.{◌≡◌, None, Some, false, slice_get, slice_index_or, take, sym, subst, ◌∙◌, rules}
use Rattle.std.specs.List.{All}
use Rattle.std.proofs.lemmas.List.{take_all, take_more}
use Rattle.std.proofs.lemmas.List.Elements.{All-push}
use Rattle.def_map.specs.Private.{waits_at, hidden_by}
use Rattle.def_map.proofs.Waiting.{nothing_waits, one_hidden, all_seen}
use Rattle.def_map.proofs.private.has_hidden.Goals as goal

pub returns-in_default : goal.returns-in_default
returns-in_default c =
    let none : waits_at c.args.table.now c.args.fact ≡ None = search rules in
    nothing_waits c.args.table.now c.args.fact c.args.closure.now.facts.keys none

pub returns-then-hidden_at : goal.returns-then-hidden_at
returns-then-hidden_at c = one_hidden c.args.table.now c.args.fact c.args.closure.now.facts.keys _ (sym c.hidden_at.ensures ∙ c.if-hidden_at.true)

pub loop-place-preserved : goal.loop-place-preserved
loop-place-preserved c =
    subst (All (λ p. hidden_by c.args.table.now c.args.fact (slice_get c.args.closure.now.facts.keys p) ≡ false))
    (sym (take_more c.places-place-items.result.now c.loop-place.place-index 0 c.loop-place-test.true))
    (All-push (λ p. hidden_by c.args.table.now c.args.fact (slice_get c.args.closure.now.facts.keys p) ≡ false) (take c.loop-place.place-index c.places-place-items.result.now)
    (slice_index_or c.places-place-items.result.now c.loop-place.place-index 0) c.loop-place.invariant (sym c.hidden_at.ensures ∙ c.if-hidden_at.false))

pub returns : goal.returns
returns c =
    let waits : waits_at c.args.table.now c.args.fact ≡ Some c.in-Some.wait = search rules in
    all_seen c.args.table.now c.args.fact c.args.closure.now.facts.keys c.args.closure.now.index c.in-Some.wait c.requires waits
    (subst (All (λ p. hidden_by c.args.table.now c.args.fact (slice_get c.args.closure.now.facts.keys p) ≡ false))
    (take_all c.loop-place.place-index c.places-place-items.result.now c.loop-place-test.false ∙ c.places-place-items.ensures) c.loop-place.invariant)
