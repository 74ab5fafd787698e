use Rattle.std.proofs.Common.{◌≡◌, ◌∷◌, None, All, rules, sym, ap, subst, ◌∙◌, arith}
use Rattle.text_session.proofs.Common.{HasSlotFor, text_in, text_after}
use Rattle.text_session.proofs.KeptTexts.{all_rest, slots_for_stay}
use Rattle.text_session.proofs.texts.put_first.Goals as goal

pub make-requires : goal.make-requires
make-requires c =
    let step : c.loop-change.change-iterator.rest.items ≡ c.in-Some.change ∷ c.next.new.self.rest.items = search rules in
    let room = subst (All (HasSlotFor c.loop-change.texts.entries)) step c.loop-change.invariant.1 in
    room 0 None (omega arith)

pub loop-change-preserved : goal.loop-change-preserved
loop-change-preserved c =
    let old = c.loop-change.texts.entries in
    let new = c.make.new.texts.entries in
    let rest = c.next.new.self.rest.items in
    let change = c.in-Some.change in
    let step : c.loop-change.change-iterator.rest.items ≡ change ∷ rest = search rules in
    let room = subst (All (HasSlotFor old)) step c.loop-change.invariant.1 in (
      λ f. c.make.ensures.texts rest f ∙ ap (λ cs. text_after (text_in old) cs f) (sym step) ∙ c.loop-change.invariant.0 f,
      slots_for_stay old new c.make.ensures.slots rest (all_rest (HasSlotFor old) change rest room),
    )
