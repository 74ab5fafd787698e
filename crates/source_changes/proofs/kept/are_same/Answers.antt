use Rattle.std.proofs.Common.{◌∙◌, refl, sym}
use Rattle.source_changes.specs.Inner.{left_texts}
use Rattle.source_changes.proofs.kept.are_same.Goals as goal

pub returns-then-not-is_next : goal.returns-then-not-is_next
returns-then-not-is_next c =
    (λ f. cc, λ e. ((c.if-not-is_next.ensures.next (left_texts c.next_taken.new.left)).0 (sym c.in-Some.ensures.taken ∙ e)).0)

pub returns : goal.returns
returns c =
    let next = c.if-not-is_next.ensures.next (left_texts c.next_taken.new.left) in
    let same = c.pass_same.ensures.same in (
      λ t. c.in-Some.ensures.taken ∙ next.1 (refl, same.0 (c.are_all_same.ensures.0 t)),
      λ e. c.are_all_same.ensures.1 (same.1 (next.0 (sym c.in-Some.ensures.taken ∙ e)).1),
    )
