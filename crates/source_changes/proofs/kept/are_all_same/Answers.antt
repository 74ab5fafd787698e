use Rattle.std.proofs.Common.{◌∙◌, refl, sym}
use Rattle.source_changes.specs.Inner.{left_texts}
use Rattle.source_changes.proofs.kept.are_all_same.Goals as goal

pub returns-then-not-is_next : goal.returns-then-not-is_next
returns-then-not-is_next c =
    (λ f. cc, λ e. ((c.if-not-is_next.ensures.next (left_texts c.next_taken.new.left)).0 (sym c.in-Some.ensures.taken ∙ c.texts.invariant.same.1 e)).0)

pub texts-preserved : goal.texts-preserved
texts-preserved c =
    let next = c.if-not-is_next.ensures.next (left_texts c.next_taken.new.left) in
    record {
      ours = c.in-Some.ensures.after;
      theirs = c.is_next.ensures.after;
      same = (λ e. c.texts.invariant.same.0 (c.in-Some.ensures.taken ∙ next.1 (refl, e)), λ e. (next.0 (sym c.in-Some.ensures.taken ∙ c.texts.invariant.same.1 e)).1);
    }
