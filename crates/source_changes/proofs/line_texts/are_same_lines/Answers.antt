use Rattle.std.proofs.Common.{◌∙◌, refl, sym}
use Rattle.source_changes.specs.Skeletons.{without_returns}
use Rattle.source_changes.proofs.line_texts.are_same_lines.Goals as goal

pub returns-then-not-is_next_byte : goal.returns-then-not-is_next_byte
returns-then-not-is_next_byte c =
    (λ f. cc, λ e. ((c.if-not-is_next_byte.ensures (without_returns c.next_byte.new.left.now)).0 (sym c.in-Some.ensures.taken ∙ c.bytes.invariant.1 e)).0)

pub bytes-preserved : goal.bytes-preserved
bytes-preserved c =
    let next = c.if-not-is_next_byte.ensures (without_returns c.next_byte.new.left.now) in
    (λ e. c.bytes.invariant.0 (c.in-Some.ensures.taken ∙ next.1 (refl, e)), λ e. (next.0 (sym c.in-Some.ensures.taken ∙ c.bytes.invariant.1 e)).1)
