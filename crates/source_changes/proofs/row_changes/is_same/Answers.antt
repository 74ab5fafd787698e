use Rattle.std.proofs.Common.{ap, sym, ◌∙◌}
use Rattle.source_changes.proofs.Common.{skeleton, text_at}
use Rattle.source_changes.proofs.Texts.{tested_same}
use Rattle.source_changes.proofs.row_changes.is_same.Goals as goal

pub returns : goal.returns
returns c =
    let before = c.args.old in
    let after = c.args.new in
    let olds = c.skeleton.ensures ∙ ap (λ holes. skeleton before.has_docs holes (text_at before.text.now before.part.now.range)) (c.deref.ensures.value ∙ c.in_ok-old_holes.ensures) in
    let news = c.skeleton-2.ensures ∙ ap (λ holes. skeleton after.has_docs holes (text_at after.text.now after.part.now.range)) (c.deref-2.ensures.value ∙ c.in_ok-new_holes.ensures) in
    tested_same _ _ c.is_same.result (λ t. sym olds ∙ c.is_same.ensures.0 t ∙ news, λ e. c.is_same.ensures.1 (olds ∙ e ∙ sym news))
