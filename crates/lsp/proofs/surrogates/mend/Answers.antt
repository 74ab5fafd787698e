use Rattle.std.proofs.Common.{◌++◌, ◌+◌, ◌∙◌, ap, arith, refl, sym, take, ◌-◌, length}
use Rattle.std.proofs.lemmas.List.{take_rest}
use Rattle.lsp.proofs.Escapes.{mended_part}
use Rattle.lsp.proofs.surrogates.mend.Goals as goal

pub loop-at-preserved : goal.loop-at-preserved
loop-at-preserved c =
    c.loop-at.invariant
    ∙ ap (λ r. take c.loop-at.at c.loop-at.bytes ++ r) (rw take_rest at c.mend_first-at.ensures.mended)
    ∙ sym (mended_part c.loop-at.at (length c.loop-at.bytes - c.loop-at.at) c.mend_first-at.result (c.loop-at.at + c.mend_first-at.result) c.loop-at.bytes c.mend_first-at.new.bytes refl (omega arith) (omega arith))
