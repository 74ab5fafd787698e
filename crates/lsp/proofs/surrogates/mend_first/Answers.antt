use Rattle.std.proofs.Common.{rules, ◌++◌, ◌+◌, ◌∙◌, ap, arith, refl, sym, take, ◌-◌, length}
use Rattle.std.proofs.lemmas.List.{take_rest}
use Rattle.lsp.proofs.Escapes.{mended_first, mended_part}
use Rattle.lsp.proofs.surrogates.mend_first.Goals as goal

pub returns-clause-mended : goal.returns-clause-mended
returns-clause-mended c =
    mended_first c.args.bytes.now (search rules) (omega (arith, c.requires))
    ∙ ap (λ r. take 1 c.args.bytes.now ++ r) (rw take_rest at c.mend_escape.ensures.mended)
    ∙ sym (mended_part 1 (length c.args.bytes.now - 1) c.mend_escape.result (1 + c.mend_escape.result) c.args.bytes.now c.mend_escape.new.bytes refl (omega (arith, c.requires)) (omega arith))
