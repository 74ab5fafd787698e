use Rattle.rust_edits.proofs.Common.{IsCharBoundary, LacksByte}
use Rattle.rust_edits.proofs.ToldEdits.{uncut_byte}
use Rattle.rust_edits.proofs.Steps.{if_none, off}
use Rattle.rust_edits.proofs.parts.behind_byte.Goals as goal

pub returns-in_err-_first-in-len1-up-clause-none : goal.returns-in_err-_first-in-len1-up-clause-none
returns-in_err-_first-in-len1-up-clause-none c =
    let text = c.args.text.now in
    let uncut = off c.split_at_checked.result (IsCharBoundary text 1) c.split_at_checked.ensures.variant c.in_err-_first-in-len1-up.was in
    if_none c.from_residual.result (LacksByte text c.args.byte) (uncut_byte text c.args.byte c.utf8.text uncut)
