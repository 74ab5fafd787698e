use Rattle.std.proofs.Common.{sym, subst, string_bytes}
use Rattle.item_tree_request.proofs.Common.{err_from_is_err_and, IsOutputOf}
use Rattle.item_tree_request.proofs.runner.run_with.Goals as goal

pub returns-in_err-write_whole-clause-run : goal.returns-in_err-write_whole-clause-run
returns-in_err-write_whole-clause-run g c =
    let IsText = g.T.ShowWriter.is_text in
    let p = err_from_is_err_and c.from_residual-in_err-write_whole.result c.from_residual-in_err-write_whole.ensures.1 in
    let failed = c.in_err-write_whole.ensures.err in
    let bytes = c.in_ok-bytes.bytes.items in
    let text = c.as_bytes.result.now in
    let told : IsOutputOf IsText bytes (string_bytes c.in_ok-text.text) = subst (λ b. IsOutputOf IsText b (string_bytes c.in_ok-text.text)) c.deref.ensures.value c.in_ok-text.ensures in
    let output : IsOutputOf IsText bytes text = subst (IsOutputOf IsText bytes) (sym c.as_bytes.ensures.value) told in
    rw (p.1, p.2, failed.0) (bytes, text, c.in_ok-bytes.ensures.ok, output, failed.1)
