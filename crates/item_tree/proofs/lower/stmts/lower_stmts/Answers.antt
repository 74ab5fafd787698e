use Rattle.std.proofs.Common.{◌++◌, ap, sym, ◌∙◌, append-nil}
use Rattle.item_tree.proofs.Common.{err_from_is_err_and, to_list}
use Rattle.item_tree.proofs.Statements.{Lowers-stmts, passed-stmts, passed-tail}
use Rattle.item_tree.proofs.lower.stmts.lower_stmts.Goals as goal
use Rattle.item_tree.proofs.lower.stmts.lower_stmts.Goals.{in-Some+in_ok-push, in_default}

pub returns-in_err-ids : goal.returns-in_err-ids
returns-in_err-ids c =
    let p = err_from_is_err_and c.from_residual.result c.from_residual.ensures.1 in
    rw (p.1, p.2) (passed-stmts c.args.ctx c.args.stmts.now c.args.tail.now c.args.rows.now c.in_err-ids.field-0.0 c.in_err-ids.ensures)

pub returns-in_err-id : goal.returns-in_err-id
returns-in_err-id c =
    let p = err_from_is_err_and c.from_residual-in_err-id.result c.from_residual-in_err-id.ensures.1 in
    rw (p.1, p.2) (passed-tail c.args.ctx c.args.stmts.now c.args.tail.now c.in_err-id.field-0.0 c.in_ok-ids.ensures c.in_err-id.ensures)

pub returns : goal.returns
returns c =
    let ids = c.in_ok-ids.ids.items in
    let whole = Lowers-stmts c.args.ctx c.args.stmts.now c.args.tail.now c.in_ok-ids.ensures c.in_ok-id.ensures c.match-branch-3.ids.items in
    elim c.match-branch-3.branch [
      | in-Some+in_ok-push w ↦ whole (ap (λ z. ids ++ to_list z) w.in-Some.is ∙ sym w.in_ok-push.ensures.items ∙ sym (ap (λ v. v.items) w.ids-is))
      | in_default w ↦ whole (ap (λ z. ids ++ to_list z) w.in_default.is ∙ append-nil ids ∙ sym (ap (λ v. v.items) w.ids-is))
    ]
