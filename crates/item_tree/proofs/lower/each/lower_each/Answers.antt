use Rattle.std.proofs.Common.{◌++◌, ap, sym, ◌∙◌, append-nil}
use Rattle.item_tree.proofs.Common.{err_from_is_err_and, to_list}
use Rattle.item_tree.proofs.Lowering.{Lowers-step, passed-step}
use Rattle.item_tree.proofs.lower.each.lower_each.Goals as goal
use Rattle.item_tree.proofs.lower.each.lower_each.Goals.{in-Some+in_ok-push, in_default}

pub returns-in_err-id : goal.returns-in_err-id
returns-in_err-id g c =
    let p = err_from_is_err_and c.from_residual.result c.from_residual.ensures.1 in
    rw (p.1, p.2)
    (passed-step c.args.ctx g.T.LowerNode.seen c.args.nodes.now c.loop-node.node-index c.node-item.result c.in_err-id.field-0.0 c.node-item.is c.loop-node-test.true c.loop-node.invariant c.in_err-id.ensures)

pub loop-node-preserved : goal.loop-node-preserved
loop-node-preserved g c =
    let ids = c.loop-node.ids.items in
    let step = Lowers-step c.args.ctx g.T.LowerNode.seen c.args.nodes.now c.loop-node.node-index c.node-item.result c.node-item.is c.loop-node-test.true c.loop-node.invariant c.in_ok-id.ensures c.match-branch-2.ids.items in
    elim c.match-branch-2.branch [
      | in-Some+in_ok-push w ↦ step (ap (λ z. ids ++ to_list z) w.in-Some.is ∙ sym w.in_ok-push.ensures.items ∙ sym (ap (λ v. v.items) w.ids-is))
      | in_default w ↦ step (ap (λ z. ids ++ to_list z) w.in_default.is ∙ append-nil ids ∙ sym (ap (λ v. v.items) w.ids-is))
    ]
