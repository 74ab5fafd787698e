use Rattle.item_tree.proofs.Common.{err_from_is_err_and, meet_all}
use Rattle.std.proofs.Common.{sym, ◌∙◌, ap}
use Rattle.item_tree.proofs.Constructors.{unmet-first, MeetsUpTo-step}
use Rattle.item_tree.proofs.lower.constructor.alloc_visibilities.Goals as goal

pub returns-in_err-alloc_visibility-clause-fault : goal.returns-in_err-alloc_visibility-clause-fault
returns-in_err-alloc_visibility-clause-fault c =
    let p = err_from_is_err_and c.from_residual.result c.from_residual.ensures.1 in
    let k = c.loop-visibility.rows.arena in
    rw (p.1, p.2)
    (unmet-first c.args.rows.now c.loop-visibility.rows c.in-Some.visibility c.next.new.self c.args.visibilities.keys c.in_err-alloc_visibility.field-0.0
    (ap (meet_all k) (sym c.in-Some.ensures.steps) ∙ c.loop-visibility.invariant.met) c.in_err-alloc_visibility.ensures.fault)

pub loop-visibility-preserved : goal.loop-visibility-preserved
loop-visibility-preserved c = MeetsUpTo-step c.loop-visibility.visibility-iterator c.in-Some.ensures.steps c.loop-visibility.invariant c.in_ok-alloc_visibility.ensures.met c.in_ok-push.ensures.items
