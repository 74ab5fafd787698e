use Rattle.std.proofs.Common.{◌≤◌, length, [], ◌∷◌, ◌++◌, subst, ap, sym, ◌∙◌, append-nil, arith}
use Rattle.item_tree.proofs.Common.{err_from_is_err_and, item_view, attr_limit, read_visibility, attrs_in, Meets, sizes_meeting, sizes_pushing, to_list, IsPassed, common_steps, item_views}
use Rattle.item_tree.proofs.Lowering.{unmet-module, Lowers-step, passed-step, Lowers-inline, full-inline}
use Rattle.item_tree.proofs.lower.+lower.Goals as goal
use Rattle.item_tree.proofs.lower.+lower.Goals.{lower_items-in-Some+in_ok-push, lower_items-in_default}

pub lower_items-returns-in_err-id : goal.lower_items-returns-in_err-id
lower_items-returns-in_err-id t c =
    let p = err_from_is_err_and c.from_residual-in_err-id.result c.from_residual-in_err-id.ensures.1 in
    rw (p.1, p.2)
    (passed-step c.args.ctx item_view c.args.items.now c.loop-item.item-index c.item-item.result c.in_err-id.field-0.0 c.item-item.is c.loop-item-test.true c.loop-item.invariant c.in_err-id.ensures)

pub lower_items-loop-item-preserved : goal.lower_items-loop-item-preserved
lower_items-loop-item-preserved t c =
    let ids = c.loop-item.ids.items in
    let step = Lowers-step c.args.ctx item_view c.args.items.now c.loop-item.item-index c.item-item.result c.item-item.is c.loop-item-test.true c.loop-item.invariant c.in_ok-id.ensures c.match-branch-3.ids.items in
    elim c.match-branch-3.branch [
      | lower_items-in-Some+in_ok-push w ↦ step (ap (λ z. ids ++ to_list z) w.in-Some.is ∙ sym w.in_ok-push.ensures.items ∙ sym (ap (λ v. v.items) w.ids-is))
      | lower_items-in_default w ↦ step (ap (λ z. ids ++ to_list z) w.in_default.is ∙ append-nil ids ∙ sym (ap (λ v. v.items) w.ids-is))
    ]

pub lower_module-returns-in_err-visibility : goal.lower_module-returns-in_err-visibility
lower_module-returns-in_err-visibility t c =
    let p = err_from_is_err_and c.from_residual.result c.from_residual.ensures.1 in
    let e = c.in_err-visibility.field-0.0 in
    rw (p.1, p.2)
    (unmet-module c.args.ctx c.args.mod_node.now c.args.rows.now c.in-Some.name e c.in-Some.is (subst (λ z. IsPassed (sizes_meeting c.args.rows.now (read_visibility z ∷ [])) e) c.as_ref.ensures.value c.in_err-visibility.ensures.fault))

pub lower_module-returns-in_err-push_row-2 : goal.lower_module-returns-in_err-push_row-2
lower_module-returns-in_err-push_row-2 t c =
    let p = err_from_is_err_and c.from_residual-in_err-push_row-2.result c.from_residual-in_err-push_row-2.ensures.1 in
    let m = subst (λ z. Meets c.args.rows.now c.lower_visibility.new.rows (read_visibility z) c.in_ok-visibility.visibility) c.as_ref.ensures.value c.in_ok-visibility.ensures.met in
    rw (p.1, p.2)
    (full-inline c.args.ctx c.args.mod_node.now c.in-Some.name c.in_err-push_row-2.field-0.0 c.in-Some.is c.if-mod_node.false m c.in_ok-items.ensures (subst (λ z. IsPassed (sizes_pushing c.lower_module_items.new.rows (attrs_in c.args.ctx z)) c.in_err-push_row-2.field-0.0) c.deref-2.ensures.value c.in_err-push_row-2.ensures.fault))

pub lower_module-returns : goal.lower_module-returns
lower_module-returns t c =
    let node = c.args.mod_node.now in
    let ctx = c.args.ctx in
    let m = subst (λ z. Meets c.args.rows.now c.lower_visibility.new.rows (read_visibility z) c.in_ok-visibility.visibility) c.as_ref.ensures.value c.in_ok-visibility.ensures.met in
    let few = subst (λ z. length (attrs_in ctx z).attrs ≤ attr_limit) c.deref-2.ensures.value c.in_ok-push_row-2.ensures.fits in
    Lowers-inline ctx node _ c.in-Some.name c.in_ok-name-2.name c.in-Some.is c.if-mod_node.false c.in_ok-name-2.ensures.cases (λ i. record { hash = node.hash; number = node.number; attrs = attrs_in ctx (c.deref-2.ensures.value i) }) few m c.in_ok-items.ensures c.in_ok-push_row-2.ensures.pushed

pub lower_items-loop-item-init : goal.lower_items-loop-item-init
lower_items-loop-item-init t c = grind (arith, common_steps)

pub lower_items-returns : goal.lower_items-returns
lower_items-returns t c = grind (arith, common_steps)

pub lower_module-returns-in_err-push_row : goal.lower_module-returns-in_err-push_row
lower_module-returns-in_err-push_row t c = grind (arith, item_views)

pub lower_module-returns-then-mod_node : goal.lower_module-returns-then-mod_node
lower_module-returns-then-mod_node t c = grind (arith, item_views)

pub lower_module_items-returns-in-Some : goal.lower_module_items-returns-in-Some
lower_module_items-returns-in-Some t c = grind (arith, item_views)
