use Rattle.std.proofs.Common.{◌≤◌, length, subst, refl}
use Rattle.item_tree.proofs.Common.{err_from_is_err_and, attr_limit, attrs_in, sizes_pushing, IsPassed, extern_block}
use Rattle.item_tree.proofs.Lowering.{block_head, Adds-nothing, Lowers-parent, full-parent, below-block, kept-block, written-block}
use Rattle.item_tree.proofs.lower.extern_block.lower_extern_block.Goals as goal

pub returns-in_err-children : goal.returns-in_err-children
returns-in_err-children c =
    let n = c.args.block_node.now in
    let p = err_from_is_err_and c.from_residual.result c.from_residual.ensures.1 in
    rw (p.1, p.2, kept-block c.args.ctx n, written-block n) (below-block c.args.rows.now _ (block_head c.args.ctx n) _ c.in_err-children.field-0.0 c.in_err-children.ensures)

pub returns-in_err-push_row : goal.returns-in_err-push_row
returns-in_err-push_row c =
    let n = c.args.block_node.now in
    let p = err_from_is_err_and c.from_residual-in_err-push_row.result c.from_residual-in_err-push_row.ensures.1 in
    rw (p.1, p.2, kept-block c.args.ctx n)
    (full-parent _ (block_head c.args.ctx n) extern_block c.in_err-push_row.field-0.0 (Adds-nothing c.args.rows.now) c.in_ok-children.ensures (subst (λ z. IsPassed (sizes_pushing c.lower_block_items.new.rows (attrs_in c.args.ctx z)) c.in_err-push_row.field-0.0) c.deref.ensures.value c.in_err-push_row.ensures.fault))

pub returns : goal.returns
returns c =
    let n = c.args.block_node.now in
    let ctx = c.args.ctx in
    let few = subst (λ z. length (attrs_in ctx z).attrs ≤ attr_limit) c.deref.ensures.value c.in_ok-push_row.ensures.fits in
    rw (kept-block ctx n, written-block n)
    (Lowers-parent (block_head ctx n) _ extern_block extern_block (Adds-nothing c.args.rows.now) refl refl (λ i. record { hash = n.hash; number = n.number; attrs = attrs_in ctx (c.deref.ensures.value i) }) few c.in_ok-children.ensures c.in_ok-push_row.ensures.pushed)
