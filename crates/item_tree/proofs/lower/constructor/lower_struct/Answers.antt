use Rattle.std.proofs.Common.{◌≤◌, [], ◌∷◌, length, subst}
use Rattle.item_tree.proofs.Common.{err_from_is_err_and, fields_view, attr_limit, ctor_of, shape_of, read_visibility, attrs_in, Meets, sizes_meeting, IsPassed}
use Rattle.item_tree.proofs.Constructors.{Lowers-struct, own-unmet}
use Rattle.item_tree.proofs.lower.constructor.lower_struct.Goals as goal

pub returns-in_err-visibility : goal.returns-in_err-visibility
returns-in_err-visibility c =
    let node = c.args.struct_node.now in
    let fields = fields_view node.kind in
    let v = read_visibility node.visibility in
    let p = err_from_is_err_and c.from_residual.result c.from_residual.ensures.1 in
    let e = c.in_err-visibility.field-0.0 in
    rw (p.1, p.2, c.in-Some.is)
    (own-unmet c.args.rows.now (record { hash = node.hash; number = node.number; attrs = attrs_in c.args.ctx node.attrs.items }) c.in-Some.name v (shape_of fields) (ctor_of fields v) e (subst (λ z. IsPassed (sizes_meeting c.args.rows.now (read_visibility z ∷ [])) e) c.as_ref.ensures.value c.in_err-visibility.ensures.fault))

pub returns : goal.returns
returns c =
    let node = c.args.struct_node.now in
    let v = read_visibility node.visibility in
    let fields = fields_view node.kind in
    let m = subst (λ z. Meets c.args.rows.now c.lower_visibility.new.rows (read_visibility z) c.in_ok-visibility.visibility) c.as_ref.ensures.value c.in_ok-visibility.ensures.met in
    let few = subst (λ z. length (attrs_in c.args.ctx z).attrs ≤ attr_limit) c.deref.ensures.value c.in_ok-push_row.ensures.fits in
    rw c.in-Some.is
    (Lowers-struct _ _ c.in-Some.name c.in_ok-name.name v (shape_of fields) _ (ctor_of fields v) _ m c.in_ok-value_ns_ctor.ensures.met c.in_ok-value_ns_ctor.ensures.given
    c.in_ok-name.ensures.cases c.shape_of.ensures (λ i. record { hash = node.hash; number = node.number; attrs = attrs_in c.args.ctx (c.deref.ensures.value i) }) few c.in_ok-push_row.ensures.pushed)
