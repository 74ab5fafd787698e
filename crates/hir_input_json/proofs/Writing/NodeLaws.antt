-- What items have in common is read again.
use Rattle.std.proofs.Common.{◌≡◌, ◌^◌, ℕ, List, [], Bool, true, false, IfSome, codes, refl, ap, ◌∙◌}
use Rattle.serde_json.specs.Data.{Data, array, no_items}
use Rattle.serde_json.specs.Written.{has_float}
use Rattle.hir_input_json.proofs.Writing.Common.{MetaView, metas_from, NodeView, NamedView, Reading, right, under, each, field, array_items, maybe_at, identifier_form, optional, text_form, unless_null, whole_form, named_form, node_form, meta_form, vis_form, Holds, MayHold, NodeData, NamedData, attrs_data, body_data, named_data, node_data, body_kept, node_kept, named_kept, metas_data, maybe_data, name_data, whole_data, visibility_data}
use Rattle.hir_input_json.specs.Reading.{◌>>=◌}
use Rattle.hir_input_json.proofs.Writing.WrittenParts.{HoldAll, bind, mapped, maybe_law, name_law, whole_law}
use Rattle.hir_input_json.proofs.Writing.MetaLaws.{metas_apart, metas_law}
use Rattle.hir_input_json.proofs.Writing.PathLaws.{visibility_law}

-- the metas of a list at their key, which may be a null
abbrev listed_in : Data → Reading (List MetaView)
listed_in d = do
  ds ← under (codes "attrs") (optional no_items array_items (unless_null d))
  under (codes "attrs") (each meta_form ds)

pub record AttrsHold (ms : List MetaView) (d : Data) : Type 0 where
  pub reads : listed_in d ≡ right ms
  pub exact : has_float d ≡ false

pub attrs_law : (ms : List MetaView) → IfSome (attrs_data ms) (AttrsHold ms)
attrs_law ms =
    mapped (metas_data (metas_from ms)) array (HoldAll meta_form metas_from (metas_from ms)) (AttrsHold ms) (metas_law (metas_from ms))
    (λ ds h. record { reads = ap (under (codes "attrs")) (h.each.reads 0) ∙ ap right (metas_apart h.list ms h.made); exact = h.each.exact })

pub record BodyHolds (bodies : Bool) (body : List ℕ) (d : Data) : Type 0 where
  pub reads : optional [] text_form (unless_null d) ≡ right (body_kept bodies body)
  pub exact : has_float d ≡ false

body_law : (bodies : Bool) (body : List ℕ) → BodyHolds bodies body (body_data bodies body)
body_law true body = record { reads = refl; exact = refl }
body_law false body = record { reads = refl; exact = refl }

pub record NodeHolds (bodies : Bool) (n : NodeView) (d : NodeData) : Type 0 where
  pub hash : Holds (whole_form (2 ^ 16)) n.hash d.hash
  pub number : Holds (whole_form (2 ^ 32)) n.number d.number
  pub attrs : AttrsHold n.attrs d.attrs
  pub body : BodyHolds bodies n.body d.body

pub node_law : (bodies : Bool) (n : NodeView) → IfSome (node_data bodies n) (NodeHolds bodies n)
node_law bodies n =
    bind (whole_data (2 ^ 16) n.hash) _ (Holds (whole_form (2 ^ 16)) n.hash) (NodeHolds bodies n) (whole_law (2 ^ 16) n.hash) (λ a h.
    bind (whole_data (2 ^ 32) n.number) _ (Holds (whole_form (2 ^ 32)) n.number) (NodeHolds bodies n) (whole_law (2 ^ 32) n.number) (λ b k.
    bind (attrs_data n.attrs) _ (AttrsHold n.attrs) (NodeHolds bodies n) (attrs_law n.attrs) (λ c m.
    record { hash = h; number = k; attrs = m; body = body_law bodies n.body })))

pub record NamedHolds (bodies : Bool) (n : NamedView) (d : NamedData) : Type 0 where
  pub node : NodeHolds bodies n.node d.node
  pub name : MayHold identifier_form n.name d.name
  pub vis : MayHold vis_form n.visibility d.vis

pub named_law : (bodies : Bool) (n : NamedView) → IfSome (named_data bodies n) (NamedHolds bodies n)
named_law bodies n =
    bind (node_data bodies n.node) _ (NodeHolds bodies n.node) (NamedHolds bodies n) (node_law bodies n.node) (λ d h.
    bind (maybe_data name_data n.name) _ (MayHold identifier_form n.name) (NamedHolds bodies n) (maybe_law name_data identifier_form name_law n.name) (λ a k.
    bind (maybe_data visibility_data n.visibility) _ (MayHold vis_form n.visibility) (NamedHolds bodies n) (maybe_law visibility_data vis_form visibility_law n.visibility) (λ b m.
    record { node = h; name = k; vis = m })))

-- in whatever object these stand
pub node_reads : (bodies : Bool) (n : NodeView) (nd : NodeData) (d : Data) → NodeHolds bodies n nd
    → field (codes "hash") d ≡ unless_null nd.hash → field (codes "number") d ≡ unless_null nd.number → field (codes "attrs") d ≡ unless_null nd.attrs → field (codes "body") d ≡ unless_null nd.body
    → node_form d ≡ right (node_kept bodies n)
node_reads bodies n nd d h a b c e = rw (a, b, c, e, h.hash.there, h.hash.reads, h.number.there, h.number.reads, h.attrs.reads, h.body.reads) refl

-- a node that was read, with the name and the visibility beside it
abbrev named_by : Data → Reading NodeView → Reading NamedView
named_by d r = do
  n ← r
  called ← maybe_at (codes "name") identifier_form d
  vis ← maybe_at (codes "vis") vis_form d
  right (record { node = n; name = called; visibility = vis })

pub named_reads : (bodies : Bool) (n : NamedView) (nd : NamedData) (d : Data) → NamedHolds bodies n nd
    → field (codes "hash") d ≡ unless_null nd.node.hash → field (codes "number") d ≡ unless_null nd.node.number → field (codes "attrs") d ≡ unless_null nd.node.attrs → field (codes "body") d ≡ unless_null nd.node.body
    → field (codes "name") d ≡ unless_null nd.name → field (codes "vis") d ≡ unless_null nd.vis
    → named_form d ≡ right (named_kept bodies n)
named_reads bodies n nd d h a b c e f g =
    ap (named_by d) (node_reads bodies n.node nd.node d h.node a b c e) ∙ rw (f, g, h.name.reads, h.vis.reads) refl
