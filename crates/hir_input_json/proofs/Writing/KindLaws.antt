-- An item that has no items in it is read again.
use Rattle.std.proofs.Common.{◌≡◌, ℕ, List, [], ◌∷◌, Bool, false, IfSome, Option, Some, codes, refl, ap, ◌∙◌}
use Rattle.serde_json.specs.Data.{Data, string, array, object, Members}
use Rattle.serde_json.specs.Find.{as_object}
use Rattle.serde_json.specs.Written.{has_float}
use Rattle.hir_input_json.proofs.Writing.Common.{Rename, Visibility, NodeView, NamedView, UseView, CallView, FieldsView, tuple_fields, ItemView, struct_item, use_item, extern_crate, impl_item, macro_rules, asm_item, Reading, right, reading_map, field, flag, maybe_at, identifier_form, optional_at, required_at, unless_null, named_form, fields_form, tuple_field, expand_to_at, call_form, context, context_at, path_node_form, path_at, vis_form, rename_form, use_tree_form, item_reads_itself, Holds, MayHold, HoldEach, asm_data, asm_object, call_data, call_object, extern_crate_data, extern_crate_object, fields_data, impl_data, impl_object, macro_rules_data, macro_rules_object, named_data, node_data, plain_data, plain_object, struct_data, struct_object, use_data, use_object, call_kept, named_kept, node_kept, use_kept, context_data, each_data, maybe_data, name_data, path_data, visibility_data, rename_data, use_tree_data}
use Rattle.hir_input.specs.declared.expand_to.ExpandTo.{ExpandTo}
use Rattle.hir_input.specs.declared.expand_to.ExpandTo.TheVariants as expand_to
use Rattle.hir_input.specs.Id.{shown_expand_to}
use Rattle.hir_input_json.specs.Reading.{◌>>=◌}
use Rattle.hir_input_json.specs.Items as forms
use Rattle.hir_input_json.proofs.Writing.WrittenParts.{bind, both, mapped, maybe_law, name_law, next_law}
use Rattle.hir_input_json.proofs.Writing.LiteralLaws.{context_law}
use Rattle.hir_input_json.proofs.Writing.NodeLaws.{NamedHolds, NodeHolds, named_law, named_reads, node_law, node_reads}
use Rattle.hir_input_json.proofs.Writing.PathLaws.{path_law, visibility_law}
use Rattle.hir_input_json.proofs.Writing.UseTreeLaws.{rename_law, use_tree_law}

-- ---- kinds of items, over what was read of the keys of every item

-- and one part more
abbrev pub with_part : {N A B : Type 0} → (N → A → B) → Reading A → Reading N → Reading B
with_part make part r = do
  n ← r
  a ← part
  right (make n a)

abbrev use_by : Data → Reading NodeView → Reading ItemView
use_by d r = do
  n ← r
  vis ← maybe_at (codes "vis") vis_form d
  tree ← maybe_at (codes "tree") use_tree_form d
  right (use_item (record { node = n; visibility = vis; use_tree = tree }))

abbrev call_by : Data → Reading NodeView → Reading CallView
call_by d r = do
  n ← r
  p ← path_at d
  expands ← expand_to_at d
  ctxt ← context_at d
  right (record { node = n; path = p; expand_to = expands; ctxt = ctxt })

-- ---- what is written is read again

-- an item of this word that is read by its name and visibility
pub plain_law : (form : Data → Reading ItemView) (word : List ℕ) (make : NamedView → ItemView) → ((ms : Members) → field (codes "is") (object ms) ≡ Some (string word) → form (object ms) ≡ reading_map make (named_form (object ms)))
    → (bodies : Bool) (n : NamedView) → IfSome (plain_data bodies word n) (Holds form (make (named_kept bodies n)))
unfolding field
plain_law form word make by bodies n =
    mapped (named_data bodies n) (plain_object word) (NamedHolds bodies n) (Holds form (make (named_kept bodies n))) (named_law bodies n) (λ nd h.
    record {
      there = refl;
      reads = by _ refl ∙ ap (reading_map make) (named_reads bodies n nd (plain_object word nd) h refl refl refl refl refl refl);
      exact = rw (h.node.attrs.exact, h.node.body.exact, h.node.hash.exact, h.name.exact, h.node.number.exact, h.vis.exact) refl;
    })

field_each : (fs : List (Option Visibility)) → IfSome (each_data (maybe_data visibility_data) fs) (HoldEach tuple_field fs)
field_each [] = record { reads = λ n. refl; exact = refl }
field_each (f ∷ fs) =
    next_law tuple_field f fs (maybe_data visibility_data f) (each_data (maybe_data visibility_data) fs) (MayHold vis_form f) (maybe_law visibility_data vis_form visibility_law f) (λ d h. h.reads) (λ d h. h.exact) (field_each fs)

fields_law : (f : FieldsView) → IfSome (fields_data f) (Holds fields_form f)
fields_law (tuple_fields fs) =
    mapped (each_data (maybe_data visibility_data) fs) array (HoldEach tuple_field fs) (Holds fields_form (tuple_fields fs)) (field_each fs)
    (λ ds h. record { there = refl; reads = ap (reading_map tuple_fields) (h.reads 0); exact = h.exact })
fields_law f = record { there = refl; reads = refl; exact = refl }

pub struct_law : (bodies : Bool) (n : NamedView) (f : FieldsView) → IfSome (struct_data bodies n f) (Holds forms.item (struct_item (named_kept bodies n) f))
unfolding field
struct_law bodies n f =
    both (named_data bodies n) (fields_data f) _ (NamedHolds bodies n) (Holds fields_form f) (Holds forms.item (struct_item (named_kept bodies n) f)) (named_law bodies n) (fields_law f) (λ nd h fd k.
    record {
      there = refl;
      reads = item_reads_itself _
          ∙ ap (with_part struct_item (required_at (codes "fields") fields_form (struct_object nd fd))) (named_reads bodies n nd (struct_object nd fd) h refl refl refl refl refl refl)
          ∙ rw (k.there, k.reads) refl;
      exact = rw (h.node.attrs.exact, h.node.body.exact, k.exact, h.node.hash.exact, h.name.exact, h.node.number.exact, h.vis.exact) refl;
    })

pub use_law : (bodies : Bool) (u : UseView) → IfSome (use_data bodies u) (Holds forms.item (use_item (use_kept bodies u)))
unfolding field
use_law bodies u =
    bind (node_data bodies u.node) _ (NodeHolds bodies u.node) (Holds forms.item (use_item (use_kept bodies u))) (node_law bodies u.node) (λ nd h.
    bind (maybe_data visibility_data u.visibility) _ (MayHold vis_form u.visibility) (Holds forms.item (use_item (use_kept bodies u))) (maybe_law visibility_data vis_form visibility_law u.visibility) (λ vd k.
    bind (maybe_data use_tree_data u.use_tree) _ (MayHold use_tree_form u.use_tree) (Holds forms.item (use_item (use_kept bodies u))) (maybe_law use_tree_data use_tree_form use_tree_law u.use_tree) (λ td m.
    record {
      there = refl;
      reads = item_reads_itself _
          ∙ ap (use_by (use_object nd td vd)) (node_reads bodies u.node nd (use_object nd td vd) h refl refl refl refl)
          ∙ rw (k.reads, m.reads) refl;
      exact = rw (h.attrs.exact, h.body.exact, h.hash.exact, h.number.exact, m.exact, k.exact) refl;
    })))

pub extern_crate_law : (bodies : Bool) (n : NamedView) (r : Option Rename) → IfSome (extern_crate_data bodies n r) (Holds forms.item (extern_crate (named_kept bodies n) r))
unfolding field
extern_crate_law bodies n r =
    both (named_data bodies n) (maybe_data rename_data r) _ (NamedHolds bodies n) (MayHold rename_form r) (Holds forms.item (extern_crate (named_kept bodies n) r)) (named_law bodies n) (maybe_law rename_data rename_form rename_law r) (λ nd h rd k.
    record {
      there = refl;
      reads = item_reads_itself _
          ∙ ap (with_part extern_crate (maybe_at (codes "rename") rename_form (extern_crate_object nd rd))) (named_reads bodies n nd (extern_crate_object nd rd) h refl refl refl refl refl refl)
          ∙ rw k.reads refl;
      exact = rw (h.node.attrs.exact, h.node.body.exact, h.node.hash.exact, h.name.exact, h.node.number.exact, k.exact, h.vis.exact) refl;
    })

pub impl_law : (bodies : Bool) (n : NodeView) (of_trait : Bool) → IfSome (impl_data bodies n of_trait) (Holds forms.item (impl_item (node_kept bodies n) of_trait))
unfolding field
impl_law bodies n of_trait =
    mapped (node_data bodies n) _ (NodeHolds bodies n) (Holds forms.item (impl_item (node_kept bodies n) of_trait)) (node_law bodies n) (λ nd h.
    record {
      there = refl;
      reads = item_reads_itself _ ∙ ap (with_part impl_item (optional_at false (codes "trait") flag (impl_object nd of_trait))) (node_reads bodies n nd (impl_object nd of_trait) h refl refl refl refl);
      exact = rw (h.attrs.exact, h.body.exact, h.hash.exact, h.number.exact) refl;
    })

expand_law : (e : ExpandTo) → forms.expand_to (string (shown_expand_to e)) ≡ right e
expand_law expand_to.Statements = refl
expand_law e = refl

-- a call by its own form, and the word of its kind
pub record CallHolds (bodies : Bool) (c : CallView) (d : Data) : Type 0 where
  pub is : field (codes "is") d ≡ Some (string (codes "macro_call"))
  pub members : Members
  pub object : as_object d ≡ Some members
  pub there : unless_null d ≡ Some d
  pub reads : call_form d ≡ right (call_kept bodies c)
  pub exact : has_float d ≡ false

pub call_law : (bodies : Bool) (c : CallView) → IfSome (call_data bodies c) (CallHolds bodies c)
unfolding field
call_law bodies c =
    bind (node_data bodies c.node) _ (NodeHolds bodies c.node) (CallHolds bodies c) (node_law bodies c.node) (λ nd h.
    bind (maybe_data path_data c.path) _ (MayHold path_node_form c.path) (CallHolds bodies c) (maybe_law path_data path_node_form path_law c.path) (λ pd k.
    bind (context_data c.ctxt) _ (Holds context c.ctxt) (CallHolds bodies c) (context_law c.ctxt) (λ cd m.
    record {
      is = refl;
      members = _;
      object = refl;
      there = refl;
      reads =
          ap (call_by (call_object nd pd (string (shown_expand_to c.expand_to)) cd)) (node_reads bodies c.node nd (call_object nd pd (string (shown_expand_to c.expand_to)) cd) h refl refl refl refl)
          ∙ rw (k.reads, expand_law c.expand_to, m.there, m.reads) refl;
      exact = rw (h.attrs.exact, h.body.exact, m.exact, h.hash.exact, h.number.exact, k.exact) refl;
    })))

pub macro_rules_law : (bodies : Bool) (n : NodeView) (called : Option (List ℕ)) → IfSome (macro_rules_data bodies n called) (Holds forms.item (macro_rules (node_kept bodies n) called))
unfolding field
macro_rules_law bodies n called =
    both (node_data bodies n) (maybe_data name_data called) _ (NodeHolds bodies n) (MayHold identifier_form called) (Holds forms.item (macro_rules (node_kept bodies n) called)) (node_law bodies n) (maybe_law name_data identifier_form name_law called) (λ nd h cd k.
    record {
      there = refl;
      reads = item_reads_itself _ ∙ ap (with_part macro_rules (maybe_at (codes "name") identifier_form (macro_rules_object nd cd))) (node_reads bodies n nd (macro_rules_object nd cd) h refl refl refl refl) ∙ rw k.reads refl;
      exact = rw (h.attrs.exact, h.body.exact, h.hash.exact, k.exact, h.number.exact) refl;
    })

pub asm_law : (bodies : Bool) (n : NodeView) → IfSome (asm_data bodies n) (Holds forms.item (asm_item (node_kept bodies n)))
unfolding field
asm_law bodies n =
    mapped (node_data bodies n) _ (NodeHolds bodies n) (Holds forms.item (asm_item (node_kept bodies n))) (node_law bodies n) (λ nd h.
    record {
      there = refl;
      reads = item_reads_itself _ ∙ ap (reading_map asm_item) (node_reads bodies n nd (asm_object nd) h refl refl refl refl);
      exact = rw (h.attrs.exact, h.body.exact, h.hash.exact, h.number.exact) refl;
    })
