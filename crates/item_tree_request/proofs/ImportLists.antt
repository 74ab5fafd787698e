-- The lines of imports by the ids of items.
use Rattle.std.proofs.Common.{◌≡◌, ℕ, Bool, true, false, Some, List, [], ◌++◌, refl, sym, ap, ◌∙◌, flat_map}
use Rattle.hir_input.specs.declared.ids.AstIdKind.TheVariants as kind
use Rattle.hir_input.specs.declared.ids.FileAstId.{FileAstId}
use Rattle.item_tree.specs.declared.visibility.RawVisibility.{RawVisibility}
use Rattle.item_tree.specs.Layout.{leaf_map, trunk_map, vis_at}
use Rattle.item_tree.specs.Tree.{Tree}
use Rattle.item_tree.specs.Node.{Leaf, plain, constant, struct_item, outline, use_item, extern_crate, impl_item, macro_call, macro_rules, Trunk, inline, extern_block, leaf_kind, file_id, Head, parent, Forest, empty, more, nodes, Unfolding}
use Rattle.item_tree.specs.Shown.{StandFor, IsLeaf, IsParent}
use Rattle.item_tree.proofs.Lookup.{leaf_kind-map}
use Rattle.item_tree.proofs.Walking.{children_contained, flat_map_of_id, leaf_of_id, parent_counts, parent_of_id}
use Rattle.item_tree_request.proofs.Common.{use_lines, leaf_lines, node_lines, import_lines, import_lines_at}

abbrev pub is_use : {V : Type 0} → Leaf V → Bool
is_use (use_item v t) = true
is_use l = false

no_lines : {V : Type 0} (reserved : List (List ℕ)) (h : Head) (l : Leaf V) → is_use l ≡ false → leaf_lines reserved h l ≡ []
no_lines reserved h (plain k n v) e = refl
no_lines reserved h (constant n v) e = refl
no_lines reserved h (struct_item n v s c) e = refl
no_lines reserved h (outline n v) e = refl
no_lines reserved h (use_item v t) e = cc
no_lines reserved h (extern_crate n v a) e = refl
no_lines reserved h (impl_item of_trait) e = refl
no_lines reserved h (macro_call p x c) e = refl
no_lines reserved h (macro_rules n) e = refl

module _ (reserved : List (List ℕ)) (u : Unfolding) where
  flat_map-nodes : (f : Forest) → flat_map (node_lines reserved) (nodes f) ≡ import_lines reserved f
  flat_map-nodes empty = refl
  flat_map-nodes (more n f) = ap (λ lines. node_lines reserved n ++ lines) (flat_map-nodes f)

  pub top_lines : (is : List ℕ) (f : Forest) → StandFor u is f → flat_map (import_lines_at reserved u) is ≡ import_lines reserved f
  top_lines is f e = flat_map_of_id u (node_lines reserved) is (nodes f) e ∙ flat_map-nodes f

  -- an item without items in it, by the numbers of its visibilities
  same_lines : (h : Head) (l : Leaf ℕ) (m : Leaf RawVisibility) → leaf_map (vis_at u.forest) l ≡ leaf_map Some m → leaf_lines reserved h m ≡ leaf_lines reserved h l
  same_lines h (plain k n v) (plain j o w) e = refl
  same_lines h (constant n v) (constant o w) e = refl
  same_lines h (struct_item n v s c) (struct_item o w r d) e = refl
  same_lines h (outline n v) (outline o w) e = refl
  same_lines h (extern_crate n v a) (extern_crate o w b) e = refl
  same_lines h (impl_item b) (impl_item c) e = refl
  same_lines h (macro_call p x c) (macro_call q y d) e = refl
  same_lines h (macro_rules n) (macro_rules o) e = refl
  same_lines h (use_item v t) (use_item w r) e = let q : t ≡ r = cc in ap (use_lines reserved (file_id kind.Use h)) (sym q)
  same_lines h _ _ e = cc

  leaf_shows : (i : ℕ) (a : FileAstId) (l : Leaf ℕ) (p : IsLeaf u i a l) → import_lines_at reserved u i ≡ leaf_lines reserved p.head l
  leaf_shows i a l p = leaf_of_id u [] (node_lines reserved) i a l p ∙ same_lines p.head l p.item p.visible

  pub use_shows : {i : ℕ} {a : FileAstId} {v : ℕ} {t : Tree} → IsLeaf u i a (use_item v t) → import_lines_at reserved u i ≡ use_lines reserved a t
  use_shows {i} {a} {v} {t} p =
      let kinds : kind.Use ≡ leaf_kind p.item = leaf_kind-map (vis_at u.forest) (use_item v t) ∙ ap leaf_kind p.visible ∙ sym (leaf_kind-map Some p.item) in
      leaf_shows i a (use_item v t) p ∙ ap (λ b. use_lines reserved b t) (ap (λ k. file_id k p.head) kinds ∙ sym p.ast_id)

  pub other_shows : {i : ℕ} {a : FileAstId} {l : Leaf ℕ} → IsLeaf u i a l → is_use l ≡ false → import_lines_at reserved u i ≡ []
  other_shows {i} {a} {l} p other = leaf_shows i a l p ∙ no_lines reserved p.head l other

  -- a module, by the number of its visibility
  module_lines : (h : Head) (n : List ℕ) (v : ℕ) (t : Trunk RawVisibility) (f : Forest) → trunk_map (vis_at u.forest) (inline n v) ≡ trunk_map Some t → node_lines reserved (parent h t f) ≡ import_lines reserved f
  module_lines h n v (inline o w) f e = refl
  module_lines h n v extern_block f e = cc

  pub module_shows : {i : ℕ} {a : FileAstId} {n : List ℕ} {v : ℕ} {is : List ℕ} → IsParent u i a (inline n v) is → import_lines_at reserved u i ≡ flat_map (import_lines_at reserved u) is
  module_shows {i} {a} {n} {v} {is} p = parent_of_id u [] (node_lines reserved) i a (inline n v) is p ∙ module_lines p.head n v p.item p.below p.visible ∙ sym (top_lines is p.below p.children)

pub ruleset lines_of_items = (use_shows, other_shows, module_shows, parent_counts, children_contained)
