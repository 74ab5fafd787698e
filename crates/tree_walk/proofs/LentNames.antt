-- What a lent item declares is what its node declares.
use Rattle.std.proofs.Common.{◌≡◌, ℕ, true, List, [], ◌∷◌, map, Option, Some, None, refl, ap, sym, ◌∙◌}
use Rattle.std.specs.{Prelude.option_map, Prelude.slice_get, Prelude.is_some, Option.option_map_or}
use Rattle.hir_input.specs.declared.ids.FileAstId.{FileAstId}
use Rattle.item_tree.specs.{declared.items.ModKind.ModKind, declared.items.ModKind.TheVariants.Inline, declared.items.ModKind.TheVariants.Outline, Walk.of_id}
use Rattle.item_tree.specs.Layout.{leaf_map, trunk_map, leaf_vis, trunk_vis, node_at, vis_at}
use Rattle.item_tree.specs.Node.{Leaf, plain, Trunk, inline, extern_block, Node, node_ast, Unfolding}
use Rattle.item_tree.specs.Shown.{Lent, lent_leaf, lent_parent, IsLent, lent_module, HasVisibility}
use Rattle.item_tree.proofs.Walking.{leaf_of_id, parent_of_id}
use Rattle.tree_walk.specs.Declarations.{Declared, declared_name, leaf_name, trunk_name, node_name, leaf_declares, node_declares, node_visibility, declaration_of, with_id}
use Rattle.tree_walk.specs.DeclarationView.{with_definition}
use Rattle.tree_walk.specs.Inner.Declared.{own_defined, lent_name, lent_declares, lent_visibility}

-- ---- modules, whose items stand in them or not

pub module_name : (a : FileAstId) (n : List ℕ) (v : ℕ) (k : ModKind) → lent_name (lent_module a n v k) ≡ Some n
module_name a n v (Inline is) = refl
module_name a n v Outline = refl

pub module_declares : (a : FileAstId) (n : List ℕ) (v : ℕ) (k : ModKind) → lent_declares (lent_module a n v k) ≡ Some (declared_name n)
module_declares a n v (Inline is) = refl
module_declares a n v Outline = refl

pub module_visibility : (a : FileAstId) (n : List ℕ) (v : ℕ) (k : ModKind) → lent_visibility (lent_module a n v k) ≡ Some v
module_visibility a n v (Inline is) = refl
module_visibility a n v Outline = refl

-- ---- what stands for a visibility does not matter to what is declared

declares-leaf : {V W : Type 0} (f : V → W) (l : Leaf V) → leaf_declares (leaf_map f l) ≡ leaf_declares l
declares-leaf f (plain k n v) = refl
declares-leaf f _ = refl

name-trunk : {V W : Type 0} (f : V → W) (t : Trunk V) → trunk_name (trunk_map f t) ≡ trunk_name t
name-trunk f = elim [ inline n v ↦ refl | extern_block ↦ refl ]

name-leaf : {V W : Type 0} (f : V → W) (l : Leaf V) → leaf_name (leaf_map f l) ≡ leaf_name l
name-leaf f (plain k n v) = refl
name-leaf f _ = refl

-- ---- its own visibility is the first of an item

vis-leaf : {V W : Type 0} (f : V → W) (l : Leaf V) → slice_get (leaf_vis (leaf_map f l)) 0 ≡ option_map f (slice_get (leaf_vis l) 0)
vis-leaf f (plain k n v) = refl
vis-leaf f _ = refl

vis-trunk : {V W : Type 0} (f : V → W) (t : Trunk V) → slice_get (trunk_vis (trunk_map f t)) 0 ≡ option_map f (slice_get (trunk_vis t) 0)
vis-trunk f (inline n v) = refl
vis-trunk f extern_block = refl

module _ (u : Unfolding) where
  -- the node of an id declares what is lent for it
  pub declares_at : (i : ℕ) (x : Lent) → IsLent u i x → of_id u None node_declares i ≡ lent_declares x
  declares_at i (lent_leaf a l) p = leaf_of_id u None node_declares i a l p ∙ sym (declares-leaf Some p.item) ∙ ap leaf_declares (sym p.visible) ∙ declares-leaf (vis_at u.forest) l
  declares_at i (lent_parent a t is) p =
      parent_of_id u None node_declares i a t is p ∙ ap (option_map declared_name) (sym (name-trunk Some p.item) ∙ ap trunk_name (sym p.visible) ∙ name-trunk (vis_at u.forest) t)

  -- what is lent of its visibility stands for that of the node
  visibilities : (i : ℕ) (x : Lent) → IsLent u i x → option_map (vis_at u.forest) (lent_visibility x) ≡ option_map Some (of_id u None node_visibility i)
  visibilities i (lent_leaf a l) p =
      sym (vis-leaf (vis_at u.forest) l) ∙ ap (λ m. slice_get (leaf_vis m) 0) p.visible ∙ vis-leaf Some p.item ∙ ap (option_map Some) (sym (leaf_of_id u None node_visibility i a l p))
  visibilities i (lent_parent a t is) p =
      sym (vis-trunk (vis_at u.forest) t) ∙ ap (λ m. slice_get (trunk_vis m) 0) p.visible ∙ vis-trunk Some p.item ∙ ap (option_map Some) (sym (parent_of_id u None node_visibility i a t is p))

pub names_at : (u : Unfolding) (i : ℕ) (x : Lent) → IsLent u i x → of_id u None node_name i ≡ lent_name x
names_at u i (lent_leaf a l) p = leaf_of_id u None node_name i a l p ∙ sym (name-leaf Some p.item) ∙ ap leaf_name (sym p.visible) ∙ name-leaf (vis_at u.forest) l
names_at u i (lent_parent a t is) p = parent_of_id u None node_name i a t is p ∙ sym (name-trunk Some p.item) ∙ ap trunk_name (sym p.visible) ∙ name-trunk (vis_at u.forest) t

below_Some : {A : Type 0} (x : Option A) (o : Option A) → Some x ≡ option_map Some o → x ≡ o
below_Some x None e = absurd (cc)
below_Some x (Some y) e = cc

is_one : {A : Type 0} (x : Option A) (o : Option A) → Some x ≡ option_map Some o → is_some x ≡ true
is_one x None e = absurd (cc)
is_one x (Some y) e = let e : x ≡ Some y = cc in ap is_some e

no_one : {A : Type 0} (o : Option A) → None ≡ option_map Some o → None ≡ o
no_one None e = refl
no_one (Some y) e = absurd (cc)

pub visibility_at : (u : Unfolding) (i : ℕ) (x : Lent) (v : ℕ) → IsLent u i x → Some v ≡ lent_visibility x → vis_at u.forest v ≡ of_id u None node_visibility i
visibility_at u i x v p e = below_Some (vis_at u.forest v) (of_id u None node_visibility i) (ap (option_map (vis_at u.forest)) e ∙ visibilities u i x p)

pub visibility_lent : (u : Unfolding) (i : ℕ) (x : Lent) (v : ℕ) → IsLent u i x → Some v ≡ lent_visibility x → HasVisibility u v
visibility_lent u i x v p e = is_one (vis_at u.forest v) (of_id u None node_visibility i) (ap (option_map (vis_at u.forest)) e ∙ visibilities u i x p)

pub no_visibility : (u : Unfolding) (i : ℕ) (x : Lent) → IsLent u i x → None ≡ lent_visibility x → None ≡ of_id u None node_visibility i
no_visibility u i x p e = no_one (of_id u None node_visibility i) (ap (option_map (vis_at u.forest)) e ∙ visibilities u i x p)

pub ruleset lent_visibilities = (visibility_at, visibility_lent, no_visibility)

-- ---- the declaration of one item

module _ (u : Unfolding) (path : List (List ℕ)) (i : ℕ) where
  own_by : (o : Option Node) (d : Option Declared) → node_at u.forest i ≡ o → of_id u None node_declares i ≡ d → own_defined u path i ≡ map with_definition (option_map_or (λ n. with_id i (declaration_of path n d)) o [])
  own_by None d e f = rw e refl
  own_by (Some n) d e f = let f : node_declares n ≡ d = sym (ap (λ o. option_map_or node_declares o None) e) ∙ f in rw (e, f) refl

  -- what it is
  one : (o : Option Node) (a : FileAstId) (d : Declared) → node_at u.forest i ≡ o → option_map node_ast o ≡ Some a → of_id u None node_declares i ≡ Some d
      → own_defined u path i ≡ (i, record { path = path; node = node_at u.forest i; kind = a.kind; visibility = of_id u None node_visibility i; declared = d }) ∷ []
  one None a d e f g = absurd (cc)
  one (Some n) a d e f g = let f : node_ast n ≡ a = cc in own_by (Some n) (Some d) e g ∙ rw (e, sym f) refl

  pub own_one : (x : Lent) (a : FileAstId) (d : Declared) → IsLent u i x → option_map node_ast (node_at u.forest i) ≡ Some a → Some d ≡ lent_declares x
      → own_defined u path i ≡ (i, record { path = path; node = node_at u.forest i; kind = a.kind; visibility = of_id u None node_visibility i; declared = d }) ∷ []
  own_one x a d p f e = one (node_at u.forest i) a d refl f (declares_at u i x p ∙ sym e)

  -- and where it declares nothing
  none : (o : Option Node) → map with_definition (option_map_or (λ n. with_id i (declaration_of path n None)) o []) ≡ []
  none None = refl
  none (Some n) = refl

  pub own_none : (x : Lent) → IsLent u i x → None ≡ lent_declares x → own_defined u path i ≡ []
  own_none x p e = own_by (node_at u.forest i) None refl (declares_at u i x p ∙ sym e) ∙ none (node_at u.forest i)
