-- What a look-up lends.
use Rattle.std.specs.Prelude.{◌≡◌, ◌↔◌, ℕ, List, map, Option, Some, None, IsSome}
use Rattle.std.specs.Option.{option_map_or}
use Rattle.hir_input.specs.declared.ast.PlainKind.TheVariants as plain_kind
use Rattle.hir_input.specs.declared.ids.FileAstId.{FileAstId}
use Rattle.item_tree_attrs.specs.Collected.{Collected}
use Rattle.item_tree.specs.declared.visibility.RawVisibility.{RawVisibility}
use Rattle.item_tree.specs.declared.items.StructValueNsCtor.{StructValueNsCtor}
use Rattle.item_tree.specs.declared.items.StructValueNsCtor.TheVariants.{NoValueNsCtor, ValueNsCtorWithVis, ValueNsCtorWithMinVis}
use Rattle.item_tree.specs.declared.items.ModKind.{ModKind}
use Rattle.item_tree.specs.declared.items.ModKind.TheVariants.{Inline, Outline}
use Rattle.item_tree.specs.declared.items.ModItemKind.{ModItemKind}
use Rattle.item_tree.specs.declared.items.ModItemKind.TheVariants as item
use Rattle.item_tree.specs.Node.{Ctor, no_ctor, ctor_with, ctor_with_min, Leaf, plain, constant, struct_item, outline, use_item, extern_crate, impl_item, macro_call, macro_rules, Trunk, inline, extern_block, leaf_kind, trunk_kind, Head, Forest, leaf, parent, nodes, node_head, file_id, Unfolding}
use Rattle.item_tree.specs.Column.{has_no_attributes, some_unless}
use Rattle.item_tree.specs.Layout.{leaf_map, trunk_map, node_at, vis_at}
use Rattle.item_tree.specs.Reach.{child_ids}

-- the id stands for a node
abbrev pub IsContained : Unfolding → ℕ → Type 0
IsContained u i = IsSome (node_at u.forest i)

-- the id stands for a visibility
abbrev pub HasVisibility : Unfolding → ℕ → Type 0
HasVisibility u i = IsSome (vis_at u.forest i)

-- the ids stand for the nodes of g, in order
abbrev pub StandFor : Unfolding → List ℕ → Forest → Type 0
StandFor u is g = map (node_at u.forest) is ≡ map Some (nodes g)

-- what is lent of attributes: nothing where they are enabled and empty
abbrev pub lent_attrs : Collected → Option Collected
lent_attrs c = some_unless (has_no_attributes c) c

-- of the node that an id stands for, if it stands for one
abbrev pub attrs_at : Unfolding → ℕ → Option Collected
attrs_at u i = option_map_or (λ n. lent_attrs (node_head n).attrs) (node_at u.forest i) None

-- a constructor over ids
abbrev pub ctor_ids : StructValueNsCtor → Ctor ℕ
ctor_ids NoValueNsCtor = no_ctor
ctor_ids (ValueNsCtorWithVis i) = ctor_with i
ctor_ids (ValueNsCtorWithMinVis is) = ctor_with_min is.items

-- The id stands for a node without children, with this id and item, whose visibilities the ids in l stand for.
pub record IsLeaf (u : Unfolding) (i : ℕ) (a : FileAstId) (l : Leaf ℕ) : Type 0 where
  pub head : Head
  pub item : Leaf RawVisibility
  pub found : node_at u.forest i ≡ Some (leaf head item)
  pub ast_id : a ≡ file_id (leaf_kind item) head
  pub visible : leaf_map (vis_at u.forest) l ≡ leaf_map Some item

-- The same of a node with children, whose ids are those in `is`.
pub record IsParent (u : Unfolding) (i : ℕ) (a : FileAstId) (t : Trunk ℕ) (is : List ℕ) : Type 0 where
  pub head : Head
  pub item : Trunk RawVisibility
  pub below : Forest
  pub found : node_at u.forest i ≡ Some (parent head item below)
  pub ast_id : a ≡ file_id (trunk_kind item) head
  pub visible : trunk_map (vis_at u.forest) t ≡ trunk_map Some item
  pub ids : is ≡ child_ids u i
  pub children : StandFor u is below

-- what is lent, as plain data over ids
pub data Lent : Type 0 where
  lent_leaf : FileAstId → Leaf ℕ → Lent
  lent_parent : FileAstId → Trunk ℕ → List ℕ → Lent

abbrev pub lent_module : FileAstId → List ℕ → ℕ → ModKind → Lent
lent_module a name v (Inline items) = lent_parent a (inline name v) items.items
lent_module a name v Outline = lent_leaf a (outline name v)

-- what an item's id lends
abbrev pub lent_kind : ModItemKind → Lent
lent_kind (item.Function a x) = lent_leaf a (plain plain_kind.Fn x.now.name x.now.visibility)
lent_kind (item.Union a x) = lent_leaf a (plain plain_kind.Union x.now.name x.now.visibility)
lent_kind (item.Enum a x) = lent_leaf a (plain plain_kind.Enum x.now.name x.now.visibility)
lent_kind (item.Static a x) = lent_leaf a (plain plain_kind.Static x.now.name x.now.visibility)
lent_kind (item.Trait a x) = lent_leaf a (plain plain_kind.Trait x.now.name x.now.visibility)
lent_kind (item.TypeAlias a x) = lent_leaf a (plain plain_kind.TypeAlias x.now.name x.now.visibility)
lent_kind (item.Macro2 a x) = lent_leaf a (plain plain_kind.MacroDef x.now.name x.now.visibility)
lent_kind (item.Const a x) = lent_leaf a (constant x.now.name x.now.visibility)
lent_kind (item.Struct a x) = lent_leaf a (struct_item x.now.name x.now.visibility x.now.shape (ctor_ids x.now.value_ns_ctor))
lent_kind (item.Mod a x) = lent_module a x.now.name x.now.visibility x.now.kind
lent_kind (item.Use a x) = lent_leaf a (use_item x.now.visibility x.now.tree)
lent_kind (item.ExternCrate a x) = lent_leaf a (extern_crate x.now.name x.now.visibility x.now.alias)
lent_kind (item.ExternBlock a x) = lent_parent a extern_block x.now.children.items
lent_kind (item.Impl a x) = lent_leaf a (impl_item x.now.is_trait_impl)
lent_kind (item.MacroCall a x) = lent_leaf a (macro_call x.now.path x.now.expand_to x.now.ctxt)
lent_kind (item.MacroRules a x) = lent_leaf a (macro_rules x.now.name)

abbrev pub IsLent : Unfolding → ℕ → Lent → Type 0
IsLent u i (lent_leaf a l) = IsLeaf u i a l
IsLent u i (lent_parent a t is) = IsParent u i a t is

abbrev pub IsModule : Unfolding → ℕ → FileAstId → List ℕ → ℕ → ModKind → Type 0
IsModule u i a name v k = IsLent u i (lent_module a name v k)

-- what is lent for the id is the node's id and its item
abbrev pub IsShown : Unfolding → ℕ → ModItemKind → Type 0
IsShown u i k = IsLent u i (lent_kind k)

-- Two trees lend the same for the same ids.
pub record LendAlike (u w : Unfolding) : Type 0 where
  -- what an id lends of items
  pub items : (i : ℕ) (x y : Lent) → IsLent u i x → IsLent w i y → x ≡ y
  -- and of attributes
  pub attributes : (i : ℕ) → attrs_at u i ≡ attrs_at w i
  -- an id of a visibility is one for both, and has the value to itself
  pub visibilities : (i j : ℕ) (v : RawVisibility) → vis_at u.forest i ≡ Some v → (vis_at w.forest j ≡ Some v) ↔ (i ≡ j)
