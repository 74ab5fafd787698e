-- The tables that a forest fixes by counting.
use Rattle.std.specs.Prelude.{ℕ, ◌+◌, ◌-◌, ◌*◌, ◌/◌, ◌%◌, ◌^◌, eqb, nat_lt, List, [], ◌∷◌, ◌++◌, length, map, slice_get, Option, Some, None, if◌then◌else◌}
use Rattle.std.specs.List.{position_or_len}
use Rattle.hir_input.specs.declared.ids.AstIdKind.{AstIdKind}
use Rattle.hir_input.specs.declared.ids.AstIdKind.TheVariants as kind
use Rattle.item_tree_attrs.specs.Collected.{Collected}
use Rattle.item_tree.specs.declared.visibility.RawVisibility.{RawVisibility}
use Rattle.item_tree.specs.declared.visibility.RawVisibility.TheVariants.{Module, PubSelf, PubCrate, Public}
use Rattle.item_tree.specs.declared.visibility.VisibilityExplicitness.TheVariants.{Explicit, Implicit}
use Rattle.item_tree.specs.Visibility.{same_visibility, distinct_visibilities}
use Rattle.item_tree.specs.Node.{Ctor, no_ctor, ctor_with, ctor_with_min, Leaf, plain, constant, struct_item, outline, use_item, extern_crate, impl_item, macro_call, macro_rules, Trunk, inline, extern_block, leaf_kind, trunk_kind, Head, Node, Forest, leaf, parent, empty, more, add, node_kind, Unfolding}
use Rattle.item_tree.specs.Column.{has_no_attributes, unless, some_unless, column_of, places_from, attrs_stored}

-- ---- visibilities, and the arena

-- the visibilities that every tree has; their ids are the last of 32 bits, in this order
abbrev pub fixed_visibilities : List RawVisibility
fixed_visibilities = PubCrate ∷ PubSelf Explicit ∷ PubSelf Implicit ∷ Public ∷ []

-- the first of these ids: those below are places in the arena
abbrev pub first_fixed : ℕ
first_fixed = 2 ^ 32 - 4

-- the place of v in the arena
abbrev pub arena_place : List RawVisibility → RawVisibility → ℕ
arena_place arena v = position_or_len (same_visibility v) arena

-- the id of a visibility
abbrev pub vis_id : List RawVisibility → RawVisibility → ℕ
vis_id arena (Module p e) = arena_place arena (Module p e)
vis_id arena PubCrate = first_fixed
vis_id arena (PubSelf Explicit) = first_fixed + 1
vis_id arena (PubSelf Implicit) = first_fixed + 2
vis_id arena Public = first_fixed + 3

-- the visibility of an id, where it has one
abbrev pub value_at : List RawVisibility → ℕ → Option RawVisibility
value_at arena i = if nat_lt i first_fixed then slice_get arena i else slice_get fixed_visibilities (i - first_fixed)

abbrev pub or_public : Option RawVisibility → RawVisibility
or_public None = Public
or_public (Some v) = v

abbrev pub vis_value : List RawVisibility → ℕ → RawVisibility
vis_value arena i = or_public (value_at arena i)

-- ---- items over other visibilities

module _ {V W : Type 0} (f : V → W) where
  abbrev pub ctor_map : Ctor V → Ctor W
  ctor_map no_ctor = no_ctor
  ctor_map (ctor_with v) = ctor_with (f v)
  ctor_map (ctor_with_min vs) = ctor_with_min (map f vs)

  abbrev pub leaf_map : Leaf V → Leaf W
  leaf_map (plain k n v) = plain k n (f v)
  leaf_map (constant n v) = constant n (f v)
  leaf_map (struct_item n v s c) = struct_item n (f v) s (ctor_map c)
  leaf_map (outline n v) = outline n (f v)
  leaf_map (use_item v t) = use_item (f v) t
  leaf_map (extern_crate n v a) = extern_crate n (f v) a
  leaf_map (impl_item of_trait) = impl_item of_trait
  leaf_map (macro_call p e x) = macro_call p e x
  leaf_map (macro_rules n) = macro_rules n

  abbrev pub trunk_map : Trunk V → Trunk W
  trunk_map (inline n v) = inline n (f v)
  trunk_map extern_block = extern_block

abbrev pub ctor_vis : {V : Type 0} → Ctor V → List V
ctor_vis no_ctor = []
ctor_vis (ctor_with v) = v ∷ []
ctor_vis (ctor_with_min vs) = vs

-- the visibilities of an item, in the order in which they are met: its own, then its constructor's
abbrev pub leaf_vis : {V : Type 0} → Leaf V → List V
leaf_vis (plain k n v) = v ∷ []
leaf_vis (constant n v) = v ∷ []
leaf_vis (struct_item n v s c) = v ∷ ctor_vis c
leaf_vis (outline n v) = v ∷ []
leaf_vis (use_item v t) = v ∷ []
leaf_vis (extern_crate n v a) = v ∷ []
leaf_vis (impl_item of_trait) = []
leaf_vis (macro_call p e x) = []
leaf_vis (macro_rules n) = []

abbrev pub trunk_vis : {V : Type 0} → Trunk V → List V
trunk_vis (inline n v) = v ∷ []
trunk_vis extern_block = []

-- ---- the two walks

-- the nodes in the walk that meets a node's children before the node
abbrev mutual
  pub node_walk : Node → List Node
  node_walk (leaf h l) = leaf h l ∷ []
  node_walk (parent h t f) = walk f ++ parent h t f ∷ []

  pub walk : Forest → List Node
  walk empty = []
  walk (more n f) = node_walk n ++ walk f

-- the visibilities in the walk that meets a node's own before those of its children
abbrev mutual
  pub node_vis : Node → List RawVisibility
  node_vis (leaf h l) = leaf_vis l
  node_vis (parent h t f) = trunk_vis t ++ forest_vis f

  pub forest_vis : Forest → List RawVisibility
  forest_vis empty = []
  forest_vis (more n f) = node_vis n ++ forest_vis f

-- the distinct visibilities of modules in a forest, by first meeting
unfoldable pub arena_of : Forest → List RawVisibility
arena_of f = distinct_visibilities (forest_vis f)

-- ---- ids, rows and tables

-- the lowest bit of the ids of a kind
abbrev pub kind_bit : AstIdKind → ℕ
kind_bit kind.ExternCrate = 1
kind_bit kind.Module = 1
kind_bit kind.Struct = 1
kind_bit kind.Use = 1
kind_bit _ = 0

-- the row of a node, where b nodes are met before its walk begins
abbrev pub node_row : ℕ → Node → ℕ
node_row b (leaf h l) = b
node_row b (parent h t f) = b + length (walk f)

abbrev pub node_id : ℕ → Node → ℕ
node_id b n = 2 * node_row b n + kind_bit (node_kind n)

abbrev pub ids : ℕ → Forest → List ℕ
ids b empty = []
ids b (more n f) = node_id b n ∷ ids (b + length (node_walk n)) f

-- the item of a row, over ids
pub data RowItem : Type 0 where
  leaf_row : Leaf ℕ → RowItem
  parent_row : Trunk ℕ → List ℕ → RowItem

abbrev pub row_kind : RowItem → AstIdKind
row_kind (leaf_row l) = leaf_kind l
row_kind (parent_row t is) = trunk_kind t

abbrev pub LayoutRow : Type 0
LayoutRow = Head × RowItem

abbrev pub row_tag : LayoutRow → AstIdKind
row_tag r = row_kind r.1

-- the hash and the number of a row
pub record RowKey : Type 0 where
  pub hash : ℕ
  pub number : ℕ

abbrev pub head_key : Head → RowKey
head_key h = record { hash = h.hash; number = h.number }

abbrev pub row_key : LayoutRow → RowKey
row_key r = head_key r.0

abbrev pub row_attrs : LayoutRow → Collected
row_attrs r = r.0.attrs

abbrev pub row_item : LayoutRow → RowItem
row_item r = r.1

module _ (arena : List RawVisibility) where
  abbrev mutual
    pub node_rows : Node → ℕ → List LayoutRow
    node_rows (leaf h l) b = (h, leaf_row (leaf_map (vis_id arena) l)) ∷ []
    node_rows (parent h t f) b = rows_of f b ++ (h, parent_row (trunk_map (vis_id arena) t) (ids b f)) ∷ []

    pub rows_of : Forest → ℕ → List LayoutRow
    rows_of empty b = []
    rows_of (more n f) b = node_rows n b ++ rows_of f (b + length (node_walk n))

-- one table in columns, with the place of each row's attributes; the column of attributes, which ends with the top's; the
-- arena; and the ids at the top
pub record Tables : Type 0 where
  pub top : List ℕ
  pub tags : List AstIdKind
  pub keys : List RowKey
  pub items : List RowItem
  pub places : List (Option ℕ)
  pub top_place : Option ℕ
  pub column : List Collected
  pub arena : List RawVisibility

-- the tables with these rows and top attributes
abbrev pub tables_from : List ℕ → List RawVisibility → List LayoutRow → Collected → Tables
tables_from top arena rows top_attrs = record {
  top = top;
  tags = map row_tag rows;
  keys = map row_key rows;
  items = map row_item rows;
  places = places_from 0 (map row_attrs rows);
  top_place = some_unless (has_no_attributes top_attrs) (length (column_of (map row_attrs rows)));
  column = column_of (map row_attrs rows) ++ unless (has_no_attributes top_attrs) top_attrs;
  arena = arena;
}

abbrev pub layout : Unfolding → Tables
layout u = tables_from (ids 0 u.forest) (arena_of u.forest) (rows_of (arena_of u.forest) u.forest 0) u.top_attrs

-- ---- what ids stand for

-- the node of a row, if the lowest bit of the id is that of its kind
abbrev pub at_row : Option Node → ℕ → Option Node
at_row None b = None
at_row (Some n) b = if eqb (kind_bit (node_kind n)) b then Some n else None

abbrev pub nth_node : List Node → ℕ → Option Node
nth_node ns i = at_row (slice_get ns (i / 2)) (i % 2)

-- the node that an id stands for
unfoldable pub node_at : Forest → ℕ → Option Node
node_at f i = nth_node (walk f) i

-- the visibility that an id stands for
unfoldable pub vis_at : Forest → ℕ → Option RawVisibility
vis_at f i = value_at (arena_of f) i

-- ---- back from tables to what they unfold to

abbrev pub gather : List Node → List ℕ → Forest
gather ns [] = empty
gather ns (i ∷ is) = add (nth_node ns i) (gather ns is)

module _ (arena : List RawVisibility) where
  abbrev pub row_node : List Node → Head → RowItem → Node
  row_node ns h (leaf_row l) = leaf h (leaf_map (vis_value arena) l)
  row_node ns h (parent_row t is) = parent h (trunk_map (vis_value arena) t) (gather ns is)

  abbrev pub build : List Node → List LayoutRow → List Node
  build ns [] = ns
  build ns (r ∷ rs) = build (ns ++ row_node ns r.0 r.1 ∷ []) rs

abbrev pub head_of_key : RowKey → Collected → Head
head_of_key k c = record { hash = k.hash; number = k.number; attrs = c }

abbrev pub zip_rows : List RowKey → List Collected → List RowItem → List LayoutRow
zip_rows [] cs is = []
zip_rows (k ∷ ks) [] is = []
zip_rows (k ∷ ks) (c ∷ cs) [] = []
zip_rows (k ∷ ks) (c ∷ cs) (i ∷ is) = (head_of_key k c, i) ∷ zip_rows ks cs is

-- what the tables of a tree unfold to
abbrev pub unfold_tables : Tables → Unfolding
unfold_tables t = record {
  top_attrs = attrs_stored t.column t.top_place;
  forest = gather (build t.arena [] (zip_rows t.keys (map (attrs_stored t.column) t.places) t.items)) t.top;
}
