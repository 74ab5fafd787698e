-- What is read, with what is wanted of it.
use Rattle.std.specs.Prelude.{Bool, Option, List, [], ◌++◌, option_map}
use Rattle.hir_input.specs.Attr.{MetaView}
use Rattle.hir_input.specs.Syntax.{NodeView, NamedView, ItemView, ItemViews, plain_item, const_item, struct_item, bare_module, listed_module, use_item, extern_crate, bare_extern_block, listed_extern_block, impl_item, macro_call, macro_rules, asm_item, no_items, item_and}
use Rattle.rust_cursor.specs.Extents.{kept_text}
use Rattle.rust_cursor.specs.Reader.{Reader}
use Rattle.rust_metas.specs.Docs.{kept_metas}
use Rattle.rust_leaves.specs.declared.wanted.Wanted.{Wanted}
use Rattle.rust_leaves.specs.Fronts.{FrontRead}
use Rattle.rust_leaves.specs.Leaves.{RestRead, LeafRead}
use Rattle.rust_leaves.specs.Kinds.{leaf}

-- a reading whose value is changed by this
unfoldable pub with_value : {A B C : Type 0} → (A → B) → A × C → B × C
with_value change read = (change read.0, read.1)

-- the rest of an item, without its text unless that is kept
unfoldable pub clipped_rest : Bool → RestRead → RestRead
clipped_rest keeps r = record { body = kept_text keeps r.body; is_ended = r.is_ended; block = r.block; braces = r.braces }

-- what stands before an item, with those of its metas that are wanted
unfoldable pub clipped_front : Wanted → FrontRead → FrontRead
clipped_front w h = record { start = h.start; attrs = kept_metas w.metas h.attrs; visibility = h.visibility; head = h.head }

-- ---- items

abbrev pub named_changed : (NodeView → NodeView) → NamedView → NamedView
named_changed change n = record { node = change n.node; name = n.name; visibility = n.visibility }

-- an item with its own node changed
abbrev pub item_changed : (NodeView → NodeView) → ItemView → ItemView
item_changed change (plain_item kind n) = plain_item kind (named_changed change n)
item_changed change (const_item n) = const_item (named_changed change n)
item_changed change (struct_item n fields) = struct_item (named_changed change n) fields
item_changed change (bare_module n semicolon) = bare_module (named_changed change n) semicolon
item_changed change (listed_module n semicolon is) = listed_module (named_changed change n) semicolon is
item_changed change (use_item u) = use_item (record { node = change u.node; visibility = u.visibility; use_tree = u.use_tree })
item_changed change (extern_crate n rename) = extern_crate (named_changed change n) rename
item_changed change (bare_extern_block n) = bare_extern_block (change n)
item_changed change (listed_extern_block n is) = listed_extern_block (change n) is
item_changed change (impl_item n of_trait) = impl_item (change n) of_trait
item_changed change (macro_call c) = macro_call (record { node = change c.node; path = c.path; expand_to = c.expand_to; ctxt = c.ctxt })
item_changed change (macro_rules n name) = macro_rules (change n) name
item_changed change (asm_item n) = asm_item (change n)

-- what every node has, with those of its metas that are wanted, and its body text if that is
abbrev pub clipped_node : Wanted → NodeView → NodeView
clipped_node w n = record { hash = n.hash; number = n.number; attrs = kept_metas w.metas n.attrs; body = kept_text w.bodies n.body }

abbrev pub clipped_named : Wanted → NamedView → NamedView
clipped_named w = named_changed (clipped_node w)

-- an item, with what is wanted of it and of those in it
abbrev mutual
  pub clipped_item : Wanted → ItemView → ItemView
  clipped_item w (listed_module n semicolon is) = listed_module (clipped_named w n) semicolon (clipped_list w is)
  clipped_item w (listed_extern_block n is) = listed_extern_block (clipped_node w n) (clipped_list w is)
  clipped_item w i = item_changed (clipped_node w) i

  pub clipped_list : Wanted → ItemViews → ItemViews
  clipped_list w no_items = no_items
  clipped_list w (item_and i is) = item_and (clipped_item w i) (clipped_list w is)

-- what is read of one that holds no items, with its item changed
abbrev pub with_item : (ItemView → ItemView) → LeafRead → LeafRead
with_item change l = record {
  item = change l.item;
  kind = l.kind;
  name = l.name;
  named = l.named;
  body = l.body;
  is_ended = l.is_ended;
  too_deep = l.too_deep;
  use_trees = l.use_trees;
}

-- the same of what is read of one that holds no items
unfoldable pub clipped_leaf : Wanted → LeafRead → LeafRead
clipped_leaf w = with_item (clipped_item w)

unfoldable pub clipped_leaf_if : Wanted → Option LeafRead → Option LeafRead
clipped_leaf_if w l = option_map (clipped_leaf w) l

-- ---- behind attributes

abbrev pub node_behind : List MetaView → NodeView → NodeView
node_behind attrs n = record { hash = n.hash; number = n.number; attrs = attrs ++ n.attrs; body = n.body }

-- an item with these attributes before its own
abbrev pub item_behind : List MetaView → ItemView → ItemView
item_behind attrs = item_changed (node_behind attrs)

-- an item with what is wanted of it, behind these attributes
unfoldable pub wanted_item : Wanted → List MetaView → ItemView → ItemView
wanted_item w attrs i = item_behind attrs (clipped_item w i)

unfoldable pub wanted_leaf : Wanted → List MetaView → LeafRead → LeafRead
wanted_leaf w attrs = with_item (wanted_item w attrs)

unfoldable pub wanted_leaf_if : Wanted → List MetaView → Option LeafRead → Option LeafRead
wanted_leaf_if w attrs l = option_map (wanted_leaf w attrs) l

-- what stands before an item, without attributes
abbrev pub without_attributes : FrontRead → FrontRead
without_attributes h = record { start = h.start; attrs = []; visibility = h.visibility; head = h.head }

-- an item that holds no items, with what is wanted of it, behind the attributes that stand before it
unfoldable pub leaf_behind : Wanted → FrontRead → Reader (Option LeafRead)
leaf_behind w h ts = with_value (wanted_leaf_if w h.attrs) (leaf (without_attributes h) ts)
