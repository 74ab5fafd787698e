-- The tables of a tree as they stand in memory. Only private contracts speak of them.
use Rattle.std.specs.Prelude.{◌≡◌, ℕ, Bool, List, map, Option, Some, None}
use Rattle.hir_input.specs.declared.ast.PlainKind.TheVariants as plain_kind
use Rattle.hir_input.specs.declared.ids.FileAstId.{FileAstId}
use Rattle.hir_input.specs.declared.ids.AstIdKind.{AstIdKind}
use Rattle.hir_input.specs.contracts.ids.AstIdKindPartialEq.TheImpl as kinds
use Rattle.item_tree_attrs.specs.Collected.{Collected, collection_of}
use Rattle.item_tree.specs.declared.items.ModItem.{ModItem}
use Rattle.item_tree.specs.declared.items.ModItem.TheVariants as item
use Rattle.item_tree.specs.declared.rows.AstKey.{AstKey}
use Rattle.item_tree.specs.declared.rows.Rows.{Rows}
use Rattle.item_tree.specs.Node.{plain, constant, struct_item, outline, use_item, extern_crate, impl_item, macro_call, macro_rules, inline, extern_block}
use Rattle.item_tree.specs.Column.{plain_place}
use Rattle.item_tree.specs.Layout.{RowKey, RowItem, leaf_row, parent_row, Tables, layout, unfold_tables}
use Rattle.item_tree.specs.Items.{inline_ids}
use Rattle.item_tree.specs.Shown.{ctor_ids, Lent, lent_leaf, lent_parent}
use Rattle.item_tree.specs.Size.{Fits}

abbrev pub module_row : List ℕ → ℕ → Option (List ℕ) → RowItem
module_row name v (Some items) = parent_row (inline name v) items
module_row name v None = leaf_row (outline name v)

abbrev pub item_row : ModItem → RowItem
item_row (item.Function x) = leaf_row (plain plain_kind.Fn x.name x.visibility)
item_row (item.Union x) = leaf_row (plain plain_kind.Union x.name x.visibility)
item_row (item.Enum x) = leaf_row (plain plain_kind.Enum x.name x.visibility)
item_row (item.Static x) = leaf_row (plain plain_kind.Static x.name x.visibility)
item_row (item.Trait x) = leaf_row (plain plain_kind.Trait x.name x.visibility)
item_row (item.TypeAlias x) = leaf_row (plain plain_kind.TypeAlias x.name x.visibility)
item_row (item.Macro2 x) = leaf_row (plain plain_kind.MacroDef x.name x.visibility)
item_row (item.Const x) = leaf_row (constant x.name x.visibility)
item_row (item.Struct x) = leaf_row (struct_item x.name x.visibility x.shape (ctor_ids x.value_ns_ctor))
item_row (item.Mod x) = module_row x.name x.visibility (inline_ids x.kind)
item_row (item.Use x) = leaf_row (use_item x.visibility x.tree)
item_row (item.ExternCrate x) = leaf_row (extern_crate x.name x.visibility x.alias)
item_row (item.ExternBlock x) = parent_row extern_block x.children.items
item_row (item.Impl x) = leaf_row (impl_item x.is_trait_impl)
item_row (item.MacroCall x) = leaf_row (macro_call x.path x.expand_to x.ctxt)
item_row (item.MacroRules x) = leaf_row (macro_rules x.name)

-- the id and the item of what is lent
abbrev pub lent_ast : Lent → FileAstId
lent_ast (lent_leaf a l) = a
lent_ast (lent_parent a t is) = a

abbrev pub lent_row : Lent → RowItem
lent_row (lent_leaf a l) = leaf_row l
lent_row (lent_parent a t is) = parent_row t is

-- whether a tag is this kind, as the code tests it
abbrev pub has_tag : AstIdKind → AstIdKind → Bool
has_tag k tag = kinds.ghosts.eq tag k

abbrev pub key_in : AstKey → RowKey
key_in k = record { hash = k.hash; number = k.number }

abbrev pub keys_in : Rows → List RowKey
keys_in r = map key_in r.keys.items

abbrev pub row_items : Rows → List RowItem
row_items r = map item_row r.items.items

abbrev pub column_places : Rows → List (Option ℕ)
column_places r = map plain_place r.places.items

abbrev pub column_in : Rows → List Collected
column_in r = map collection_of r.column.items

-- the tables of a tree with these ids at the top, and the place of the top's attributes
abbrev pub tables_of : List ℕ → ℕ → Rows → Tables
tables_of top place r = record {
  top = top;
  tags = r.tags.items;
  keys = keys_in r;
  items = row_items r;
  places = column_places r;
  top_place = plain_place place;
  column = column_in r;
  arena = r.arena;
}

-- the tables are those that their unfolding fixes, and no size is passed
pub record AreSound (top : List ℕ) (place : ℕ) (r : Rows) : Type 0 where
  pub laid_out : layout (unfold_tables (tables_of top place r)) ≡ tables_of top place r
  pub fits : Fits (unfold_tables (tables_of top place r))
