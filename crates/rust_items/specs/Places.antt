-- Where items stand.
use Rattle.std.specs.Prelude.{◌≡◌, ◌≢◌, ◌⊎◌, ◌<◌, ◌≤◌, ◌+◌, ℕ, Option, Some, None, List, ◌∷◌, slice_range}
use Rattle.hir_input.specs.declared.ids.AstIdKind.{AstIdKind}
use Rattle.hir_input.specs.declared.ids.AstIdKind.TheVariants as kind
use Rattle.hir_input.specs.declared.ids.FileAstId.{FileAstId}
use Rattle.hir_input.specs.Syntax.{NodeView, ItemView, ItemViews, ast_kind, plain_item, const_item, struct_item, bare_module, listed_module, use_item, extern_crate, bare_extern_block, listed_extern_block, impl_item, macro_call, macro_rules, asm_item, no_items, item_and}
use Rattle.rust_paths.specs.declared.names.TextRange.{TextRange}
use Rattle.rust_items.specs.declared.source_file.ItemPlace.{ItemPlace}

-- the id of a kind, with the hash and the number of a node
abbrev pub id_by : AstIdKind → NodeView → Option FileAstId
id_by kind n = Some (record { kind = kind; hash = n.hash; number = n.number })

-- the id of an item; assembly has none
abbrev pub id_of : ItemView → Option FileAstId
id_of (plain_item k n) = id_by (ast_kind k) n.node
id_of (const_item n) = id_by kind.Const n.node
id_of (struct_item n _) = id_by kind.Struct n.node
id_of (bare_module n semicolon) = id_by kind.Module n.node
id_of (listed_module n semicolon is) = id_by kind.Module n.node
id_of (use_item u) = id_by kind.Use u.node
id_of (extern_crate n rename) = id_by kind.ExternCrate n.node
id_of (bare_extern_block n) = id_by kind.ExternBlock n
id_of (listed_extern_block n is) = id_by kind.ExternBlock n
id_of (impl_item n is_trait) = id_by kind.Impl n
id_of (macro_call c) = id_by kind.MacroCall c.node
id_of (macro_rules n name) = id_by kind.MacroRules n
id_of (asm_item n) = None

-- the items that a module or an extern block holds
abbrev pub items_held : ItemView → ItemViews
items_held (listed_module n semicolon is) = is
items_held (listed_extern_block n is) = is
items_held _ = no_items

-- the name of an item, if it has one
abbrev pub name_of : ItemView → Option (List ℕ)
name_of (plain_item k n) = n.name
name_of (const_item n) = n.name
name_of (struct_item n _) = n.name
name_of (bare_module n semicolon) = n.name
name_of (listed_module n semicolon is) = n.name
name_of (extern_crate n rename) = n.name
name_of (macro_rules n name) = name
name_of _ = None

-- A name is written in a text: in its range stand its bytes, or `r#` and then these. Where there is no name, there is no range of one.
abbrev pub IsWritten : List ℕ → Option (List ℕ) → Option TextRange → Type 0
IsWritten text None None = Unit {0}
IsWritten text (Some name) (Some r) = (slice_range text r.start r.end ≡ name) ⊎ (slice_range text r.start r.end ≡ 114 ∷ 35 ∷ name)
IsWritten text _ _ = ⊥

-- a name, if there is one, stands in a range and is not empty
abbrev pub IsNameIn : TextRange → Option TextRange → Type 0
IsNameIn range None = Unit {0}
IsNameIn range (Some name) = (range.start ≤ name.start) × (name.start < name.end) × (name.end ≤ range.end)

-- the braces that an item ends with, if it ends with braces: they are two bytes at least, and end where the item ends
abbrev pub IsBodyIn : TextRange → Option TextRange → Type 0
IsBodyIn range None = Unit {0}
IsBodyIn range (Some body) = (range.start ≤ body.start) × (body.start + 2 ≤ body.end) × (body.end ≡ range.end)

-- what is told of a name and its range
abbrev pub Telling : Type 1
Telling = Option (List ℕ) → Option TextRange → Type 0

-- An item's place: it has the item's id, and a range that is not empty, from a byte place on and up to another, with the name and the braces in it.
-- This is told of the item's name and its range; not of an extern crate, which may have a second name.
pub record IsPlace (told : Telling) (from to : ℕ) (i : ItemView) (p : ItemPlace) : Type 0 where
  pub id : id_of i ≡ Some p.id
  pub begins : from ≤ p.range.start
  pub some : p.range.start < p.range.end
  pub ends : p.range.end ≤ to
  pub name : IsNameIn p.range p.name
  pub body : IsBodyIn p.range p.body
  pub named : p.id.kind ≢ kind.ExternCrate → told (name_of i) p.name

-- The places of items in preorder, from a byte place on and up to another, and the places behind them: of siblings, each begins at the
-- end of the one before it or behind that; what an item holds stands in it, behind its first byte.
pub data ArePlaces (told : Telling) : ℕ → ℕ → ItemViews → List ItemPlace → List ItemPlace → Type 0 where
  nothing : {from to : ℕ} {ps : List ItemPlace} → ArePlaces told from to no_items ps ps
  placed : {from to : ℕ} {i : ItemView} {is : ItemViews} {p : ItemPlace} {ps mid rest : List ItemPlace} → IsPlace told from to i p
      → ArePlaces told (p.range.start + 1) p.range.end (items_held i) ps mid → ArePlaces told p.range.end to is mid rest → ArePlaces told from to (item_and i is) (p ∷ ps) rest
