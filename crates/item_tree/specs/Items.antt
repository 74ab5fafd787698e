-- Items by their values.
use Rattle.std.specs.Prelude.{ℕ, List, Option, Some, None}
pub use Rattle.hir_input.specs.Equality.{IsByValue, IsByValueOf}
use Rattle.item_tree.specs.declared.items.ExternBlock.{ExternBlock}
use Rattle.item_tree.specs.declared.items.FieldsShape.{FieldsShape}
use Rattle.item_tree.specs.declared.items.Struct.{Struct}
use Rattle.item_tree.specs.Node.{Ctor}
use Rattle.item_tree.specs.Shown.{ctor_ids}
use Rattle.item_tree.specs.declared.items.ModKind.{ModKind}
use Rattle.item_tree.specs.declared.items.ModKind.TheVariants.{Inline, Outline}
use Rattle.item_tree.specs.declared.items.Mod.{Mod}

-- the ids of the items that stand in a module, or none for a module of another file
abbrev pub inline_ids : ModKind → Option (List ℕ)
inline_ids (Inline v) = Some v.items
inline_ids Outline = None

-- a module by its values: its name, the id of its visibility, and the ids of the items in it
pub record ModValue : Type 0 where
  pub name : List ℕ
  pub visibility : ℕ
  pub items : Option (List ℕ)

-- a module as a record, with the ids of its items
abbrev pub mod_value : Mod → ModValue
mod_value m = record { name = m.name; visibility = m.visibility; items = inline_ids m.kind }

-- a struct by its values: its name, the id of its visibility, its shape, and its constructor over ids
pub record StructValue : Type 0 where
  pub name : List ℕ
  pub visibility : ℕ
  pub shape : FieldsShape
  pub ctor : Ctor ℕ

-- a struct as a record, with the ids of its constructor's visibility
abbrev pub struct_value : Struct → StructValue
struct_value s = record { name = s.name; visibility = s.visibility; shape = s.shape; ctor = ctor_ids s.value_ns_ctor }

-- an extern block by the ids of its children
abbrev pub block_value : ExternBlock → List ℕ
block_value b = b.children.items
