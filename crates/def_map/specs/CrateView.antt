-- A crate by names, as the code holds it, as plain data.
use Rattle.std.specs.Prelude.{ℕ, List, map, option_map}
use Rattle.std.specs.Borrow.{Bor}
use Rattle.def_map.specs.declared.rows as code
use Rattle.def_map.specs.declared.rows.ItemKey.{ItemKey}
use Rattle.def_map.specs.declared.rows.Meaning.TheVariants.{Module, Item, Scope, Unseen}
use Rattle.def_map.specs.declared.rows.Bound.TheVariants.{Glob, Name, Underscore, Nameless}
use Rattle.def_map.specs.Crates.{Thing, a_module, an_item, a_scope, unseen, NameDeclaration, Binding, a_glob, a_name, underscore, nameless, PathImport, Veil, Crate}

abbrev pub meaning_view : code.Meaning.Meaning → Thing ItemKey
meaning_view (Module m) = a_module m
meaning_view (Item key) = an_item key
meaning_view (Scope key) = a_scope key
meaning_view Unseen = unseen

abbrev pub declared_view : code.DeclaredName.DeclaredName → NameDeclaration (List ℕ) ItemKey
declared_view d = record { parent = d.parent; namespace = d.namespace; name = d.name.now; thing = meaning_view d.meaning; visibility = d.visibility; is_sure = d.is_sure }

abbrev pub bound_view : code.Bound.Bound → Binding (List ℕ)
bound_view Glob = a_glob
bound_view (Name name) = a_name name.now
bound_view Underscore = underscore
bound_view Nameless = nameless

abbrev pub import_view : code.NamedImport.NamedImport → PathImport (List ℕ)
import_view u = record { parent = u.parent; start = u.start; names = u.names.now; binding = bound_view u.bound; of_types = u.of_types; visibility = u.visibility }

abbrev pub veil_view : code.VeilRow.VeilRow → Veil
veil_view x = record { parent = x.parent; namespace = x.namespace; visibility = x.visibility }

abbrev pub macro_view : code.MacroName.MacroName → List ℕ × ItemKey
macro_view x = (x.name.now, x.key)

-- another name stands for what is unseen
abbrev pub other_view : Bor (List ℕ) → List ℕ × Thing ItemKey
other_view name = (name.now, unseen)

abbrev pub rows_view : code.CrateRows.CrateRows → Crate (List ℕ) ItemKey
rows_view c = record {
  parents = c.parents.items;
  declarations = map declared_view c.declarations.items;
  imports = map import_view c.imports.items;
  veils = map veil_view c.veils.items;
  macro_rules = map macro_view c.macro_rules.items;
  others = option_map (λ names. map other_view names.items) c.others;
  is_2015 = c.is_2015;
}
