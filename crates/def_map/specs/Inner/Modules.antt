-- Modules by the `mod` items that they come from.
use Rattle.std.specs.Prelude.{◌≡◌, ℕ, Bool, List, Option, option_map}
use Rattle.std.specs.HashMap.{HashMap, get}
use Rattle.std.specs.Option.{option_and_then}
use Rattle.hir_input.specs.declared.ids.FileAstId.{FileAstId}
use Rattle.module_tree.specs.declared.data.ModuleData.{ModuleData}
use Rattle.def_map.specs.declared.module_index.{ModuleIndex.ModuleIndex, ModuleKey.ModuleKey}
use Rattle.def_map.specs.contracts.module_index.ModuleKeyPartialEq.TheImpl as keys
use Rattle.def_map.specs.Tables.{module_of, origin_id}

abbrev pub module_key : ℕ → FileAstId → ModuleKey
module_key at a = record { parent = at; hash = a.hash; number = a.number }

-- the key of a module, if it comes from a `mod`
abbrev pub mod_key_of : ModuleData → Option ModuleKey
mod_key_of found = option_and_then (λ parent. option_map (module_key parent.0) (origin_id found.origin)) found.parent

abbrev pub key_eq : ModuleKey → ModuleKey → Bool
key_eq = keys.ghosts.eq

-- the number at the key of a `mod`
abbrev pub number_at : {S : Type 0} → HashMap ModuleKey ℕ S → ℕ → FileAstId → Option ℕ
number_at numbers at a = get key_eq numbers (module_key at a)

-- the module of each `mod` is found
abbrev pub IsModuleIndex : List ModuleData → ModuleIndex → Type 0
IsModuleIndex modules index = (at : ℕ) (a : FileAstId) → number_at index.numbers at a ≡ module_of modules at a
