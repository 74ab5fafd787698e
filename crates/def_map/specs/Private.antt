-- Imports that ask for a name which is there, but for others, by the facts that were found.
use Rattle.std.specs.Prelude.{◌==◌, ◌&&◌, ◌||◌, ◌+◌, ℕ, Bool, false, not, nat_lt, List, length, Option, Some, None, slice_get, option_map, if◌then◌else◌}
use Rattle.std.specs.List.{list_any, filter_map}
use Rattle.std.specs.Option.{option_map_or}
use Rattle.def_map.specs.Crates.{module_sees}
use Rattle.def_map.specs.Closure.{are_types, is_glob_name, name_at}
use Rattle.def_map.specs.declared.{facts.Fact.Fact, facts.Import.Import, facts.ImportTable.ImportTable, kinds.Namespace.Namespace, kinds.Visibility.Visibility}
use Rattle.def_map.specs.declared.facts.Fact.TheVariants.{Names, Stands}
use Rattle.def_map.specs.declared.facts.Thing.TheVariants.{Module as module_thing}

-- the namespaces in which an import asks for the name of its path behind k others
abbrev pub asks_in : Import → ℕ → Namespace → Bool
asks_in import k ns = if is_glob_name import.name || nat_lt (k + 1) (length import.path.items) then are_types ns else (are_types ns || not import.types_alone)

-- it asks there for a name, which is for others
abbrev pub is_for_others : ImportTable → ℕ → ℕ → Namespace → ℕ → Visibility → Bool
is_for_others t i k ns name v = option_map_or (λ import. option_map_or (λ wanted.
    (wanted == name) && (asks_in import k ns && not (module_sees t.parents.items import.home v)))
    (slice_get import.path.items k) false) (slice_get t.imports.items i) false

-- the path of an import stands where a name that it asks for is for others
unfoldable pub is_name_hidden : ImportTable → Fact → Fact → Bool
is_name_hidden t (Stands i k (module_thing at)) (Names home ns name thing v) = (home == at) && is_for_others t i k ns name v
is_name_hidden t _ _ = false

-- the import whose path a fact is about
unfoldable pub import_of_path : Fact → Option ℕ
import_of_path (Stands i k thing) = Some i
import_of_path _ = None

-- the import from which one of these facts hides a name
abbrev pub hidden_from : ImportTable → List Fact → Fact → Option ℕ
hidden_from t facts f = if list_any (is_name_hidden t f) facts then import_of_path f else None

-- all of them, each as often as its path asks for such a name
abbrev pub private_imports : ImportTable → List Fact → List ℕ
private_imports t facts = filter_map (hidden_from t facts) facts

-- ---- how they are found

-- the module and the name for which a path waits
unfoldable pub waits_at : ImportTable → Fact → Option (ℕ × ℕ)
waits_at t (Stands i k (module_thing at)) = option_map (λ name. (at, name)) (name_at t i k)
waits_at t _ = None

abbrev pub hidden_by : ImportTable → Fact → Option Fact → Bool
hidden_by t f None = false
hidden_by t f (Some g) = is_name_hidden t f g
