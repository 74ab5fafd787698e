-- What the code holds, as plain data.
use Rattle.std.specs.Prelude.{map, get_or, string_bytes}
use Rattle.std.specs.BTreeMap.{get_by_text}
use Rattle.item_tree.specs.Node.{nothing}
use Rattle.module_tree.specs.declared.data as data_of
use Rattle.module_tree.specs.declared.known.KnownFiles.{KnownFiles}
use Rattle.module_tree.specs.Modules.{ModuleFiles, Unresolved, FoundModules}

-- what is known: a file without a tree has no items
abbrev pub files_of : KnownFiles → ModuleFiles
files_of k = record { known = get_by_text k.paths.now; tree = λ file. get_or (map (λ tree. tree.now) k.trees.now) file nothing }

abbrev pub unresolved_view : data_of.UnresolvedModule.UnresolvedModule → Unresolved
unresolved_view u = record { parent = u.parent; name = u.name; id = u.declaration; reason = u.reason; paths = map string_bytes u.candidates.items }

abbrev pub modules_view : data_of.ModuleTree.ModuleTree → FoundModules
modules_view t = record { modules = t.modules.items; unresolved = map unresolved_view t.unresolved.items; wanted = map string_bytes t.wanted.items }
