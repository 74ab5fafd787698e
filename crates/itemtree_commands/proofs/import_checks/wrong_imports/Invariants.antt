use Rattle.std.proofs.Common.{◌≡◌, map, take, flat_map, string_bytes}
use Rattle.itemtree_commands.specs.ImportChecks.{wrong_import_line}
use Rattle.itemtree_commands.specs.ModuleLists.{placed_text}
use Rattle.itemtree_commands.proofs.import_checks.wrong_imports.Given as goal

abbrev pub invariant-loop-import : goal.invariant-loop-import
invariant-loop-import l =
    (l.finders.items ≡ map placed_text l.fn.files)
    × (string_bytes l.out ≡ flat_map (wrong_import_line l.fn.is_colored l.modules l.fn.files) (take l.import-index l.fn.imports))
