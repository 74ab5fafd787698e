use Rattle.std.proofs.Common.{◌≡◌, ◌++◌, map, take, string_bytes}
use Rattle.source_changes.specs.Parts.{modules_path}
use Rattle.source_changes.specs.Views.{outer_view}
use Rattle.source_changes.proofs.text_parts.push_path.Given as goal

abbrev pub invariant-loop-module : goal.invariant-loop-module
invariant-loop-module l = string_bytes l.out ≡ string_bytes l.initial.out ++ modules_path (map outer_view (take l.module-index l.around))
