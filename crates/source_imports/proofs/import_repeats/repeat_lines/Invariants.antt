use Rattle.source_imports.proofs.Common.{◌≡◌, flat_map, map, string_bytes, take}
use Rattle.source_imports.specs.Repeated as spec
use Rattle.source_imports.specs.Views.{repeated_import_view}
use Rattle.source_imports.proofs.import_repeats.repeat_lines.Given as goal

abbrev pub invariant-loop-repeat : goal.invariant-loop-repeat
invariant-loop-repeat l = string_bytes l.out ≡ flat_map (spec.repeat_line l.fn.is_colored l.fn.path) (map repeated_import_view (take l.repeat-index l.repeats))
