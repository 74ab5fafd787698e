use Rattle.std.proofs.Common.{◌≡◌, ◌++◌, map, take}
use Rattle.serde_json.specs.View.{view}
use Rattle.source_imports.specs.Views.{repeated_import_view}
use Rattle.lsp.specs.Diagnostics.{repeat_diagnostic}
use Rattle.lsp.proofs.diagnostics.push_repeats.Given as goal

abbrev pub invariant-loop-repeat : goal.invariant-loop-repeat
invariant-loop-repeat l = map view l.values.items ≡ map view l.initial.values.items ++ map (repeat_diagnostic l.fn.units l.fn.text) (map repeated_import_view (take l.repeat-index l.repeats))
