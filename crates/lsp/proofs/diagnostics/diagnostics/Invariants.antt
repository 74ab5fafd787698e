use Rattle.std.proofs.Common.{◌≡◌, map, take}
use Rattle.serde_json.specs.View.{view}
use Rattle.lsp.specs.Diagnostics.{diagnostic}
use Rattle.lsp.proofs.diagnostics.diagnostics.Given as goal

abbrev pub invariant-loop-problem : goal.invariant-loop-problem
invariant-loop-problem l = map view l.values.items ≡ map (diagnostic l.units l.text) (take l.problem-index l.problems)
