use Rattle.std.proofs.Common.{◌≡◌, ◌-◌}
use Rattle.source_problems.specs.Markers.{behind_marks}
use Rattle.source_problems.proofs.markers.pass_marks.Given as goal

abbrev pub invariant-loop-mark : goal.invariant-loop-mark
invariant-loop-mark l = behind_marks (7 - l._mark) l.symbol l.lexer ≡ behind_marks 7 l.symbol l.fn.lexer
