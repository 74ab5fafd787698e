use Rattle.source_tags.proofs.Common.{◌≡◌}
use Rattle.source_tags.specs.LineSearches as spec
use Rattle.source_tags.specs.Views.{line_view}
use Rattle.source_tags.proofs.line_searches.line_on.Given as goal

abbrev pub invariant-loop-step : goal.invariant-loop-step
invariant-loop-step l = line_view l.line ≡ spec.line_on l._step (line_view l.fn.line)
