use Rattle.source_listing.proofs.Common.{◌≡◌, take, string_bytes, flat_map, source_view}
use Rattle.source_listing.specs.Lines as spec
use Rattle.source_listing.proofs.problems.problem_lines.Given as goal

abbrev pub invariant-loop-problem : goal.invariant-loop-problem
invariant-loop-problem l = (string_bytes l.out ≡ flat_map (spec.problem_line l.fn.is_colored (source_view l.fn.source)) (take l.problem-index l.problems)) × (l.lines ≡ l.fn.source.text.now)
