use Rattle.std.proofs.Common.{[], take}
use Rattle.std.specs.List.{filter_map}
use Rattle.def_map.specs.Numbering.{Interns}
use Rattle.def_map.specs.Targets.{place_target, target_eq}
use Rattle.def_map.proofs.targets.import_targets.Given as goal

abbrev pub invariant-loop-place : goal.invariant-loop-place
invariant-loop-place l = Interns target_eq (λ x. x) [] l.found.keys (filter_map (place_target l.table l.numbers.items.keys l.closure.facts.keys l.number) (take l.place-index l.place-items))
