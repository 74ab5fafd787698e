use Rattle.std.proofs.Common.{◌≡◌, take}
use Rattle.std.specs.List.{filter_map}
use Rattle.def_map.specs.Lowering.{number_by}
use Rattle.def_map.proofs.lower.lower_names.Given as goal

abbrev pub invariant-loop-name : goal.invariant-loop-name
invariant-loop-name l = l.path.items ≡ filter_map (number_by l.numbers) (take l.name-index l.names)
