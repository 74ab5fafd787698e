use Rattle.std.proofs.Common.{take, nat_eq}
use Rattle.std.specs.List.{filter_map}
use Rattle.def_map.specs.Lowering.{number_by}
use Rattle.def_map.specs.Numbering.{Interns}
use Rattle.def_map.proofs.outside.push_others.Given as goal

abbrev pub invariant-loop-name : goal.invariant-loop-name
invariant-loop-name l = Interns nat_eq (λ n. n) l.fn.others.keys l.others.keys (filter_map (λ name. number_by l.numbers name.now) (take l.name-index l.names))
