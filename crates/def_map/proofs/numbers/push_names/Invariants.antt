use Rattle.std.proofs.Common.{take}
use Rattle.std.specs.{Str.bytes_eq}
use Rattle.def_map.specs.Numbering.{Interns}
use Rattle.def_map.proofs.numbers.push_names.Given as goal

abbrev pub invariant-loop-name : goal.invariant-loop-name
invariant-loop-name l = Interns bytes_eq (λ symbol. symbol.now) l.fn.symbols.keys l.symbols.keys (take l.name-index l.names)
