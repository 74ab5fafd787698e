use Rattle.std.proofs.Common.{take}
use Rattle.std.specs.{List.flat_map, Str.bytes_eq}
use Rattle.def_map.specs.Numbering.{Interns}
use Rattle.def_map.proofs.numbers.push_paths.Given as goal

abbrev pub invariant-loop-import : goal.invariant-loop-import
invariant-loop-import l = Interns bytes_eq (λ symbol. symbol.now) l.fn.symbols.keys l.symbols.keys (flat_map (λ import. import.names.now) (take l.import-index l.imports))
