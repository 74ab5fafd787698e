use Rattle.std.proofs.Common.{◌≡◌, ℕ, take}
use Rattle.hir_input.specs.declared.ids.FileAstId.{FileAstId}
use Rattle.def_map.specs.{Inner.Modules.number_at, Tables.module_of}
use Rattle.def_map.proofs.module_index.index_modules.Given as goal

abbrev pub invariant-loop-number : goal.invariant-loop-number
invariant-loop-number l = (at : ℕ) (a : FileAstId) → number_at l.numbers at a ≡ module_of (take l.number l.modules) at a
