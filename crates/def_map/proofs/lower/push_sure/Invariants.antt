use Rattle.std.proofs.Common.{take, map}
use Rattle.std.specs.List.{filter_map}
use Rattle.def_map.specs.CrateView.{declared_view}
use Rattle.def_map.specs.Lowering.{declared_eq, sure_by}
use Rattle.def_map.specs.Numbering.{Interns}
use Rattle.def_map.proofs.lower.push_sure.Given as goal

abbrev pub invariant-loop-declared : goal.invariant-loop-declared
invariant-loop-declared l = Interns declared_eq (λ d. d) l.fn.all.keys l.all.keys (filter_map (sure_by l.numbers) (map declared_view (take l.declared-index l.declarations)))
