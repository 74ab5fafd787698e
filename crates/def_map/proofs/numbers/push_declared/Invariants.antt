use Rattle.std.proofs.Common.{take, map}
use Rattle.std.specs.{List.filter_map}
use Rattle.def_map.specs.CrateView.{declared_view}
use Rattle.def_map.specs.Numbering.{Interns, item_eq, has_number, declared_item}
use Rattle.def_map.proofs.numbers.push_declared.Given as goal

abbrev pub invariant-loop-declared : goal.invariant-loop-declared
invariant-loop-declared l = Interns item_eq (λ key. key) l.fn.items.keys l.items.keys (filter_map (declared_item (has_number l.symbols.keys)) (map declared_view (take l.declared-index l.declarations)))
