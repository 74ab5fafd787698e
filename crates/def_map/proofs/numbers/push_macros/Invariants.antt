use Rattle.std.proofs.Common.{take, map}
use Rattle.std.specs.{List.filter_map}
use Rattle.def_map.specs.CrateView.{macro_view}
use Rattle.def_map.specs.Numbering.{Interns, item_eq, has_number, macro_item}
use Rattle.def_map.proofs.numbers.push_macros.Given as goal

abbrev pub invariant-loop-found : goal.invariant-loop-found
invariant-loop-found l = Interns item_eq (λ key. key) l.fn.items.keys l.items.keys (filter_map (macro_item (has_number l.symbols.keys)) (map macro_view (take l.found-index l.macros)))
