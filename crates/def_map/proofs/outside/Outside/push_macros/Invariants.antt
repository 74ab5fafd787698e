use Rattle.std.proofs.Common.{◌≡◌, ◌++◌, ℕ, take, map}
use Rattle.std.specs.List.{filter_map}
use Rattle.def_map.specs.CrateView.{macro_view}
use Rattle.def_map.specs.Lowering.{macro_by}
use Rattle.def_map.specs.Seeding.{macro_named, macros_in}
use Rattle.def_map.proofs.outside.Outside.push_macros.Given as goal

abbrev pub invariant-loop-found : goal.invariant-loop-found
invariant-loop-found l = record {
  others : l.self.others ≡ l.fn.self.others;
  macros : (n : ℕ) → macros_in l.self n ≡ macros_in l.fn.self n ++ filter_map (macro_named n) (filter_map (macro_by l.numbers) (map macro_view (take l.found-index l.macros)));
}
