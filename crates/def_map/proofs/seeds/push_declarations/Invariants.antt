use Rattle.std.proofs.Common.{◌≡◌, ◌++◌, take, map}
use Rattle.std.specs.List.{filter_map}
use Rattle.def_map.specs.CrateView.{declared_view}
use Rattle.def_map.specs.Lowering.{declaration_by}
use Rattle.def_map.specs.Seeding.{declaration_seed}
use Rattle.def_map.proofs.seeds.push_declarations.Given as goal

abbrev pub invariant-loop-declared : goal.invariant-loop-declared
invariant-loop-declared l = l.seeds.items ≡ l.fn.seeds.items ++ map declaration_seed (filter_map (declaration_by l.numbers) (map declared_view (take l.declared-index l.declarations)))
