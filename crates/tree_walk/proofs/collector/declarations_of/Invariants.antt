use Rattle.std.proofs.Common.{◌≡◌, map, take, flat_map}
use Rattle.tree_walk.specs.{DeclarationView.collected_declaration, Inner.Declared.own_in, Inner.Steps.step_view}
use Rattle.tree_walk.proofs.collector.declarations_of.Given as goal

abbrev pub invariant-loop-step : goal.invariant-loop-step
invariant-loop-step l = map (collected_declaration l.tree) l.declarations.items ≡ flat_map (own_in l.tree) (map step_view (take l.step-index l.steps))
