use Rattle.std.proofs.Common.{◌≡◌, map, take}
use Rattle.def_map.specs.{Tables.least_visibility, Inner.Walking.seen_at}
use Rattle.def_map.proofs.visibility.least_visibility.Given as goal

abbrev pub invariant-loop-id : goal.invariant-loop-id
invariant-loop-id l = l.all ≡ least_visibility l.ctx.parents.now (map (seen_at l.ctx l.tree l.at) (take l.id-index l.ids))
