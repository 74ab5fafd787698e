use Rattle.std.proofs.Common.{◌≡◌, drop}
use Rattle.def_map.specs.{Tables.around_by_names, Views.sources_view}
use Rattle.def_map.proofs.visibility.around_by_names.Given as goal

abbrev pub invariant-loop-name : goal.invariant-loop-name
invariant-loop-name l =
    around_by_names l.ctx.parents.now (sources_view l.ctx.sources) l.at (drop l.name-index l.names) l.m ≡ around_by_names l.ctx.parents.now (sources_view l.ctx.sources) l.at l.names l.start
