use Rattle.std.proofs.Common.{◌≡◌, ◌++◌, map, take}
use Rattle.def_map.specs.CrateView.{other_view}
use Rattle.def_map.specs.Inner.Walking.{unseen_other}
use Rattle.def_map.proofs.gather.push_names.Given as goal

abbrev pub invariant-loop-name : goal.invariant-loop-name
invariant-loop-name l = map other_view l.list.items ≡ map other_view l.fn.list.items ++ map unseen_other (take l.name-index l.names)
