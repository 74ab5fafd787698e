use Rattle.def_map.proofs.Resolving.{found_more}
use Rattle.def_map.proofs.told.tell_all.Goals as goal

pub loop-number-preserved : goal.loop-number-preserved
loop-number-preserved c = found_more c.args.found.now c.loop-number.number c.loop-number.told.items c.push.new.self.items _ c.loop-number.invariant c.in_ok-tell.ensures c.in_ok-push.ensures.items
