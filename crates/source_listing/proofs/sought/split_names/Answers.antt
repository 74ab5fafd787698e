use Rattle.std.proofs.Common.{rules}
use Rattle.source_listing.proofs.NamePaths.{read_next}
use Rattle.source_listing.proofs.sought.split_names.Goals as goal

pub loop-left-preserved : goal.loop-left-preserved
loop-left-preserved c = read_next c.loop-left.left.now _ _ _ _ _ _ _ c.in-len2-up.len_at_least c.loop-left.invariant c.name_before.ensures c.in-Some.is (search rules)
