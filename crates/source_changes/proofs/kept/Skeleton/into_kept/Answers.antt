use Rattle.source_changes.proofs.Holes.{after_all}
use Rattle.source_changes.proofs.kept.Skeleton.into_kept.Goals as goal

pub returns-clause-after : goal.returns-clause-after
returns-clause-after c = after_all 0 c.new.result c.new.ensures.in_place c.new.ensures.not_empty
