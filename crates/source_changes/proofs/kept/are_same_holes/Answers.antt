use Rattle.source_changes.proofs.Texts.{holes_told}
use Rattle.source_changes.proofs.kept.are_same_holes.Goals as goal

pub returns : goal.returns
returns c = holes_told c.args.old.now c.args.new.now c.eq.result c.eq.ensures
