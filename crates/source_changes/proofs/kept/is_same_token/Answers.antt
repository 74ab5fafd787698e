use Rattle.source_changes.proofs.Marks.{apart_told, joint_told}
use Rattle.source_changes.proofs.kept.is_same_token.Goals as goal

pub returns-then-one-other : goal.returns-then-one-other
returns-then-one-other c = apart_told _ _ _ _ c.if-one-other.true

pub returns : goal.returns
returns c = joint_told _ _ _ _ _ c.if-one-other.false c.is_same_text.ensures
