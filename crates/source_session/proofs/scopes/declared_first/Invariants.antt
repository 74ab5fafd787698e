-- what is left tells what all tell
use Rattle.std.proofs.Common.{◌≡◌, length, map}
use Rattle.source_session.proofs.Common.{declared_scope, found_scope}
use Rattle.source_session.proofs.scopes.declared_first.Given as goal

abbrev pub invariant-loop-left : goal.invariant-loop-left
invariant-loop-left l = found_scope l.id (map declared_scope l.left) ≡ found_scope l.id (map declared_scope l.initial.left)

abbrev pub decreases-loop-left : goal.decreases-loop-left
decreases-loop-left l = length l.left
