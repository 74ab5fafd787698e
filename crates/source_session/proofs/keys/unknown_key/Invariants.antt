-- the answer is that of what is left
use Rattle.std.proofs.Common.{◌≡◌}
use Rattle.serde_json.specs.View.{members_view}
use Rattle.source_session.proofs.Common.{unknown_key}
use Rattle.source_session.proofs.keys.unknown_key.Given as goal

abbrev pub invariant-loop-key : goal.invariant-loop-key
invariant-loop-key l = unknown_key l.object (members_view l.members.entries) ≡ unknown_key l.object (members_view l.key-iterator)
