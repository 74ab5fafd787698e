-- the parts so far are those that were given so far
use Rattle.std.proofs.Common.{◌≡◌, map}
use Rattle.source_session.proofs.parts.parts.Given as goal

abbrev pub invariant-loop-part : goal.invariant-loop-part
invariant-loop-part l = map (λ p. p.now) l.parts.items ≡ map (λ p. p.now) l.yielded
