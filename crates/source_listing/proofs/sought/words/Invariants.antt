use Rattle.std.proofs.Common.{◌≡◌, map}
use Rattle.source_listing.proofs.sought.words.Given as goal

abbrev pub invariant-loop-word : goal.invariant-loop-word
invariant-loop-word l = map (λ w. w.now) l.words.items ≡ map (λ w. w.now) l.yielded
