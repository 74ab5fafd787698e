use Rattle.source_listing.proofs.Common.{◌≡◌, string_bytes, flat_map}
use Rattle.source_listing.specs.Patterns.{letter_for}
use Rattle.source_listing.proofs.patterns.with_letters.Given as goal

abbrev pub invariant-loop-c : goal.invariant-loop-c
invariant-loop-c l = string_bytes l.text ≡ flat_map letter_for l.yielded
