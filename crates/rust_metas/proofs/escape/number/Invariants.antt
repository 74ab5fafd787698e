use Rattle.std.proofs.Common.{◌≡◌, ◌≤◌, ◌<◌, ◌+◌, ◌^◌, length, option_map}
use Rattle.rust_metas.proofs.Common.{number_from}
use Rattle.rust_metas.proofs.escape.number.Given as goal

abbrev pub invariant-digits : goal.invariant-digits
invariant-digits l = record {
  same : option_map (λ p. (p.0, l.len + p.1)) (number_from l.value l.count l.z) ≡ number_from 0 0 l.initial.z;
  all : l.len + length l.z ≡ length l.initial.z;
  few : l.count ≤ 6;
  small : l.value < 16 ^ l.count;
}

abbrev pub decreases-digits : goal.decreases-digits
decreases-digits l = length l.z
