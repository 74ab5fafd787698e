-- the copy so far is that of the characters so far
use Rattle.std.proofs.Common.{◌≡◌, encode_utf8, flat_map, string_bytes}
use Rattle.cargo_manifest.specs.Dependencies.{rust_name}
use Rattle.cargo_manifest.proofs.texts.rust_name.Given as goal

abbrev pub invariant-loop-c : goal.invariant-loop-c
invariant-loop-c l = string_bytes l.copy ≡ flat_map (λ c. rust_name (encode_utf8 c)) l.yielded
