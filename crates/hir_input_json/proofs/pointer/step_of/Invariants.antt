-- the step so far is that of the characters so far
use Rattle.std.proofs.Common.{◌≡◌, encode_utf8, flat_map, string_bytes}
use Rattle.hir_input_json.proofs.Common.{pointer_step}
use Rattle.hir_input_json.proofs.pointer.step_of.Given as goal

abbrev pub invariant-loop-c : goal.invariant-loop-c
invariant-loop-c l = string_bytes l.step ≡ flat_map (λ c. pointer_step (encode_utf8 c)) l.yielded
