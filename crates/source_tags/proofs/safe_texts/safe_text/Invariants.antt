use Rattle.source_tags.proofs.Common.{◌≡◌, string_bytes, flat_map, safe_char}
use Rattle.source_tags.proofs.safe_texts.safe_text.Given as goal

abbrev pub invariant-loop-c : goal.invariant-loop-c
invariant-loop-c l = string_bytes l.out ≡ flat_map safe_char l.yielded
