use Rattle.std.proofs.Common.{◌≡◌, ◌++◌, drop, codes, flat_map}
use Rattle.rust_metas.proofs.Common.{written_byte}
use Rattle.rust_metas.proofs.string.quoted_text.Given as goal

abbrev pub invariant-loop-b : goal.invariant-loop-b
invariant-loop-b l = l.out.items ++ flat_map written_byte (drop l.b-index l.text) ≡ codes "\"" ++ flat_map written_byte l.text
