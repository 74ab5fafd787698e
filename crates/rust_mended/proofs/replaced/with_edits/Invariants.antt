use Rattle.std.proofs.Common.{◌≡◌, ◌+◌, ◌++◌, length, string_bytes, IsCharBoundary}
use Rattle.rust_mended.specs.Steps.{EditsFit}
use Rattle.rust_mended.specs.Texts.{with_edits, puts_from}
use Rattle.rust_mended.proofs.replaced.with_edits.Given as goal

abbrev pub invariant-edits : goal.invariant-edits
invariant-edits l = record {
  fits : EditsFit (IsCharBoundary l.text) l.at l.rest;
  begins : IsCharBoundary l.text l.at;
  text : string_bytes l.replaced ++ with_edits l.text l.at l.rest ≡ with_edits l.text 0 l.edits;
  len : length (string_bytes l.replaced) ≡ l.at + length l.puts.items;
  puts : l.puts.items ++ puts_from (length l.puts.items) l.rest ≡ puts_from 0 l.edits;
}

abbrev pub decreases-edits : goal.decreases-edits
decreases-edits l = length l.rest
