use Rattle.std.proofs.Common.{◌≡◌, ◌≤◌, ◌+◌, Option, length, string_bytes}
use Rattle.rust_cursor.proofs.Common.{Tokens, kept_text, clipped_excerpt, taking}
use Rattle.rust_cursor.proofs.cursor.Cursor.take_inside.Given as goal

abbrev pub invariant-tokens : goal.invariant-tokens
invariant-tokens l = record {
  same : (opened : Option Tokens) → clipped_excerpt l.keeps_text (taking l.extent (string_bytes l.text) l.last opened l.nest l.self) ≡ clipped_excerpt l.keeps_text (taking l.extent (string_bytes l.initial.text) l.initial.last opened l.initial.nest l.initial.self);
  text : kept_text l.keeps_text (string_bytes l.initial.text) ≡ string_bytes l.initial.text → kept_text l.keeps_text (string_bytes l.text) ≡ string_bytes l.text;
  left : length l.self.left ≤ length l.initial.self.left;
  braces : l.nest.braces + length l.self.left ≤ l.initial.nest.braces + length l.initial.self.left;
  inner : l.nest.inner + length l.self.left ≤ l.initial.nest.inner + length l.initial.self.left;
  others : l.nest.others ≡ l.initial.nest.others;
  angles : l.nest.angles ≡ l.initial.nest.angles;
}

abbrev pub decreases-tokens : goal.decreases-tokens
decreases-tokens l = length l.self.left
