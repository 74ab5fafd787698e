use Rattle.std.proofs.Common.{◌≡◌, length, string_bytes}
use Rattle.rust_cursor.proofs.Common.{kept_text, clipped_excerpt, taking, excerpt_behind}
use Rattle.rust_cursor.proofs.Nesting.{AreCounted}
use Rattle.rust_cursor.proofs.cursor.Cursor.take_excerpt.Given as goal

abbrev pub invariant-tokens : goal.invariant-tokens
invariant-tokens l = record {
  same : clipped_excerpt l.keeps_text (taking l.extent (string_bytes l.text) l.last l.opened l.nest l.self) ≡ clipped_excerpt l.keeps_text (excerpt_behind l.fn.before l.extent l.initial.self);
  text : kept_text l.keeps_text (string_bytes l.text) ≡ string_bytes l.text;
  counted : AreCounted l.nest l.self;
}

abbrev pub decreases-tokens : goal.decreases-tokens
decreases-tokens l = length l.self.left
