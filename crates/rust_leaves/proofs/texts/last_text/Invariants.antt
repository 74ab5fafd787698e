use Rattle.std.proofs.Common.{◌≡◌, ◌-◌}
use denote.Shadow.{shadow}
use denote.Text.{Utf8}
use Rattle.rust_leaves.proofs.Common.{last_text_from, last_text}
use Rattle.rust_leaves.proofs.texts.last_text.Given as goal

abbrev pub invariant-loop-turn : goal.invariant-loop-turn
invariant-loop-turn l = record {
  same : last_text_from (l.most - l._turn) l.end l.last l.ahead ≡ last_text l.end l.cursor;
  text : shadow (Utf8 l.last);
}
