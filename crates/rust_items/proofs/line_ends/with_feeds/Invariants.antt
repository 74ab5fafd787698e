use denote.Shadow.{shadow}
use denote.Text.{Utf8}
use Rattle.std.proofs.Common.{◌≡◌, ◌++◌, length, string_bytes}
use Rattle.rust_items.proofs.Common.{with_feeds, returns_from}
use Rattle.rust_items.proofs.line_ends.with_feeds.Given as goal

abbrev pub invariant-returns : goal.invariant-returns
invariant-returns l = record {
  utf8 : shadow (Utf8 l.left);
  feeds : string_bytes l.feeds ++ with_feeds l.left ≡ with_feeds l.fn.text;
  returns : l.returns.items ++ returns_from (length (string_bytes l.feeds)) l.left ≡ returns_from 0 l.fn.text;
}

abbrev pub decreases-returns : goal.decreases-returns
decreases-returns l = length l.left
