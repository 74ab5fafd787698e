-- Line ends. A carriage return before a line feed is left out before a text is cut into tokens, as rustc leaves it out; places are those
-- of the text as it is.
use Rattle.std.specs.Prelude.{ℕ, suc, ◌+◌, ◌==◌, ◌&&◌, Bool, nat_le, nat_lt, if◌then◌else◌, option_map, List, [], ◌∷◌, length, slice_index}
use Rattle.std.specs.List.{prefix_len}
use Rattle.rust_paths.specs.declared.names.TextRange.{TextRange}
use Rattle.rust_items.specs.declared.log.ItemSpan.{ItemSpan}
use Rattle.rust_items.specs.declared.log.Problem.{Problem}

-- a carriage return that ends a line with the line feed behind it
abbrev pub is_return : ℕ → List ℕ → Bool
is_return b z = b == 13 && slice_index z 0 == 10

-- a text without these
abbrev pub with_feeds : List ℕ → List ℕ
with_feeds [] = []
with_feeds (b ∷ z) = if is_return b z then with_feeds z else b ∷ with_feeds z

-- In the text without them, the places of the line feeds behind them. The number is where the text begins.
abbrev pub returns_from : ℕ → List ℕ → List ℕ
returns_from at [] = []
returns_from at (b ∷ z) = if is_return b z then at ∷ returns_from at z else returns_from (suc at) z

-- In a text, the place of what stands here in the text of so many bytes without them.
abbrev pub place_by : ℕ → List ℕ → ℕ → ℕ
place_by len returns at = if nat_le at len then at + prefix_len (λ q. nat_lt q at) returns else at

unfoldable pub place_in : List ℕ → ℕ → ℕ
place_in text = place_by (length (with_feeds text)) (returns_from 0 text)

-- ---- what has such places

abbrev pub moved_range : (ℕ → ℕ) → TextRange → TextRange
moved_range place r = record { start = place r.start; end = place r.end }

abbrev pub moved_span : (ℕ → ℕ) → ItemSpan → ItemSpan
moved_span place s = record { range = moved_range place s.range; name = option_map (moved_range place) s.name; body = option_map (moved_range place) s.body }

abbrev pub moved_problem : (ℕ → ℕ) → Problem → Problem
moved_problem place p = record { kind = p.kind; at = place p.at }
