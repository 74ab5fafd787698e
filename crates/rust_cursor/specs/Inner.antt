-- Quick tests of words, by their length and two of their bytes. No public clause cites them.
use Rattle.std.specs.Prelude.{ℕ, ◌-◌, ◌/◌, Bool, ◌&&◌, List, length, slice_index}
use Rattle.rust_cursor.specs.declared.cursor.keywords.TheConstants.{ITEM_FIRST, ITEM_LAST, LEADING_FIRST, LEADING_MIDDLE}
use Rattle.rust_cursor.specs.Words.{has_length}

-- a word that may be a keyword with which neither a type nor a value ends, by its length and two of its bytes
abbrev pub may_lead_on : List ℕ → Bool
may_lead_on w = has_length LEADING_FIRST (slice_index w 0) w && has_length LEADING_MIDDLE (slice_index w (length w / 2)) w

-- a word that may begin an item, by its length and two of its bytes
abbrev pub leads_item : List ℕ → Bool
leads_item w = has_length ITEM_FIRST (slice_index w 0) w && has_length ITEM_LAST (slice_index w (length w - 1)) w
