-- For the crate's own functions.
use Rattle.std.specs.Prelude.{◌≡◌, ◌≤◌, ◌<◌, ℕ, suc, ◌+◌, ◌-◌, Bool, not, ◌&&◌, ◌||◌, ◌==◌, nat_le, nat_lt, length, slice_index, if◌then◌else◌, List, [], ◌∷◌, take, drop, true, Option, Some, None}
use Rattle.std.specs.Int.{bit_at}
use Rattle.rust_lexer.specs.declared.cut.Cut.{Cut}
use Rattle.rust_lexer.specs.declared.stops.Block.{Block}
use Rattle.std.specs.Char.{is_ascii_alphanumeric}
use Rattle.rust_lexer.specs.Alone.{overhang}
use Rattle.rust_lexer.specs.Bytes.{code, is_char, is_continuation}
use Rattle.rust_lexer.specs.Cut.{is_punctuation}
use Rattle.rust_lexer.specs.Piece.{Piece}
use Rattle.rust_lexer.specs.Tokens.{piece, whole_length}

-- the token that is cut off a text so, at this place, and the text behind it
abbrev pub split_of : Cut → ℕ → List ℕ → Option (Piece × List ℕ)
split_of c at [] = None
split_of c at (b ∷ z) = Some (piece c at b z, drop (whole_length c z) z)

-- the character past ASCII that begins with this byte, before these
abbrev pub wide_char : ℕ → List ℕ → Option ℕ
wide_char b z = if is_char (code b z) then Some (code b z) else None

-- ---- bytes that are told apart by a table

-- goes on with an identifier, whatever stands behind it
abbrev pub is_word_byte : ℕ → Bool
is_word_byte b = is_ascii_alphanumeric b || b == 95 || is_continuation b

-- a letter, a digit or `_` of ASCII
abbrev pub is_plain_byte : ℕ → Bool
is_plain_byte b = is_ascii_alphanumeric b || b == 95

-- white space of ASCII
abbrev pub is_blank_byte : ℕ → Bool
is_blank_byte b = b == 32 || (nat_le 9 b && nat_le b 13)

-- a letter of ASCII or `_`, but none that may begin a literal
abbrev pub is_letter : ℕ → Bool
is_letter b =
    (nat_le 65 b && nat_le b 90) || b == 95 || b == 97 || (nat_le 100 b && nat_le b 113) || (nat_le 115 b && nat_le b 122)

-- brackets
abbrev pub is_open_byte : ℕ → Bool
is_open_byte b = b == 40 || b == 91 || b == 123

abbrev pub is_close_byte : ℕ → Bool
is_close_byte b = b == 41 || b == 93 || b == 125

-- a mark that begins no comment
abbrev pub is_lone_mark : ℕ → Bool
is_lone_mark b = is_punctuation b && not (b == 47)

abbrev pub is_mark_byte : ℕ → Bool
is_mark_byte b = is_open_byte b || is_close_byte b || is_lone_mark b

-- ---- bytes at which tokens end

abbrev pub is_quote_byte : ℕ → Bool
is_quote_byte b = b == 34 || b == 39

-- a bracket, a quote or a `/`: a token that holds one begins with it, or with the prefix of a literal before it
abbrev pub is_stop_byte : ℕ → Bool
is_stop_byte b = is_open_byte b || is_close_byte b || is_quote_byte b || b == 47

-- how many bytes at the front are no stops
abbrev pub gap : List ℕ → ℕ
gap [] = 0
gap (b ∷ z) = if is_stop_byte b then 0 else suc (gap z)

-- can stand in the prefix of a literal, before its quote
abbrev pub is_prefix_byte : ℕ → Bool
is_prefix_byte b = b == 35 || b == 98 || b == 99 || b == 114

-- where a token begins at the first of two places, and no stop is between them, one ends at the second
abbrev pub is_clean : List ℕ → ℕ → ℕ → Bool
is_clean z from stop = not (nat_lt from stop && (is_prefix_byte (slice_index z (stop - 1)) && is_quote_byte (slice_index z stop)))

-- the bits of a block tell the stops of a text, and it begins no later than this place
pub record IsBlock (z : List ℕ) (from : ℕ) (b : Block) : Type 0 where
  pub begun : b.at ≤ from
  pub within : b.end ≤ length z
  pub full : b.at < b.end → b.end ≡ b.at + 64
  pub told : (k : ℕ) → b.at + k < b.end → (bit_at b.bits k == 1) ≡ is_stop_byte (slice_index z (b.at + k))

-- what may stand in front of a text alone can begin with it
abbrev pub begins_front : ℕ → Bool
begins_front b = b == 239 || b == 35 || b == 45 || b == 10 || b == 13

-- ---- what two texts begin with

abbrev pub is_brace_byte : ℕ → Bool
is_brace_byte b = b == 123 || b == 125

-- no token of a text reaches over a place
abbrev pub IsTokenBoundary : List ℕ → ℕ → Type 0
IsTokenBoundary z k = overhang 0 (take k z) (drop k z) ≡ 0

-- a brace is a token of a text, and another has the same bytes up to and with it
pub record IsCommon (z w : List ℕ) (k : ℕ) : Type 0 where
  pub within : k < length z
  pub begins : IsTokenBoundary z k
  pub brace : is_brace_byte (slice_index z k) ≡ true
  pub same : take (k + 1) w ≡ take (k + 1) z
