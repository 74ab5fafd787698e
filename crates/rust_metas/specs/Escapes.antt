-- Escapes in string literals, behind their backslash.
use lib.Utf8.{scalar}
use Rattle.std.specs.Prelude.{ℕ, suc, ◌+◌, ◌*◌, ◌==◌, ◌&&◌, ◌||◌, Bool, nat_lt, if◌then◌else◌, Option, Some, None, option_map, List, [], ◌∷◌, slice_index}
use Rattle.std.specs.Char.{digit_value}
use Rattle.rust_metas.specs.declared.escape.Escape.{Escape}

abbrev pub stands_for : ℕ → ℕ → Escape
stands_for character len = record { character = Some character; len = len }

-- QUOTE_ESCAPE and ASCII_ESCAPE of one letter
abbrev pub escape_letter : ℕ → Option ℕ
escape_letter b =
    if b == 110 then Some 10
    else (if b == 114 then Some 13
    else (if b == 116 then Some 9
    else (if b == 48 then Some 0
    else (if b == 92 || b == 39 || b == 34 then Some b else None))))

-- ASCII_ESCAPE of two hexadecimal digits, up to 7F
abbrev pub hex : List ℕ → Option Escape
hex (a ∷ b ∷ z) = if nat_lt (digit_value a) 8 && nat_lt (digit_value b) 16 then Some (stands_for (digit_value a * 16 + digit_value b) 3) else None
hex _ = None

abbrev pub later_place : Option (ℕ × ℕ) → Option (ℕ × ℕ)
later_place read = option_map (λ p. (p.0, suc p.1)) read

-- The number of up to six hexadecimal digits up to a brace, with underscores behind the first, and how many bytes these are with the brace.
-- The first number is that of the digits so far, and the second counts them.
abbrev pub number_from : ℕ → ℕ → List ℕ → Option (ℕ × ℕ)
number_from value count [] = None
number_from value count (b ∷ z) =
    if nat_lt (digit_value b) 16 then (if count == 6 then None else later_place (number_from (value * 16 + digit_value b) (count + 1) z))
    else (if count == 0 then None
    else (if b == 125 then Some (value, 1)
    else (if b == 95 then later_place (number_from value count z) else None)))

-- a number that is no scalar value stands for nothing
abbrev pub scalar_of : Option (ℕ × ℕ) → Option Escape
scalar_of None = None
scalar_of (Some p) = if scalar p.0 then Some (stands_for p.0 (p.1 + 2)) else None

-- UNICODE_ESCAPE
abbrev pub unicode : List ℕ → Option Escape
unicode [] = None
unicode (b ∷ z) = if b == 123 then scalar_of (number_from 0 0 z) else None

abbrev pub is_escaped_blank : ℕ → Bool
is_escaped_blank b = b == 32 || b == 9 || b == 10 || b == 13

-- how many blank bytes come first
abbrev pub blanks : List ℕ → ℕ
blanks [] = 0
blanks (b ∷ z) = if is_escaped_blank b then suc (blanks z) else 0

-- a line's end
abbrev pub is_feed : ℕ → List ℕ → Bool
is_feed b z = b == 10 || (b == 13 && slice_index z 0 == 10)

abbrev pub letter_escape : Option ℕ → Option Escape
letter_escape character = option_map (λ c. stands_for c 1) character

-- the escape behind a backslash; STRING_CONTINUE stands for no character
abbrev pub escape : List ℕ → Option Escape
escape [] = None
escape (b ∷ z) =
    if b == 120 then hex z
    else (if b == 117 then unicode z
    else (if is_feed b z then Some (record { character = None; len = suc (blanks z) }) else letter_escape (escape_letter b)))
