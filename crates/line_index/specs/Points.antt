-- Lines and columns by a style, both from 0, and the bytes at which they stand.
use Rattle.std.specs.Prelude.{◌≡◌, ◌≢◌, ◌≤◌, ℕ, zero, suc, ◌+◌, ◌-◌, ◌==◌, Bool, true, false, not, ◌&&◌, ◌||◌, if◌then◌else◌, List, [], ◌∷◌, drop, nat_eq, nat_le, nat_lt}
use Rattle.std.specs.List.{starts_with}
use Rattle.line_index.specs.declared.LineEnds.{LineEnds}
use Rattle.line_index.specs.declared.LineEnds.TheVariants.{Feeds, All}
use Rattle.line_index.specs.declared.Point.{Point}
use Rattle.line_index.specs.declared.Style.{Style}
use Rattle.line_index.specs.declared.Units.{Units}
use Rattle.line_index.specs.declared.Units.TheVariants.{Characters, Utf16, Bytes}

-- a byte behind the first of a character
abbrev pub continues_character : ℕ → Bool
continues_character b = nat_le 128 b && nat_lt b 192

-- how many units a byte takes: its character's, where it begins that, and of bytes one
abbrev pub byte_units : Units → ℕ → ℕ
byte_units Characters b = if continues_character b then 0 else 1
byte_units Utf16 b = if continues_character b then 0 else (if nat_lt b 240 then 1 else 2)
byte_units Bytes b = 1

-- a line end begins so
unfoldable pub begins_end : LineEnds → ℕ → Bool
begins_end Feeds b = b == 10
begins_end All b = b == 10 || b == 13

-- a line feed stands first
abbrev pub is_fed : List ℕ → Bool
is_fed [] = false
is_fed (b ∷ bytes) = b == 10

-- a carriage return before a line feed, with which it is one line end
unfoldable pub is_split : ℕ → List ℕ → Bool
is_split b bytes = b == 13 && is_fed bytes

-- the line ends behind this byte, in front of these
abbrev pub is_line_end : LineEnds → ℕ → List ℕ → Bool
is_line_end ends b bytes = begins_end ends b && not (is_split b bytes)

-- how many units a byte takes in a line, whose end takes none
abbrev pub column_units : Style → ℕ → ℕ
column_units style b = if begins_end style.line_ends b then 0 else byte_units style.units b

-- behind a byte, in front of these
abbrev pub point_behind : Style → Point → ℕ → List ℕ → Point
point_behind style p b bytes =
    if is_line_end style.line_ends b bytes then record { line = p.line + 1; column = 0 } else record { line = p.line; column = p.column + column_units style b }

-- so many of these bytes further on
abbrev pub point_further : Style → Point → ℕ → List ℕ → Point
point_further style p zero bytes = p
point_further style p (suc n) [] = p
point_further style p (suc n) (b ∷ bytes) = point_further style (point_behind style p b bytes) n bytes

-- how many bytes the byte order mark at the beginning of a text has, if one stands there
abbrev pub mark_length : List ℕ → ℕ
mark_length text = if starts_with nat_eq text (239 ∷ 187 ∷ 191 ∷ []) then 3 else 0

-- how many bytes in front of a text are not shown
abbrev pub hidden_length : Style → List ℕ → ℕ
hidden_length style text = if style.shows_mark then 0 else mark_length text

-- where a byte of a text stands; one past the text stands at its end
unfoldable pub point_at : Style → List ℕ → ℕ → Point
point_at style text at = point_further style (record { line = 0; column = 0 }) (at - hidden_length style text) (drop (hidden_length style text) text)

-- how many units the rest of a character takes, of which these bytes begin
abbrev pub rest_units : Units → List ℕ → ℕ
rest_units units [] = 0
rest_units units (b ∷ bytes) = if continues_character b then byte_units units b + rest_units units bytes else 0

-- a character begins with this byte that does not end before a column
abbrev pub is_beyond : Units → ℕ → ℕ → List ℕ → Bool
is_beyond units column b bytes = not (continues_character b) && nat_lt column (byte_units units b + rest_units units bytes)

-- how many bytes go before a line and a column: at most a line, whole characters, and the text
abbrev pub bytes_before : Style → (line column : ℕ) → List ℕ → ℕ
bytes_before style line column [] = 0
bytes_before style zero column (b ∷ bytes) =
    if begins_end style.line_ends b then 0
    else (if is_beyond style.units column b bytes then 0 else suc (bytes_before style 0 (column - byte_units style.units b) bytes))
bytes_before style (suc line) column (b ∷ bytes) =
    if is_line_end style.line_ends b bytes then suc (bytes_before style line column bytes) else suc (bytes_before style (suc line) column bytes)

-- the byte at which a point stands: a column past a line stands at its end, one in a character before that, a line past the text at the text's end
unfoldable pub byte_at : Style → List ℕ → Point → ℕ
byte_at style text p = hidden_length style text + bytes_before style p.line p.column (drop (hidden_length style text) text)

-- no character is cut here
abbrev pub IsBetween : List ℕ → Type 0
IsBetween [] = Unit {0}
IsBetween (b ∷ bytes) = continues_character b ≡ false

-- so many bytes on a point may stand: within the bytes, in no character, and in no line end
abbrev pub HasPoint : LineEnds → ℕ → List ℕ → Type 0
HasPoint ends zero bytes = IsBetween bytes
HasPoint ends (suc n) [] = ⊥
HasPoint ends (suc n) (b ∷ bytes) = HasPoint ends n bytes × (begins_end ends b ≡ true → is_split b bytes ≡ true → n ≢ 0)

-- a byte of a text at which a point may stand
abbrev pub IsPoint : Style → List ℕ → ℕ → Type 0
IsPoint style text at = (hidden_length style text ≤ at) × HasPoint style.line_ends (at - hidden_length style text) (drop (hidden_length style text) text)
