-- Numbers, by their first digit and the bytes behind it.
use Rattle.std.specs.Prelude.{ℕ, ◌+◌, Bool, not, ◌&&◌, ◌||◌, ◌==◌, if◌then◌else◌, List, drop, slice_index}
use Rattle.std.specs.Char.{is_ascii_digit}
use Rattle.rust_lexer.specs.declared.bytes.Class.{Class}
use Rattle.rust_lexer.specs.declared.bytes.Class.TheVariants as class
use Rattle.rust_lexer.specs.declared.kind.LiteralKind.TheVariants.{Int, Float}
use Rattle.rust_lexer.specs.declared.number.Numeral.{Numeral}
use Rattle.rust_lexer.specs.Bytes.{run_length, is_word_start}

-- so many bytes, of an integer or of a float
abbrev pub int : ℕ → Numeral
int n = record { kind = Int; len = n }

abbrev pub float : ℕ → Numeral
float n = record { kind = Float; len = n }

abbrev pub is_exponent : ℕ → Bool
is_exponent b = b == 101 || b == 69

abbrev pub is_sign : ℕ → Bool
is_sign b = b == 43 || b == 45

-- behind the digits that stand behind so many bytes
abbrev pub past_decimal : List ℕ → ℕ → ℕ
past_decimal z n = n + run_length class.Decimal (drop n z)

-- FLOAT_EXPONENT, if an `e` stands behind so many bytes
abbrev pub past_exponent : List ℕ → ℕ → ℕ
past_exponent z n =
    if is_exponent (slice_index z n) then
    (if is_sign (slice_index z (n + 1)) then past_decimal z (n + 2) else past_decimal z (n + 1))
    else n

-- A point belongs to the number, unless another point or an identifier stands behind it.
abbrev pub is_fraction : List ℕ → ℕ → Bool
is_fraction z n =
    let behind = drop (n + 1) z in
    slice_index z n == 46 && not (slice_index behind 0 == 46) && not (is_word_start behind)

-- behind that point, with digits where one follows, and then an exponent
abbrev pub past_fraction : List ℕ → ℕ → ℕ
past_fraction z n =
    if is_ascii_digit (slice_index (drop (n + 1) z) 0) then past_exponent z (past_decimal z (n + 1)) else n + 1

-- behind so many bytes of digits, a fraction and an exponent
unfoldable pub past_digits : List ℕ → ℕ → Numeral
past_digits z n =
    if is_fraction z n then float (past_fraction z n)
    else (if is_exponent (slice_index z n) then float (past_exponent z n) else int n)

-- behind `0b`, `0o` or `0x`: an integer where no digit follows
abbrev pub based_number : Class → List ℕ → Numeral
based_number digits z =
    let n = run_length digits (drop 1 z) in
    if run_length class.Low (drop 1 z) == n then int (n + 1) else past_digits z (n + 1)

-- INTEGER_LITERAL and FLOAT_LITERAL, without a suffix
abbrev pub number : ℕ → List ℕ → Numeral
number b z =
    if b == 48 && slice_index z 0 == 120 then based_number class.Hexadecimal z
    else (if b == 48 && (slice_index z 0 == 98 || slice_index z 0 == 111) then based_number class.Decimal z
    else past_digits z (run_length class.Decimal z))
