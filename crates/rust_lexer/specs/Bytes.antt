-- Classes of bytes, and runs of bytes of one class.
use Rattle.std.specs.Prelude.{◌+◌, ◌*◌, ◌%◌, ℕ, suc, Bool, false, not, ◌&&◌, ◌||◌, ◌==◌, nat_le, nat_lt, if◌then◌else◌, List, [], ◌∷◌, slice_index}
use Rattle.std.specs.Char.{is_ascii_alphabetic, is_ascii_alphanumeric, is_ascii_digit, is_ascii_hexdigit}
use Rattle.unicode_ident.specs.Ident.{is_xid_start, is_xid_continue}
use Rattle.rust_lexer.specs.declared.bytes.Class.{Class}
use Rattle.rust_lexer.specs.declared.bytes.Class.TheVariants as class

-- U+0085, U+200E, U+200F, U+2028 and U+2029, by the first byte and those behind it
abbrev pub is_wide_white : ℕ → List ℕ → Bool
is_wide_white b z =
    let last = slice_index z 1 in
    (b == 194 && slice_index z 0 == 133)
    || (b == 226 && slice_index z 0 == 128 && (last == 142 || last == 143 || last == 168 || last == 169))

-- WHITESPACE of the reference: U+0009 to U+000D, a blank, and those
abbrev pub is_white : ℕ → List ℕ → Bool
is_white b z = b == 32 || (nat_le 9 b && nat_le b 13) || is_wide_white b z

-- a byte behind the first of a character
abbrev pub is_continuation : ℕ → Bool
is_continuation b = nat_le 128 b && nat_lt b 192

-- the six bits that a byte behind the first gives
abbrev pub low_bits : ℕ → ℕ
low_bits b = b % 64

-- the number of the character past ASCII that begins with this byte, before these, by UTF-8
abbrev pub code : ℕ → List ℕ → ℕ
code b z =
    if nat_lt b 224 then b % 32 * 64 + low_bits (slice_index z 0)
    else (if nat_lt b 240 then b % 16 * 4096 + low_bits (slice_index z 0) * 64 + low_bits (slice_index z 1)
    else b % 8 * 262144 + low_bits (slice_index z 0) * 4096 + low_bits (slice_index z 1) * 64 + low_bits (slice_index z 2))

-- whether a number is that of a character
abbrev pub is_char : ℕ → Bool
is_char c = nat_lt c 55296 || (nat_le 57344 c && nat_lt c 1114112)

-- whether such a character may begin an identifier
unfoldable pub is_wide_start : ℕ → List ℕ → Bool
is_wide_start b z = nat_le 192 b && is_char (code b z) && is_xid_start (code b z)

-- and stand in one
unfoldable pub is_wide_continue : ℕ → List ℕ → Bool
is_wide_continue b z = nat_le 192 b && is_char (code b z) && is_xid_continue (code b z)

-- whether an identifier may begin with a byte, before these: XID_Start or `_`
abbrev pub is_start : ℕ → List ℕ → Bool
is_start b z = is_ascii_alphabetic b || b == 95 || is_wide_start b z

-- Whether a byte is of the class, before these. The bytes that continue a character go with its first.
abbrev pub is_in_class : Class → ℕ → List ℕ → Bool
is_in_class class.White b z = is_white b z || is_continuation b
is_in_class class.Word b z = is_ascii_alphanumeric b || b == 95 || is_continuation b || is_wide_continue b z
is_in_class class.Line b z = not (b == 10)
is_in_class class.Hash b z = b == 35
is_in_class class.Dash b z = b == 45
is_in_class class.Low b z = b == 95
is_in_class class.Decimal b z = is_ascii_digit b || b == 95
is_in_class class.Hexadecimal b z = is_ascii_hexdigit b || b == 95
is_in_class class.Continuation b z = is_continuation b

-- how many bytes at the front are of the class
abbrev pub run_length : Class → List ℕ → ℕ
run_length c [] = 0
run_length c (b ∷ z) = if is_in_class c b z then suc (run_length c z) else 0

-- whether an identifier may begin at the front
abbrev pub is_word_start : List ℕ → Bool
is_word_start [] = false
is_word_start (b ∷ z) = is_start b z

-- the same or a digit
abbrev pub is_word : List ℕ → Bool
is_word z = is_word_start z || is_ascii_digit (slice_index z 0)
