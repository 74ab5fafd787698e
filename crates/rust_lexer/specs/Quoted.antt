-- How far quoted literals go, behind their opening quote.
use Rattle.std.specs.Prelude.{ℕ, suc, ◌+◌, Bool, true, false, not, ◌&&◌, ◌||◌, ◌==◌, nat_le, if◌then◌else◌, List, [], ◌∷◌, drop, slice_index, Option, Some, None}
use Rattle.rust_lexer.specs.declared.bytes.Class.TheVariants as class
use Rattle.rust_lexer.specs.declared.quoted.Extent.{Extent}
use Rattle.rust_lexer.specs.Bytes.{run_length}

-- so many bytes, and the last closes it
abbrev pub closed_extent : ℕ → Extent
closed_extent n = record { len = n; is_closed = true }

-- so many bytes, and nothing closes it
abbrev pub unclosed_extent : ℕ → Extent
unclosed_extent n = record { len = n; is_closed = false }

-- STRING_LITERAL: up to a `"` that stands behind no backslash. The number counts the bytes so far.
abbrev pub string : Bool → ℕ → List ℕ → Extent
string is_escaped n [] = unclosed_extent n
string true n (b ∷ z) = string false (suc n) z
string false n (b ∷ z) = if b == 34 then closed_extent (suc n) else string (b == 92) (suc n) z

-- RAW_STRING_CONTENT: up to a `"` with so many `#` behind it
abbrev pub raw : ℕ → ℕ → List ℕ → Extent
raw hashes n [] = unclosed_extent n
raw hashes n (b ∷ z) =
    if b == 34 && nat_le hashes (run_length class.Hash z) then closed_extent (suc n + hashes) else raw hashes (suc n) z

-- RAW_STRING_LITERAL behind its letters, if a `"` stands behind the `#`
abbrev pub raw_string : ℕ → List ℕ → Option Extent
raw_string n z =
    let hashes = run_length class.Hash z in
    if slice_index z hashes == 34 then Some (raw hashes (n + hashes + 1) (drop (hashes + 1) z)) else None

-- what ends a character that nothing closes: a `/`, or the end of a line that no `'` follows
abbrev pub ends_single : ℕ → ℕ → Bool
ends_single b next = b == 47 || (b == 10 && not (next == 39))

-- up to a `'`
abbrev pub single : Bool → ℕ → List ℕ → Extent
single is_escaped n [] = unclosed_extent n
single true n (b ∷ z) = single false (suc n) z
single false n (b ∷ z) =
    if b == 39 then closed_extent (suc n)
    else (if ends_single b (slice_index z 0) then unclosed_extent n else single (b == 92) (suc n) z)

-- how many bytes the first character has
abbrev pub char_len : List ℕ → ℕ
char_len z = suc (run_length class.Continuation (drop 1 z))

-- one character that is no backslash, and a `'`
abbrev pub is_one_char : List ℕ → Bool
is_one_char [] = false
is_one_char (b ∷ z) = not (b == 92) && slice_index (b ∷ z) (char_len (b ∷ z)) == 39

-- CHAR_LITERAL and BYTE_LITERAL
abbrev pub character : ℕ → List ℕ → Extent
character n z = if is_one_char z then closed_extent (n + char_len z + 1) else single false n z
