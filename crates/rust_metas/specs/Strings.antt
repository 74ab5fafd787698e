-- What string literals stand for.
use Rattle.std.specs.Prelude.{ℕ, zero, suc, ◌==◌, ◌&&◌, ◌||◌, Bool, nat_lt, not, if◌then◌else◌, Option, Some, None, option_map, List, [], ◌∷◌, ◌++◌, length, drop, codes, encode_utf8, flat_map, option_and_then, slice_index}
use Rattle.std.specs.Str.{is_utf8}
use Rattle.rust_metas.specs.Escapes.{escape}

-- bytes as a text, if they are UTF-8
unfoldable pub as_text : List ℕ → Option (List ℕ)
as_text bytes = if is_utf8 bytes then Some bytes else None

abbrev pub and_text : Option (List ℕ) → Option (List ℕ)
and_text None = None
and_text (Some bytes) = as_text bytes

abbrev pub prepend : List ℕ → Option (List ℕ) → Option (List ℕ)
prepend front rest = option_map (λ bytes. front ++ bytes) rest

-- the end of a string, if just so many bytes stand behind its quote: a suffix makes it no string
abbrev pub ended_string : ℕ → List ℕ → Option (List ℕ)
ended_string count z = if length z == count then Some [] else None

-- a byte as a string keeps it: a carriage return before a line feed is left out
abbrev pub kept_byte : ℕ → List ℕ → List ℕ
kept_byte b z = if b == 13 && slice_index z 0 == 10 then [] else b ∷ []

-- ---- with escapes

abbrev pub character_bytes : Option ℕ → List ℕ
character_bytes None = []
character_bytes (Some c) = encode_utf8 c

-- what a byte stands for, with how many bytes behind it
unfoldable pub escaped_character : ℕ → List ℕ → Option (List ℕ × ℕ)
escaped_character b z = if b == 92 then option_map (λ e. (character_bytes e.character, e.len)) (escape z) else Some (kept_byte b z, 0)

-- the bytes so far with those that were read, and how many bytes are left of an escape
abbrev pub bytes_and_left : List ℕ → Option (List ℕ × ℕ) → Option (List ℕ × ℕ)
bytes_and_left bytes None = None
bytes_and_left bytes (Some p) = Some (bytes ++ p.0, p.1)

abbrev pub with_place : List ℕ → Option ℕ → Option (List ℕ × ℕ)
with_place bytes None = None
with_place bytes (Some n) = Some (bytes, n)

-- What a string's bytes stand for up to its quote. The number counts the bytes that are left of an escape.
abbrev pub unescaped_bytes : ℕ → List ℕ → Option (List ℕ)
unescaped_bytes left [] = None
unescaped_bytes (suc left) (b ∷ z) = unescaped_bytes left z
unescaped_bytes zero (b ∷ z) = if b == 34 then ended_string 0 z else option_and_then (λ p. prepend p.0 (unescaped_bytes p.1 z)) (escaped_character b z)

-- ---- raw

-- how many `#` come first
abbrev pub hashes : List ℕ → ℕ
hashes [] = 0
hashes (b ∷ z) = if b == 35 then suc (hashes z) else 0

abbrev pub is_end : ℕ → ℕ → List ℕ → Bool
is_end count b z = b == 34 && not (nat_lt (hashes z) count)

-- the bytes up to a quote with so many `#` behind it
abbrev pub raw_from : ℕ → List ℕ → Option (List ℕ)
raw_from count [] = None
raw_from count (b ∷ z) = if is_end count b z then ended_string count z else prepend (kept_byte b z) (raw_from count z)

-- the bytes of a raw string behind its `r`
abbrev pub raw_string_bytes : List ℕ → Option (List ℕ)
raw_string_bytes z = raw_from (hashes z) (drop 1 (drop (hashes z) z))

-- ---- written

-- a byte as it is written in a string literal
abbrev pub written_byte : ℕ → List ℕ
written_byte b =
    if b == 34 || b == 92 then 92 ∷ b ∷ []
    else (if b == 10 then codes "\\n"
    else (if b == 13 then codes "\\r"
    else (if b == 9 then codes "\\t"
    else (if b == 0 then codes "\\0" else b ∷ []))))

-- a text as a string literal
abbrev pub quoted_text : List ℕ → List ℕ
quoted_text text = codes "\"" ++ flat_map written_byte text ++ codes "\""
