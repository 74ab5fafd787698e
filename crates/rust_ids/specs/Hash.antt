-- The hash of a name: rustc-hash's `FxHasher` on the text, and its 64 bits folded into 16.
use Rattle.std.specs.Prelude.{ℕ, zero, suc, ◌+◌, ◌-◌, ◌*◌, ◌/◌, ◌%◌, ◌^◌, bit_xor, nat_lt, nat_le, if◌then◌else◌, List, [], ◌∷◌, ◌++◌, length, drop, slice_index, fold, Option, Some, None}
use Rattle.std.specs.Int.{w32, w64, from_le_bytes, rotate_left}
use Rattle.hir_input.specs.declared.ids.FileAstId.{FileAstId}
use Rattle.rust_ids.specs.declared.hash.Pair.{Pair}

-- the first eight bytes of a text as a word, the lowest first, and the first four
abbrev pub eight_bytes : List ℕ → ℕ
eight_bytes text = from_le_bytes w64 text

abbrev pub four_bytes : List ℕ → ℕ
four_bytes text = from_le_bytes w32 text

-- the low 64 bits of a product, xor its high 64 bits
abbrev pub mix : ℕ → ℕ → ℕ
mix a b = bit_xor (a * b % 2 ^ 64) (a * b / 2 ^ 64)

-- before the first byte
abbrev pub hash_start : Pair
hash_start = record { left = 0x243f6a8885a308d3; right = 0x13198a2e03707344 }

-- sixteen bytes are taken in
abbrev pub absorb : Pair → List ℕ → Pair
absorb p text = record {
  left = p.right;
  right = mix (bit_xor p.left (eight_bytes text)) (bit_xor 0xa4093822299f31d0 (eight_bytes (drop 8 text)));
}

-- so many times sixteen bytes from the front are taken in, one after another
abbrev pub absorb_all : ℕ → Pair → List ℕ → Pair
absorb_all zero p text = p
absorb_all (suc count) p text = absorb_all count (absorb p text) (drop 16 text)

-- the same as often as more than sixteen bytes are left
unfoldable pub absorb_text : Pair → List ℕ → Pair
absorb_text p text = absorb_all ((length text - 1) / 16) p text

-- The two words at the end of a text: its last sixteen bytes; of a shorter one its first and last eight or four, which may
-- share bytes; of up to three the first byte, and the last with the middle one.
abbrev pub end_bytes : List ℕ → Pair
end_bytes text = let bytes = length text in
    if nat_lt 16 bytes then record { left = eight_bytes (drop (bytes - 16) text); right = eight_bytes (drop (bytes - 8) text) }
    else (if nat_le 8 bytes then record { left = eight_bytes text; right = eight_bytes (drop (bytes - 8) text) }
    else (if nat_le 4 bytes then record { left = four_bytes text; right = four_bytes (drop (bytes - 4) text) }
    else (if nat_le 1 bytes then record { left = slice_index text 0; right = slice_index text (bytes - 1) * 256 + slice_index text (bytes / 2) }
    else record { left = 0; right = 0 })))

-- both pairs made one word
abbrev pub joined_pairs : Pair → Pair → ℕ
joined_pairs p end = mix (bit_xor p.left end.left) (bit_xor p.right end.right)

-- the word of a text
unfoldable pub text_word : List ℕ → ℕ
text_word text = bit_xor (joined_pairs (absorb_text hash_start text) (end_bytes text)) (length text)

-- a word is taken into the state of the hash, which is 0 at first
abbrev pub add_word : ℕ → ℕ → ℕ
add_word state word = (state + word) * 0xf1357aea2e62a9c5 % 2 ^ 64

-- the 64 bits from the state behind the last word
unfoldable pub hash_from_state : ℕ → ℕ
hash_from_state state = rotate_left w64 state 26

-- the hash of words
abbrev pub long_hash : List ℕ → ℕ
long_hash words = hash_from_state (fold add_word 0 words)

-- one of the four words of 16 bits of a hash, counted from the lowest
abbrev pub quarter : ℕ → ℕ → ℕ
quarter hash at = hash / 2 ^ (16 * at) % 2 ^ 16

-- a quarter is taken into the 16 bits
abbrev pub add_quarter : ℕ → ℕ → ℕ
add_quarter bits quarter = (bits + quarter) * 0xecc5 % 2 ^ 16

-- 64 bits made 16
unfoldable pub short_hash : ℕ → ℕ
short_hash hash = fold add_quarter (quarter hash 0) (quarter hash 1 ∷ quarter hash 2 ∷ quarter hash 3 ∷ [])

-- a module's id as one word: the hash, from bit 16 on the number, and from bit 27 on rust-analyzer's number of the kind
abbrev pub packed_module : FileAstId → ℕ
packed_module id = id.hash + id.number * 2 ^ 16 + 7 * 2 ^ 27

-- the words that stand before the name's in the hash of what is inside a module
abbrev pub module_words : Option FileAstId → List ℕ
module_words None = []
module_words (Some id) = 1 ∷ packed_module id ∷ []

-- the 16 bits for a name inside a module, or at the top
abbrev pub name_hash_in : Option FileAstId → List ℕ → ℕ
name_hash_in context name = short_hash (long_hash (module_words context ++ text_word name ∷ 255 ∷ []))

-- the 16 bits for a name
abbrev pub name_hash : List ℕ → ℕ
name_hash name = name_hash_in None name
