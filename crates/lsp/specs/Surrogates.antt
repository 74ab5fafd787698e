-- Escapes of lone surrogates in JSON texts: JavaScript writes them, and they stand for U+FFFD.
use Rattle.std.specs.Prelude.{ℕ, Bool, true, false, ◌&&◌, ◌||◌, ◌==◌, if◌then◌else◌, List, [], ◌∷◌, ◌++◌, codes, nat_eq, take}
use Rattle.std.specs.List.{list_any}

-- bytes begin with one of each of these in turn
abbrev pub begin_with : List (List ℕ) → List ℕ → Bool
begin_with [] bytes = true
begin_with (set ∷ sets) [] = false
begin_with (set ∷ sets) (b ∷ bytes) = list_any (λ c. nat_eq c b) set && begin_with sets bytes

abbrev pub hex_digits : List ℕ
hex_digits = codes "0123456789abcdefABCDEF"

-- behind a backslash, the escape of a surrogate that begins a pair
abbrev pub first_half : List (List ℕ)
first_half = codes "u" ∷ codes "dD" ∷ codes "89abAB" ∷ hex_digits ∷ hex_digits ∷ []

-- of one that ends a pair
abbrev pub second_half : List (List ℕ)
second_half = codes "u" ∷ codes "dD" ∷ codes "cdefCDEF" ∷ hex_digits ∷ hex_digits ∷ []

-- bytes behind a backslash escape a pair of surrogates
abbrev pub is_surrogate_pair : List ℕ → Bool
is_surrogate_pair bytes = begin_with (first_half ++ codes "\\" ∷ second_half) bytes

-- they escape a surrogate
abbrev pub is_surrogate_half : List ℕ → Bool
is_surrogate_half bytes = begin_with first_half bytes || begin_with second_half bytes

-- those of them that the escape has, and `ufffd` for those of a lone surrogate
abbrev pub unicode_escape : List ℕ → List ℕ
unicode_escape bytes = if is_surrogate_pair bytes then take 11 bytes else (if is_surrogate_half bytes then codes "ufffd" else take 1 bytes)

-- what goes with a byte that is in no escape before it
abbrev pub bytes_behind : ℕ → List ℕ → List ℕ
bytes_behind b bytes = if b == 92 then unicode_escape bytes else []

-- bytes with these in the place of the first ones, and mended behind them
abbrev pub mended_behind : (ready bytes : List ℕ) → List ℕ
mended_behind ready [] = []
mended_behind (r ∷ ready) (b ∷ bytes) = r ∷ mended_behind ready bytes
mended_behind [] (b ∷ bytes) = b ∷ mended_behind (bytes_behind b bytes) bytes

-- a JSON text in which each escape of a lone surrogate is `\ufffd`
abbrev pub surrogates_mended : List ℕ → List ℕ
surrogates_mended bytes = mended_behind [] bytes
