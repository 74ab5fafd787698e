-- Names as Rust has them, character by character.
use Rattle.std.proofs.Common.{◌≡◌, ◌≢◌, ◌==◌, ℕ, suc, ◌<◌, false, List, [], ◌∷◌, ◌++◌, length, get_or, encode_utf8, encode_utf8_all, chars, IsUtf8, flat_map, refl, sym, ap, ◌∙◌, arith}
use Rattle.std.proofs.lemmas.Bool.Decides.{nat_tests}
use Rattle.std.proofs.lemmas.List.{append-nil, map-append}
use Rattle.std.proofs.lemmas.Str.{encode_ascii, encodes-chars, inside_one}
use Rattle.cargo_manifest.specs.Dependencies.{rust_name}

byte_stays : (b : ℕ) → b ≢ 45 → rust_name (b ∷ []) ≡ b ∷ []
byte_stays b other =
    let no : (b == 45) ≡ false = grind (arith, nat_tests) in
    rw no refl

-- bytes of which none is changed
bytes_stay : (bs : List ℕ) → ((k : ℕ) → k < length bs → get_or bs k 0 ≢ 45) → rust_name bs ≡ bs
bytes_stay [] h = refl
bytes_stay (b ∷ bs) h =
    let no : (b == 45) ≡ false = (let first = h 0 (omega arith) in grind (arith, nat_tests)) in
    rw (no, bytes_stay bs (λ k l. h (suc k) (omega (arith, l)))) refl

-- a byte of ASCII in a character is the character
one_byte : (c k : ℕ) → k < length (encode_utf8 c) → get_or (encode_utf8 c) k 0 < 128 → c ≡ get_or (encode_utf8 c) k 0
one_byte c k l small = inside_one c [] (encode_utf8 c) k (sym (append-nil (encode_utf8 c))) l small

pub char_stays : (c : ℕ) → c ≢ 45 → rust_name (encode_utf8 c) ≡ encode_utf8 c
char_stays c other = bytes_stay (encode_utf8 c) (λ k l e. other (one_byte c k l (omega (arith, e)) ∙ e))

pub dash_changes : rust_name (encode_utf8 45) ≡ 95 ∷ []
dash_changes = ap rust_name (encode_ascii 45 (omega arith))

-- the characters of a name, one by one
by_chars : (cs : List ℕ) → flat_map (λ c. rust_name (encode_utf8 c)) cs ≡ rust_name (encode_utf8_all cs)
by_chars [] = refl
by_chars (c ∷ cs) = ap (λ xs. rust_name (encode_utf8 c) ++ xs) (by_chars cs) ∙ sym (map-append _ (encode_utf8 c) (encode_utf8_all cs))

pub name_by_chars : (name : List ℕ) → IsUtf8 name → flat_map (λ c. rust_name (encode_utf8 c)) (chars name) ≡ rust_name name
name_by_chars name is = by_chars (chars name) ∙ ap rust_name (encodes-chars name is)

pub ruleset char_names = (char_stays, dash_changes)
