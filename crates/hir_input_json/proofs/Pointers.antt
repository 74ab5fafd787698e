-- What stays as it is in a pointer.
use Rattle.std.proofs.Common.{◌≡◌, ◌≢◌, ◌==◌, ℕ, suc, ◌+◌, ◌%◌, ◌^◌, ◌<◌, false, List, [], ◌∷◌, ◌++◌, codes, length, get_or, decimal, encode_utf8, encode_utf8_all, chars, IsUtf8, flat_map, refl, sym, ap, ◌∙◌, arith}
use Rattle.std.proofs.lemmas.Bool.Decides.{nat_tests}
use Rattle.std.proofs.lemmas.Fmt.{decimal_by_steps}
use Rattle.hir_input_json.proofs.Common.{append-nil, pointer_byte, pointer_step}
use Rattle.std.proofs.lemmas.List.Concat.{flat_map-append}
use Rattle.std.proofs.lemmas.Str.{encode_ascii, encodes-chars, inside_one}

byte_stays : (b : ℕ) → b ≢ 126 → b ≢ 47 → pointer_byte b ≡ b ∷ []
byte_stays b tilde slash =
    let no_tilde : (b == 126) ≡ false = grind (arith, nat_tests) in
    let no_slash : (b == 47) ≡ false = grind (arith, nat_tests) in
    rw (no_tilde, no_slash) refl

-- bytes of which none is escaped
bytes_stay : (bs : List ℕ) → ((k : ℕ) → k < length bs → (get_or bs k 0 ≢ 126) × (get_or bs k 0 ≢ 47)) → pointer_step bs ≡ bs
bytes_stay [] h = refl
bytes_stay (b ∷ bs) h =
    let first = h 0 (omega arith) in
    rw (byte_stays b first.0 first.1, bytes_stay bs (λ k l. h (suc k) (omega (arith, l)))) refl

-- a byte of ASCII in a character is the character
one_byte : (c k : ℕ) → k < length (encode_utf8 c) → get_or (encode_utf8 c) k 0 < 128 → c ≡ get_or (encode_utf8 c) k 0
one_byte c k l small = inside_one c [] (encode_utf8 c) k (sym (append-nil (encode_utf8 c))) l small

-- the two that are escaped
pub tilde_step : pointer_step (encode_utf8 126) ≡ codes "~0"
tilde_step = ap pointer_step (encode_ascii 126 (omega arith))

pub slash_step : pointer_step (encode_utf8 47) ≡ codes "~1"
slash_step = ap pointer_step (encode_ascii 47 (omega arith))

-- any other character
pub char_stays : (c : ℕ) → c ≢ 126 → c ≢ 47 → pointer_step (encode_utf8 c) ≡ encode_utf8 c
char_stays c tilde slash = bytes_stay (encode_utf8 c) (λ k l. (λ e. tilde (one_byte c k l (omega (arith, e)) ∙ e), λ e. slash (one_byte c k l (omega (arith, e)) ∙ e)))

-- the characters of a key, one by one
by_chars : (cs : List ℕ) → flat_map (λ c. pointer_step (encode_utf8 c)) cs ≡ pointer_step (encode_utf8_all cs)
by_chars [] = refl
by_chars (c ∷ cs) = ap (λ xs. pointer_step (encode_utf8 c) ++ xs) (by_chars cs) ∙ sym (flat_map-append pointer_byte (encode_utf8 c) (encode_utf8_all cs))

pub key_by_chars : (key : List ℕ) → IsUtf8 key → flat_map (λ c. pointer_step (encode_utf8 c)) (chars key) ≡ pointer_step key
key_by_chars key is = by_chars (chars key) ∙ ap pointer_step (encodes-chars key is)

digit_stays : (n : ℕ) → n < 10 → pointer_step ((48 + n) ∷ []) ≡ (48 + n) ∷ []
digit_stays n small = rw (byte_stays (48 + n) (λ e. omega (arith, e, small)) (λ e. omega (arith, e))) refl

-- the number of an item
pub digits_stay : (n : ℕ) → n < 2 ^ 64 → pointer_step (decimal n) ≡ decimal n
digits_stay = decimal_by_steps (λ n ds. pointer_step ds ≡ ds) digit_stays (λ n ds many h. flat_map-append pointer_byte ds ((48 + n % 10) ∷ []) ∙ ap (λ xs. xs ++ pointer_step ((48 + n % 10) ∷ [])) h ∙ ap (λ xs. ds ++ xs) (digit_stays (n % 10) (omega arith)))

pub ruleset char_steps = (char_stays, slash_step, tilde_step)
