-- Between two stops tokens are whole, and count for nothing.
use Rattle.std.proofs.Common.{◌≡◌, ◌≤◌, ℕ, zero, suc, ◌+◌, ◌-◌, ◌==◌, ◌||◌, ◌&&◌, not, Bool, true, false, List, [], ◌∷◌, take, drop, drop-drop, take-append-drop, None, refl, sym, ap, ◌∙◌, subst, arith, slice_index, nat_lt}
use Rattle.rust_lexer.proofs.Common.{get_or-drop, is_ascii_digit, nat_tests, Class, Depth, LiteralKind, is_in_class, is_start, is_white, is_wide_continue, is_word_start, run_length, number, based_number, past_decimal, past_exponent, past_fraction, past_digits, is_exponent, is_fraction, is_sign, raw_string, first_cut, plain_word, raw_identifier, prefixed_raw, cut_word, suffix_len, to_outer, gap, is_clean, is_prefix_byte, is_quote_byte, is_stop_byte, overhang, tokens_from, whole_length}
use Rattle.rust_lexer.specs.declared.bytes.Class.TheVariants as class
use Rattle.rust_lexer.specs.Inner.{IsTokenBoundary}
use Rattle.rust_lexer.proofs.Begins.{begins_behind}
use Rattle.rust_lexer.proofs.Cases.{when}
use Rattle.rust_lexer.proofs.Depths.{is_bracket, quiet_turn}

-- ---- steps

pub gap_in : (b : ℕ) (z : List ℕ) → is_stop_byte b ≡ false → gap (b ∷ z) ≡ suc (gap z)
gap_in b z e = rw e refl

pub gap_out : (b : ℕ) (z : List ℕ) → is_stop_byte b ≡ true → gap (b ∷ z) ≡ 0
gap_out b z e = rw e refl

-- a byte is there, and no stop
abbrev is_inner : ℕ → Bool
is_inner b = not (is_stop_byte b || b == 0)

not_stop : (b : ℕ) → is_inner b ≡ true → is_stop_byte b ≡ false
not_stop b e = when (is_stop_byte b) (λ s. absurd cc) (λ s. s)

one_more : (n : ℕ) (z : List ℕ) → n ≤ gap z → is_inner (slice_index z n) ≡ true → n + 1 ≤ gap z
one_more n [] le e = absurd cc
one_more zero (b ∷ z) le e = omega (arith, gap_in b z (not_stop b e))
one_more (suc n) (b ∷ z) le e =
    when (is_stop_byte b)
    (λ s. absurd (omega (arith, le, gap_out b z s)))
    (λ s. omega (arith, one_more n z (omega (arith, le, gap_in b z s)) e, gap_in b z s))

-- ---- runs

abbrev HasNoStop : Class → Type 0
HasNoStop c = (b : ℕ) (z : List ℕ) → is_stop_byte b ≡ true → is_in_class c b z ≡ false

word_off : HasNoStop class.Word
unfolding is_wide_continue
word_off b z e = grind (arith, nat_tests)

white_off : HasNoStop class.White
white_off b z e = grind (arith, nat_tests)

decimal_off : HasNoStop class.Decimal
decimal_off b z e = grind (arith, nat_tests)

hexadecimal_off : HasNoStop class.Hexadecimal
hexadecimal_off b z e = grind (arith, nat_tests)

rest_off : HasNoStop class.Continuation
rest_off b z e = grind (arith, nat_tests)

module _ (c : Class) (off : HasNoStop c) where
  front_in : (z : List ℕ) → run_length c z ≤ gap z
  front_in [] = omega arith
  front_in (b ∷ z) =
      when (is_stop_byte b)
      (λ s. rw (off b z s) (omega arith))
      (λ s. when (is_in_class c b z) (λ i. rw (i, s) (omega (arith, front_in z))) (λ i. rw i (omega arith)))

  run_in : (n : ℕ) (z : List ℕ) → n ≤ gap z → n + run_length c (drop n z) ≤ gap z
  run_in zero z le = omega (arith, front_in z)
  run_in (suc n) [] le = absurd (omega (arith, le))
  run_in (suc n) (b ∷ z) le =
      when (is_stop_byte b)
      (λ s. absurd (omega (arith, le, gap_out b z s)))
      (λ s. omega (arith, run_in n z (omega (arith, le, gap_in b z s)), gap_in b z s))

-- ---- numbers

exponent_inner : (b : ℕ) → is_exponent b ≡ true → is_inner b ≡ true
exponent_inner b e = grind (arith, nat_tests)

sign_inner : (b : ℕ) → is_sign b ≡ true → is_inner b ≡ true
sign_inner b e = grind (arith, nat_tests)

same_inner : (n b : ℕ) → is_inner n ≡ true → (b == n) ≡ true → is_inner b ≡ true
same_inner n b i e = grind (arith, nat_tests)

decimal_in : (z : List ℕ) (n : ℕ) → n ≤ gap z → past_decimal z n ≤ gap z
decimal_in z n le = run_in class.Decimal decimal_off n z le

exponent_in : (z : List ℕ) (n : ℕ) → n ≤ gap z → past_exponent z n ≤ gap z
exponent_in z n le =
    when (is_exponent (slice_index z n))
    (λ e. let one = one_more n z le (exponent_inner (slice_index z n) e) in
    when (is_sign (slice_index z (n + 1)))
    (λ s. let two = one_more (n + 1) z one (sign_inner (slice_index z (n + 1)) s) in rw (e, s) (decimal_in z (n + 2) (omega (arith, two))))
    (λ s. rw (e, s) (decimal_in z (n + 1) one)))
    (λ e. rw e le)

fraction_in : (z : List ℕ) (n : ℕ) → n + 1 ≤ gap z → past_fraction z n ≤ gap z
fraction_in z n le =
    when (is_ascii_digit (slice_index (drop (n + 1) z) 0)) (λ e. rw e (exponent_in z (past_decimal z (n + 1)) (decimal_in z (n + 1) le))) (λ e. rw e le)

point_in : (z : List ℕ) (n : ℕ) → is_fraction z n ≡ true → past_fraction z n ≤ gap z → (past_digits z n).len ≤ gap z
unfolding past_digits
point_in z n f far = rw f far

whole_in : (z : List ℕ) (n : ℕ) → is_fraction z n ≡ false → n ≤ gap z → (past_digits z n).len ≤ gap z
unfolding past_digits
whole_in z n f le =
    let far = exponent_in z n le in when (is_exponent (slice_index z n)) (λ e. rw (f, e) (rw e at far)) (λ e. rw (f, e) le)

digits_in : (z : List ℕ) (n : ℕ) → n ≤ gap z → (past_digits z n).len ≤ gap z
digits_in z n le =
    when (slice_index z n == 46)
    (λ p. when (is_fraction z n) (λ f. point_in z n f (fraction_in z n (one_more n z le (same_inner 46 _ refl p)))) (λ f. whole_in z n f le))
    (λ p. whole_in z n (rw p refl) le)

based_in : (c : Class) → HasNoStop c → (z : List ℕ) → 0 + 1 ≤ gap z → (based_number c z).len ≤ gap z
based_in c off z le =
    let far = run_in c off 1 z le in
    when (run_length class.Low (drop 1 z) == run_length c (drop 1 z)) (λ e. rw e (omega (arith, far))) (λ e. rw e (digits_in z (run_length c (drop 1 z) + 1) (omega (arith, far))))

number_in : (b : ℕ) (z : List ℕ) → (number b z).len ≤ gap z
number_in b z =
    let digits = digits_in z (run_length class.Decimal z) (front_in class.Decimal decimal_off z) in
    when (b == 48)
    (λ e. when (slice_index z 0 == 120)
    (λ f. rw (e, f) (based_in class.Hexadecimal hexadecimal_off z (one_more 0 z (omega arith) (same_inner 120 _ refl f))))
    (λ f. when (slice_index z 0 == 98)
    (λ g. rw (e, f, g) (based_in class.Decimal decimal_off z (one_more 0 z (omega arith) (same_inner 98 _ refl g))))
    (λ g. when (slice_index z 0 == 111)
    (λ h. rw (e, f, g, h) (based_in class.Decimal decimal_off z (one_more 0 z (omega arith) (same_inner 111 _ refl h))))
    (λ h. rw (e, f, g, h) digits))))
    (λ e. rw e digits)

suffix_in : (n : ℕ) (z : List ℕ) → n ≤ gap z → n + suffix_len (drop n z) ≤ gap z
suffix_in n z le = when (is_word_start (drop n z)) (λ e. rw e (run_in class.Word word_off n z le)) (λ e. rw e (omega (arith, le)))

-- ---- the end of a gap

-- where a prefix may stand in front or not
abbrev is_prefixed : Bool → List ℕ → ℕ → Bool
is_prefixed front z zero = front
is_prefixed front z (suc n) = is_prefix_byte (slice_index z n)

abbrev clean_by : Bool → ℕ → Bool
clean_by prefixed b = not (prefixed && is_quote_byte b)

-- no quote behind a prefix ends the gap
abbrev clean : Bool → List ℕ → Bool
clean s z = clean_by (is_prefixed s z (gap z)) (slice_index z (gap z))

before_next : (s : Bool) (b : ℕ) (z : List ℕ) (n : ℕ) → is_prefixed s (b ∷ z) (suc n) ≡ is_prefixed (is_prefix_byte b) z n
before_next s b z zero = refl
before_next s b z (suc n) = refl

clean_next : (s : Bool) (b : ℕ) (z : List ℕ) → is_stop_byte b ≡ false → clean s (b ∷ z) ≡ clean (is_prefix_byte b) z
clean_next s b z e =
    ap (λ n. clean_by (is_prefixed s (b ∷ z) n) (slice_index (b ∷ z) n)) (gap_in b z e)
    ∙ ap (λ k. clean_by k (slice_index z (gap z))) (before_next s b z (gap z))

clean_here : (s : Bool) (b : ℕ) (z : List ℕ) → is_stop_byte b ≡ true → clean s (b ∷ z) ≡ clean_by s b
clean_here s b z e = ap (λ n. clean_by (is_prefixed s (b ∷ z) n) (slice_index (b ∷ z) n)) (gap_out b z e)

quote_stops : (b : ℕ) → is_quote_byte b ≡ true → is_stop_byte b ≡ true
quote_stops b e = grind (arith, nat_tests)

-- ---- words

no_quote : (z : List ℕ) → clean true z ≡ true → is_quote_byte (slice_index z 0) ≡ false
no_quote [] h = refl
no_quote (b ∷ z) h =
    when (is_quote_byte b)
    (λ e. let no : clean_by true b ≡ true = sym (clean_here true b z (quote_stops b e)) ∙ h in grind (arith, nat_tests))
    (λ e. e)

hash_goes : (b : ℕ) → (b == 35) ≡ true → (is_stop_byte b ≡ false) × (is_prefix_byte b ≡ true)
hash_goes b e = (grind (arith, nat_tests), grind (arith, nat_tests))

no_quoted : (z : List ℕ) → clean true z ≡ true → (slice_index z (run_length class.Hash z) == 34) ≡ false
no_quoted [] h = refl
no_quoted (b ∷ z) h =
    when (b == 35)
    (λ e. let goes = hash_goes b e in rw e (no_quoted z (ap (λ k. clean k z) (sym goes.1) ∙ sym (clean_next true b z goes.0) ∙ h)))
    (λ e. let other = no_quote (b ∷ z) h in rw e (grind (arith, nat_tests)))

no_raw : (n : ℕ) (z : List ℕ) → clean true z ≡ true → raw_string n z ≡ None
no_raw n z h = rw (no_quoted z h) refl

plain_in : (z : List ℕ) → (plain_word z).len ≤ gap z
plain_in z = front_in class.Word word_off z

raw_in : (z : List ℕ) → (raw_identifier z).len ≤ gap z
raw_in z =
    when (slice_index z 0 == 35)
    (λ e. let far = run_in class.Word word_off 1 z (one_more 0 z (omega arith) (same_inner 35 _ refl e)) in
    when (is_word_start (drop 1 z)) (λ f. rw (e, f) (omega (arith, far))) (λ f. rw (e, f) (plain_in z)))
    (λ e. rw e (plain_in z))

r_goes : (b : ℕ) → (b == 114) ≡ true → (is_stop_byte b ≡ false) × (is_prefix_byte b ≡ true)
r_goes b e = (grind (arith, nat_tests), grind (arith, nat_tests))

prefixed_in : (k : LiteralKind) (z : List ℕ) → clean true z ≡ true → (prefixed_raw k z).len ≤ gap z
prefixed_in k [] h = plain_in []
prefixed_in k (b ∷ z) h =
    when (b == 114)
    (λ e. let goes = r_goes b e in
    rw (e, no_raw 1 z (ap (λ p. clean p z) (sym goes.1) ∙ sym (clean_next true b z goes.0) ∙ h)) (plain_in (b ∷ z)))
    (λ e. rw e (plain_in (b ∷ z)))

word_in : (b : ℕ) (z : List ℕ) → clean (is_prefix_byte b) z ≡ true → (cut_word b z).len ≤ gap z
word_in b z h =
    when (b == 114)
    (λ r. rw (r, no_raw 0 z (behind (grind (arith, nat_tests)))) (raw_in z))
    (λ r. when (b == 98)
    (λ t. let c = behind (grind (arith, nat_tests)) in rw (r, t, (quotes c).0, (quotes c).1) (prefixed_in _ z c))
    (λ t. when (b == 99)
    (λ u. let c = behind (grind (arith, nat_tests)) in rw (r, t, u, (quotes c).0) (prefixed_in _ z c))
    (λ u. rw (r, t, u) (plain_in z))))
  where
    behind : is_prefix_byte b ≡ true → clean true z ≡ true
    behind e = ap (λ k. clean k z) (sym e) ∙ h

    quotes : clean true z ≡ true → ((slice_index z 0 == 34) ≡ false) × ((slice_index z 0 == 39) ≡ false)
    quotes c = let no = no_quote z c in (grind (arith, nat_tests), grind (arith, nat_tests))

-- a token ends no later than the gap that it begins in
cut_in : (b : ℕ) (z : List ℕ) → is_stop_byte b ≡ false → clean (is_prefix_byte b) z ≡ true → (first_cut b z).len ≤ gap z
unfolding first_cut
cut_in b z e h =
    let slash : (b == 47) ≡ false = grind (arith, nat_tests) in
    let quote : (b == 34) ≡ false = grind (arith, nat_tests) in
    let apostrophe : (b == 39) ≡ false = grind (arith, nat_tests) in
    when (is_white b z) (λ w. rw w (front_in class.White white_off z))
    (λ w. when (is_ascii_digit b) (λ d. rw (w, d) (suffix_in (number b z).len z (number_in b z)))
    (λ d. when (is_start b z) (λ s. rw (w, d, s) (word_in b z h)) (λ s. rw (w, d, s, slash, quote, apostrophe) (omega arith))))

token_in : (b : ℕ) (z : List ℕ) → is_stop_byte b ≡ false → clean (is_prefix_byte b) z ≡ true → whole_length (first_cut b z) z ≤ gap z
token_in b z e h = run_in class.Continuation rest_off (first_cut b z).len z (cut_in b z e h)

-- ---- what is passed

no_bracket : (b : ℕ) → is_stop_byte b ≡ false → is_bracket b ≡ false
no_bracket b e = grind (arith, nat_tests)

module _ (d : Depth) where
  on : (at b : ℕ) (z : List ℕ) → is_stop_byte b ≡ false
      → to_outer d (tokens_from 0 (suc at + gap z) (drop (gap z) z)) ≡ to_outer d (tokens_from 0 (at + gap (b ∷ z)) (drop (gap (b ∷ z)) (b ∷ z)))
  on at b z e =
      let place : suc at + gap z ≡ at + suc (gap z) = omega arith in
      ap (λ k. to_outer d (tokens_from 0 k (drop (gap z) z))) place
      ∙ ap (λ n. to_outer d (tokens_from 0 (at + n) (drop n (b ∷ z)))) (sym (gap_in b z e))

  gap_passed : (left at : ℕ) (z : List ℕ) (s : Bool) → left ≤ gap z → clean s z ≡ true → to_outer d (tokens_from left at z) ≡ to_outer d (tokens_from 0 (at + gap z) (drop (gap z) z))
  gap_passed zero at [] s le h = let place : at ≡ at + 0 = omega arith in ap (λ k. to_outer d (tokens_from 0 k [])) place
  gap_passed (suc left) at [] s le h = absurd (omega (arith, le))
  gap_passed zero at (b ∷ z) s le h =
      when (is_stop_byte b)
      (λ e. let place : at ≡ at + 0 = omega arith in
      ap (λ k. to_outer d (tokens_from 0 k (b ∷ z))) place ∙ ap (λ n. to_outer d (tokens_from 0 (at + n) (drop n (b ∷ z)))) (sym (gap_out b z e)))
      (λ e. let more = sym (clean_next s b z e) ∙ h in
      quiet_turn d at b z (no_bracket b e) ∙ gap_passed (whole_length (first_cut b z) z) (suc at) z (is_prefix_byte b) (token_in b z e more) more ∙ on at b z e)
  gap_passed (suc left) at (b ∷ z) s le h =
      when (is_stop_byte b)
      (λ e. absurd (omega (arith, le, gap_out b z e)))
      (λ e. gap_passed left (suc at) z (is_prefix_byte b) (omega (arith, le, gap_in b z e)) (sym (clean_next s b z e) ∙ h) ∙ on at b z e)

gap_over : (left : ℕ) (z : List ℕ) (s : Bool) → left ≤ gap z → clean s z ≡ true → overhang left (take (gap z) z) (drop (gap z) z) ≡ 0
gap_over zero [] s le h = refl
gap_over (suc left) [] s le h = absurd (omega (arith, le))
gap_over zero (b ∷ z) s le h =
    when (is_stop_byte b)
    (λ e. ap (λ n. overhang 0 (take n (b ∷ z)) (drop n (b ∷ z))) (gap_out b z e))
    (λ e. let more = sym (clean_next s b z e) ∙ h in
    ap (λ n. overhang 0 (take n (b ∷ z)) (drop n (b ∷ z))) (gap_in b z e)
    ∙ ap (λ l. overhang (whole_length (first_cut b l) l) (take (gap z) z) (drop (gap z) z)) (take-append-drop (gap z) z)
    ∙ gap_over (whole_length (first_cut b z) z) z (is_prefix_byte b) (token_in b z e more) more)
gap_over (suc left) (b ∷ z) s le h =
    when (is_stop_byte b)
    (λ e. absurd (omega (arith, le, gap_out b z e)))
    (λ e. ap (λ n. overhang (suc left) (take n (b ∷ z)) (drop n (b ∷ z))) (gap_in b z e)
    ∙ gap_over left z (is_prefix_byte b) (omega (arith, le, gap_in b z e)) (sym (clean_next s b z e) ∙ h))

-- a text that is cut before a stop is cut before the end of its gap
clean_behind : (k n : ℕ) (w : List ℕ) → is_clean w k (k + n) ≡ true → clean_by (is_prefixed false (drop k w) n) (slice_index w (k + n)) ≡ true
clean_behind k zero w h = refl
clean_behind k (suc n) w h =
    let before : k + suc n - 1 ≡ k + n = omega arith in
    let later : nat_lt k (k + suc n) ≡ true = grind (arith, nat_tests) in
    ap (λ b. clean_by (is_prefix_byte b) (slice_index w (k + suc n))) (get_or-drop k w n 0 ∙ ap (slice_index w) (sym before))
    ∙ ap (λ t. not (t && (is_prefix_byte (slice_index w (k + suc n - 1)) && is_quote_byte (slice_index w (k + suc n))))) (sym later)
    ∙ h

-- behind a place in a text
module _ (k stop : ℕ) (w : List ℕ) (is : stop ≡ k + gap (drop k w)) (h : is_clean w k stop ≡ true) where
  ends_here : clean false (drop k w) ≡ true
  ends_here =
      let z = drop k w in
      let n = gap z in
      ap (clean_by (is_prefixed false z n)) (get_or-drop k w n 0) ∙ clean_behind k n w (ap (is_clean w k) (sym is) ∙ h)

  pub gap_behind : (d : Depth) (at : ℕ) → to_outer d (tokens_from 0 (at + stop) (drop stop w)) ≡ to_outer d (tokens_from 0 (at + k) (drop k w))
  gap_behind d at =
      let z = drop k w in
      let n = gap z in
      let place : at + (k + n) ≡ at + k + n = omega arith in
      ap (λ m. to_outer d (tokens_from 0 (at + m) (drop m w))) is
      ∙ ap (λ l. to_outer d (tokens_from 0 (at + (k + n)) l)) (sym (drop-drop n k w))
      ∙ ap (λ m. to_outer d (tokens_from 0 m (drop n z))) place
      ∙ sym (gap_passed d 0 (at + k) z false (omega arith) ends_here)

  pub gap_begins : IsTokenBoundary w k → IsTokenBoundary w stop
  gap_begins here = subst (IsTokenBoundary w) (sym is) (begins_behind w k (gap (drop k w)) here (gap_over 0 (drop k w) false (omega arith) ends_here))
