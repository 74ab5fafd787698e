-- A number before a `{`, a `}` or a `;` is the same whatever stands behind that.
use Rattle.std.proofs.Common.{◌≡◌, ◌≤◌, ◌<◌, ℕ, zero, suc, ◌+◌, ◌==◌, ◌||◌, ◌&&◌, Bool, true, false, List, [], ◌∷◌, length, drop, refl, ap, ◌∙◌, sym, arith, length-drop, slice_index, if◌then◌else◌}
use Rattle.rust_lexer.proofs.Common.{is_ascii_digit, Class, Numeral, run_length, float, int, is_exponent, is_sign, past_decimal, past_exponent, is_fraction, past_fraction, past_digits, based_number, number, Stop, stop, is_full}
use Rattle.rust_lexer.specs.declared.bytes.Class.TheVariants as class
use Rattle.rust_lexer.proofs.Cases.{when}
use Rattle.rust_lexer.proofs.StopBytes.{by_stop, cond_same, upto, at_same, drop_upto, full_drop, is_line, run_same, run_within, word_start_same}

-- a test that no such byte passes
abbrev pub IsOff : (ℕ → Bool) → Type 0
IsOff test = (test 123 ≡ false) × ((test 125 ≡ false) × (test 59 ≡ false))

pub before : (test : ℕ → Bool) → IsOff test → (o : Stop) (x y : List ℕ) (n : ℕ) → n ≤ length x → test (slice_index (upto o x y) n) ≡ true → n < length x
before test off o [] y zero le h = let no = by_stop (λ c. test c ≡ false) off.0 off.1.0 off.1.1 o in absurd cc
before test off o [] y (suc n) le h = absurd (omega arith)
before test off o (b ∷ x) y zero le h = omega arith
before test off o (b ∷ x) y (suc n) le h = let more = before test off o x y n (omega arith) h in omega arith

-- what is read at a place before it: the same, and not past it
decimal_same : (o : Stop) (x y y' : List ℕ) (n : ℕ) → is_full x ≡ true → n ≤ length x → past_decimal (upto o x y') n ≡ past_decimal (upto o x y) n
decimal_same o x y y' n full le =
    rw (drop_upto o x y' n le, drop_upto o x y n le) (ap (λ k. n + k) (run_same class.Decimal refl o (drop n x) y y' (full_drop n x full)))

decimal_within : (o : Stop) (x y : List ℕ) (n : ℕ) → n ≤ length x → past_decimal (upto o x y) n ≤ length x
decimal_within o x y n le =
    let far = run_within class.Decimal refl o (drop n x) y in
    let left = length-drop n x in
    rw (drop_upto o x y n le) (omega arith)

exponent_same : (o : Stop) (x y y' : List ℕ) (n : ℕ) → is_full x ≡ true → n ≤ length x → past_exponent (upto o x y') n ≡ past_exponent (upto o x y) n
exponent_same o x y y' n full le =
    let z = upto o x y in
    when (is_exponent (slice_index z n))
    (λ e. let one = before is_exponent (refl, (refl, refl)) o x y n le e in
    when (is_sign (slice_index z (n + 1)))
    (λ s. let two = before is_sign (refl, (refl, refl)) o x y (n + 1) (omega arith) s in
    rw (at_same o x y y' n le, e, at_same o x y y' (n + 1) (omega arith), s) (decimal_same o x y y' (n + 2) full (omega arith)))
    (λ s. rw (at_same o x y y' n le, e, at_same o x y y' (n + 1) (omega arith), s) (decimal_same o x y y' (n + 1) full (omega arith))))
    (λ e. rw (at_same o x y y' n le, e) refl)

exponent_within : (o : Stop) (x y : List ℕ) (n : ℕ) → n ≤ length x → past_exponent (upto o x y) n ≤ length x
exponent_within o x y n le =
    let z = upto o x y in
    when (is_exponent (slice_index z n))
    (λ e. let one = before is_exponent (refl, (refl, refl)) o x y n le e in
    when (is_sign (slice_index z (n + 1)))
    (λ s. let two = before is_sign (refl, (refl, refl)) o x y (n + 1) (omega arith) s in rw (e, s) (decimal_within o x y (n + 2) (omega arith)))
    (λ s. rw (e, s) (decimal_within o x y (n + 1) (omega arith))))
    (λ e. rw e le)

fraction_same : (o : Stop) (x y y' : List ℕ) (n : ℕ) → is_full x ≡ true → n ≤ length x → is_fraction (upto o x y') n ≡ is_fraction (upto o x y) n
fraction_same o x y y' n full le =
    let z = upto o x y in
    when (slice_index z n == 46)
    (λ e. let one = before (λ c. c == 46) (refl, (refl, refl)) o x y n le e in
    let some : n + 1 ≤ length x = omega arith in
    rw (
      at_same o x y y' n le,
      e,
      drop_upto o x y' (n + 1) some,
      drop_upto o x y (n + 1) some,
      at_same o (drop (n + 1) x) y y' 0 (omega arith),
      word_start_same o (drop (n + 1) x) y y' (full_drop (n + 1) x full),
    ) refl)
    (λ e. rw (at_same o x y y' n le, e) refl)

past_fraction_same : (o : Stop) (x y y' : List ℕ) (n : ℕ) → is_full x ≡ true → n < length x → past_fraction (upto o x y') n ≡ past_fraction (upto o x y) n
past_fraction_same o x y y' n full some =
    let far = decimal_within o x y (n + 1) (omega arith) in
    let next : slice_index (drop (n + 1) (upto o x y')) 0 ≡ slice_index (drop (n + 1) (upto o x y)) 0 =
    rw (drop_upto o x y' (n + 1) (omega arith), drop_upto o x y (n + 1) (omega arith)) (at_same o (drop (n + 1) x) y y' 0 (omega arith)) in
    cond_same (ap is_ascii_digit next)
    (λ _. ap (past_exponent (upto o x y')) (decimal_same o x y y' (n + 1) full (omega arith)) ∙ exponent_same o x y y' (past_decimal (upto o x y) (n + 1)) full far)
    (λ _. refl)

past_fraction_within : (o : Stop) (x y : List ℕ) (n : ℕ) → n < length x → past_fraction (upto o x y) n ≤ length x
past_fraction_within o x y n some =
    when (is_ascii_digit (slice_index (drop (n + 1) (upto o x y)) 0))
    (λ e. rw e (exponent_within o x y (past_decimal (upto o x y) (n + 1)) (decimal_within o x y (n + 1) (omega arith))))
    (λ e. rw e (omega arith))

first_of : (s t : Bool) → (s && t) ≡ true → s ≡ true
first_of true t e = refl
first_of false t e = absurd cc

fraction_some : (o : Stop) (x y : List ℕ) (n : ℕ) → n ≤ length x → is_fraction (upto o x y) n ≡ true → n < length x
fraction_some o x y n le e = before (λ c. c == 46) (refl, (refl, refl)) o x y n le (first_of _ _ (first_of _ _ e))

digits_same : (o : Stop) (x y y' : List ℕ) (n : ℕ) → is_full x ≡ true → n ≤ length x → past_digits (upto o x y') n ≡ past_digits (upto o x y) n
unfolding past_digits
digits_same o x y y' n full le =
    cond_same (fraction_same o x y y' n full le)
    (λ e. ap float (past_fraction_same o x y y' n full (fraction_some o x y n le e)))
    (λ _. cond_same (ap is_exponent (at_same o x y y' n le)) (λ _. ap float (exponent_same o x y y' n full le)) (λ _. refl))

digits_within : (o : Stop) (x y : List ℕ) (n : ℕ) → n ≤ length x → (past_digits (upto o x y) n).len ≤ length x
unfolding past_digits
digits_within o x y n le =
    let z = upto o x y in
    when (is_fraction z n)
    (λ e. rw e (past_fraction_within o x y n (fraction_some o x y n le e)))
    (λ e. let far = exponent_within o x y n le in when (is_exponent (slice_index z n)) (λ f. rw (e, f) (rw f at far)) (λ f. rw (e, f) le))

based_same : (c : Class) → is_line c ≡ false → (o : Stop) (b : ℕ) (x y y' : List ℕ) → is_full (b ∷ x) ≡ true → based_number c (upto o (b ∷ x) y') ≡ based_number c (upto o (b ∷ x) y)
based_same c ends o b x y y' full =
    let more = full_drop 1 (b ∷ x) full in
    let far = run_within c ends o x y in
    rw (run_same c ends o x y y' more, run_same class.Low refl o x y y' more)
    (ap (λ (n : Numeral). if run_length class.Low (upto o x y) == run_length c (upto o x y) then int (run_length c (upto o x y) + 1) else n) (digits_same o (b ∷ x) y y' (run_length c (upto o x y) + 1) full (omega arith)))

based_within : (c : Class) → is_line c ≡ false → (o : Stop) (b : ℕ) (x y : List ℕ) → (based_number c (upto o (b ∷ x) y)).len ≤ length (b ∷ x)
based_within c ends o b x y =
    let far = run_within c ends o x y in
    when (run_length class.Low (upto o x y) == run_length c (upto o x y))
    (λ e. rw e (omega arith))
    (λ e. rw e (digits_within o (b ∷ x) y (run_length c (upto o x y) + 1) (omega arith)))

-- at its end, no letter behind a 0 tells a base
number_end : (b c : ℕ) (y : List ℕ) → (c == 120) ≡ false → (c == 98) ≡ false → (c == 111) ≡ false → number b (c ∷ y) ≡ past_digits (c ∷ y) (run_length class.Decimal (c ∷ y))
number_end b c y x d e = when (b == 48) (λ z. rw (z, x, d, e) refl) (λ z. rw z refl)

number_empty : (o : Stop) (b : ℕ) (y : List ℕ) → number b (stop o ∷ y) ≡ past_digits (stop o ∷ y) 0
number_empty o b y = by_stop (λ c. number b (c ∷ y) ≡ past_digits (c ∷ y) 0) (number_end b 123 y refl refl refl) (number_end b 125 y refl refl refl) (number_end b 59 y refl refl refl) o

pub number_same : (o : Stop) (b : ℕ) (x y y' : List ℕ) → is_full x ≡ true → number b (upto o x y') ≡ number b (upto o x y)
number_same o b [] y y' full = number_empty o b y' ∙ digits_same o [] y y' 0 full (omega arith) ∙ sym (number_empty o b y)
number_same o b (a ∷ x) y y' full =
    rw (
      based_same class.Hexadecimal refl o a x y y' full,
      based_same class.Decimal refl o a x y y' full,
      run_same class.Decimal refl o (a ∷ x) y y' full,
      digits_same o (a ∷ x) y y' _ full (run_within class.Decimal refl o (a ∷ x) y),
    ) refl

pub number_within : (o : Stop) (b : ℕ) (x y : List ℕ) → (number b (upto o x y)).len ≤ length x
number_within o b [] y = rw number_empty (digits_within o [] y 0 (omega arith))
number_within o b (a ∷ x) y =
    when (b == 48 && a == 120) (λ e. rw e (based_within class.Hexadecimal refl o a x y))
    (λ e. when (b == 48 && (a == 98 || a == 111)) (λ f. rw (e, f) (based_within class.Decimal refl o a x y))
    (λ f. rw (e, f) (digits_within o (a ∷ x) y (run_length class.Decimal (upto o (a ∷ x) y)) (run_within class.Decimal refl o (a ∷ x) y))))
