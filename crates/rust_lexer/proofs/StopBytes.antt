-- What is seen before a `{`, a `}` or a `;` is the same whatever stands behind it.
use Rattle.std.proofs.Common.{◌≡◌, ◌≤◌, ℕ, zero, suc, ◌==◌, ◌||◌, ◌&&◌, Bool, true, false, List, [], ◌∷◌, ◌++◌, length, drop, refl, ap, arith, nat_le, nat_lt, slice_index, if◌then◌else◌}
use Rattle.rust_lexer.proofs.Common.{nat_tests, Class, is_white, is_wide_white, is_wide_start, is_wide_continue, is_start, is_in_class, run_length, code, is_word_start, is_word, Stop, opening, closing, semicolon, stop, behind_lead, is_full}
use Rattle.rust_lexer.specs.declared.bytes.Class.TheVariants as class
use Rattle.rust_lexer.proofs.Cases.{when}

-- these bytes, such a byte and those behind it
abbrev pub upto : Stop → List ℕ → List ℕ → List ℕ
upto o x y = x ++ stop o ∷ y

pub by_stop : (P : ℕ → Type 0) → P 123 → P 125 → P 59 → (o : Stop) → P (stop o)
by_stop P at_open at_close at_semicolon opening = at_open
by_stop P at_open at_close at_semicolon closing = at_close
by_stop P at_open at_close at_semicolon semicolon = at_semicolon

pub at_same : (o : Stop) (x y y' : List ℕ) (n : ℕ) → n ≤ length x → slice_index (upto o x y') n ≡ slice_index (upto o x y) n
at_same o [] y y' zero le = refl
at_same o [] y y' (suc n) le = absurd (omega arith)
at_same o (b ∷ x) y y' zero le = refl
at_same o (b ∷ x) y y' (suc n) le = at_same o x y y' n (omega arith)

pub drop_upto : (o : Stop) (x y : List ℕ) (n : ℕ) → n ≤ length x → drop n (upto o x y) ≡ upto o (drop n x) y
drop_upto o x y zero le = refl
drop_upto o [] y (suc n) le = absurd (omega arith)
drop_upto o (b ∷ x) y (suc n) le = drop_upto o x y n (omega arith)

pub both : (s t : Bool) → (s && t) ≡ true → (s ≡ true) × (t ≡ true)
both true t e = (refl, e)
both false t e = absurd cc

pub full_behind : (b : ℕ) (x : List ℕ) → is_full (b ∷ x) ≡ true → is_full x ≡ true
full_behind b x e = (both _ _ e).1

pub full_drop : (n : ℕ) (x : List ℕ) → is_full x ≡ true → is_full (drop n x) ≡ true
full_drop zero x e = e
full_drop (suc n) [] e = e
full_drop (suc n) (b ∷ x) e = full_drop n x (full_behind b x e)

pub cond_same : {A : Type 0} {t' t : Bool} {a' a b' b : A} → t' ≡ t → (t ≡ true → a' ≡ a) → (t ≡ false → b' ≡ b) → (if t' then a' else b') ≡ (if t then a else b)
cond_same {t = true} p on off = rw p (on refl)
cond_same {t = false} p on off = rw p (off refl)

-- ---- classes

wide_off : (b c : ℕ) (y y' : List ℕ) → (c == 128) ≡ false → is_wide_white b (c ∷ y') ≡ is_wide_white b (c ∷ y)
wide_off b c y y' f = when (b == 226) (λ e. rw (e, f) refl) (λ e. rw e refl)

wide_white_same : (o : Stop) (b : ℕ) (x y y' : List ℕ) → is_wide_white b (upto o x y') ≡ is_wide_white b (upto o x y)
wide_white_same o b [] y y' = wide_off b (stop o) y y' (by_stop (λ c. (c == 128) ≡ false) refl refl refl o)
wide_white_same o b (a ∷ x) y y' = let e = at_same o x y y' 0 (omega arith) in rw e refl

pub white_same : (o : Stop) (b : ℕ) (x y y' : List ℕ) → is_white b (upto o x y') ≡ is_white b (upto o x y)
white_same o b x y y' = ap (λ t. b == 32 || (nat_le 9 b && nat_le b 13) || t) (wide_white_same o b x y y')

code_same : (o : Stop) (b : ℕ) (x y y' : List ℕ) → is_full (b ∷ x) ≡ true → nat_le 192 b ≡ true → code b (upto o x y') ≡ code b (upto o x y)
code_same o b x y y' full wide =
    let le : nat_le (behind_lead b) (length x) ≡ true = (both _ _ full).0 in
    let high : nat_lt b 192 ≡ false = grind (arith, nat_tests) in
    when (nat_lt b 224)
    (λ e. let one : 1 ≤ length x = grind (arith, nat_tests) in rw (e, at_same o x y y' 0 (omega arith)) refl)
    (λ e. when (nat_lt b 240)
    (λ f. let two : 2 ≤ length x = grind (arith, nat_tests) in rw (e, f, at_same o x y y' 0 (omega arith), at_same o x y y' 1 (omega arith)) refl)
    (λ f. let three : 3 ≤ length x = grind (arith, nat_tests) in rw (e, f, at_same o x y y' 0 (omega arith), at_same o x y y' 1 (omega arith), at_same o x y y' 2 (omega arith)) refl))

wide_start_same : (o : Stop) (b : ℕ) (x y y' : List ℕ) → is_full (b ∷ x) ≡ true → is_wide_start b (upto o x y') ≡ is_wide_start b (upto o x y)
unfolding is_wide_start
wide_start_same o b x y y' full = when (nat_le 192 b) (λ e. rw (e, code_same o b x y y' full e) refl) (λ e. rw e refl)

wide_continue_same : (o : Stop) (b : ℕ) (x y y' : List ℕ) → is_full (b ∷ x) ≡ true → is_wide_continue b (upto o x y') ≡ is_wide_continue b (upto o x y)
unfolding is_wide_continue
wide_continue_same o b x y y' full = when (nat_le 192 b) (λ e. rw (e, code_same o b x y y' full e) refl) (λ e. rw e refl)

pub start_same : (o : Stop) (b : ℕ) (x y y' : List ℕ) → is_full (b ∷ x) ≡ true → is_start b (upto o x y') ≡ is_start b (upto o x y)
start_same o b x y y' full = rw (wide_start_same o b x y y' full) refl

pub in_same : (c : Class) (o : Stop) (b : ℕ) (x y y' : List ℕ) → is_full (b ∷ x) ≡ true → is_in_class c b (upto o x y') ≡ is_in_class c b (upto o x y)
in_same class.White o b x y y' full = rw (white_same o b x y y') refl
in_same class.Word o b x y y' full = rw (wide_continue_same o b x y y' full) refl
in_same class.Line o b x y y' full = refl
in_same class.Hash o b x y y' full = refl
in_same class.Dash o b x y y' full = refl
in_same class.Low o b x y y' full = refl
in_same class.Decimal o b x y y' full = refl
in_same class.Hexadecimal o b x y y' full = refl
in_same class.Continuation o b x y y' full = refl

-- a run of such bytes ends before the stop, but for one to the end of a line
abbrev pub is_line : Class → Bool
is_line class.Line = true
is_line _ = false

ends_at : (c : Class) (o : Stop) (y : List ℕ) → is_line c ≡ false → is_in_class c (stop o) y ≡ false
unfolding is_wide_continue
ends_at class.White o y e = by_stop (λ b. is_in_class class.White b y ≡ false) refl refl refl o
ends_at class.Word o y e = by_stop (λ b. is_in_class class.Word b y ≡ false) refl refl refl o
ends_at class.Line o y e = absurd cc
ends_at class.Hash o y e = by_stop (λ b. is_in_class class.Hash b y ≡ false) refl refl refl o
ends_at class.Dash o y e = by_stop (λ b. is_in_class class.Dash b y ≡ false) refl refl refl o
ends_at class.Low o y e = by_stop (λ b. is_in_class class.Low b y ≡ false) refl refl refl o
ends_at class.Decimal o y e = by_stop (λ b. is_in_class class.Decimal b y ≡ false) refl refl refl o
ends_at class.Hexadecimal o y e = by_stop (λ b. is_in_class class.Hexadecimal b y ≡ false) refl refl refl o
ends_at class.Continuation o y e = by_stop (λ b. is_in_class class.Continuation b y ≡ false) refl refl refl o

pub run_same : (c : Class) → is_line c ≡ false → (o : Stop) (x y y' : List ℕ) → is_full x ≡ true → run_length c (upto o x y') ≡ run_length c (upto o x y)
run_same c ends o [] y y' full = rw (ends_at c o y ends, ends_at c o y' ends) refl
run_same c ends o (b ∷ x) y y' full = rw (in_same c o b x y y' full, run_same c ends o x y y' (full_behind b x full)) refl

pub run_within : (c : Class) → is_line c ≡ false → (o : Stop) (x y : List ℕ) → run_length c (upto o x y) ≤ length x
run_within c ends o [] y = rw (ends_at c o y ends) (omega arith)
run_within c ends o (b ∷ x) y =
    let more = run_within c ends o x y in
    when (is_in_class c b (upto o x y)) (λ e. rw e (omega arith)) (λ e. rw e (omega arith))

-- ---- words

pub word_start_same : (o : Stop) (x y y' : List ℕ) → is_full x ≡ true → is_word_start (upto o x y') ≡ is_word_start (upto o x y)
unfolding is_wide_start
word_start_same o [] y y' full = by_stop (λ b. is_start b y' ≡ is_start b y) refl refl refl o
word_start_same o (b ∷ x) y y' full = start_same o b x y y' full

pub is_word_same : (o : Stop) (x y y' : List ℕ) → is_full x ≡ true → is_word (upto o x y') ≡ is_word (upto o x y)
is_word_same o x y y' full = rw (word_start_same o x y y' full, at_same o x y y' 0 (omega arith)) refl
