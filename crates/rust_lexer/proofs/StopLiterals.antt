-- A literal that ends before a `{`, a `}` or a `;` is the same whatever stands behind that.
use Rattle.std.proofs.Common.{◌≡◌, ◌≤◌, ◌<◌, ℕ, suc, ◌+◌, ◌==◌, ◌&&◌, Bool, true, false, Some, None, Option, List, [], ◌∷◌, length, take, drop, refl, ap, ◌∙◌, sym, subst, arith, length-drop, slice_index, not, nat_le}
use Rattle.rust_lexer.specs.declared.bytes.Class.TheVariants as class
use Rattle.rust_lexer.proofs.Common.{Cut, LiteralKind, Extent, run_length, cut, quoted_literal, raw_or, suffix_len, with_suffix, closed_extent, string, raw, raw_string, ends_single, single, is_one_char, character, Stop, stop, is_full}
use Rattle.rust_lexer.specs.declared.kind.TokenKind.TheVariants as kind
use Rattle.rust_lexer.proofs.Cases.{when}
use Rattle.rust_lexer.proofs.StopBytes.{by_stop, cond_same, upto, at_same, drop_upto, full_behind, full_drop, run_same, run_within, word_start_same}
use Rattle.rust_lexer.proofs.StopNumbers.{before}

-- ---- strings

string_far : (s : Bool) (n : ℕ) (z : List ℕ) → n + length (take 1 z) ≤ (string s n z).len
string_far s n [] = omega arith
string_far true n (b ∷ z) = let more = string_far false (suc n) z in omega arith
string_far false n (b ∷ z) = let more = string_far (b == 92) (suc n) z in when (b == 34) (λ e. rw e (omega arith)) (λ e. rw e (omega arith))

pub string_same : (o : Stop) (s : Bool) (n : ℕ) (x y y' : List ℕ) → (string s n (upto o x y)).len ≤ n + length x → string s n (upto o x y') ≡ string s n (upto o x y)
string_same o s n [] y y' h = let far = string_far s n (stop o ∷ y) in absurd (omega arith)
string_same o true n (b ∷ x) y y' h = string_same o false (suc n) x y y' (omega arith)
string_same o false n (b ∷ x) y y' h =
    when (b == 34) (λ e. rw e refl) (λ e. let more = rw e at h in rw e (string_same o (b == 92) (suc n) x y y' (omega arith)))

-- ---- raw strings

raw_far : (hashes n : ℕ) (z : List ℕ) → n + length (take 1 z) ≤ (raw hashes n z).len
raw_far hashes n [] = omega arith
raw_far hashes n (b ∷ z) =
    let more = raw_far hashes (suc n) z in
    when (b == 34 && nat_le hashes (run_length class.Hash z)) (λ e. rw e (omega arith)) (λ e. rw e (omega arith))

raw_same : (o : Stop) (hashes n : ℕ) (x y y' : List ℕ) → is_full x ≡ true → (raw hashes n (upto o x y)).len ≤ n + length x → raw hashes n (upto o x y') ≡ raw hashes n (upto o x y)
raw_same o hashes n [] y y' full h = let far = raw_far hashes n (stop o ∷ y) in absurd (omega arith)
raw_same o hashes n (b ∷ x) y y' full h =
    let more = full_behind b x full in
    cond_same (ap (λ k. b == 34 && nat_le hashes k) (run_same class.Hash refl o x y y' more))
    (λ e. refl) (λ e. let less = rw e at h in raw_same o hashes (suc n) x y y' more (omega arith))

-- ---- suffixes

suffix_len_same : (o : Stop) (x y y' : List ℕ) → is_full x ≡ true → suffix_len (upto o x y') ≡ suffix_len (upto o x y)
suffix_len_same o x y y' full = cond_same (word_start_same o x y y' full) (λ _. run_same class.Word refl o x y y' full) (λ _. refl)

pub suffixed_same : (k : LiteralKind) (n : ℕ) (o : Stop) (x y y' : List ℕ) → is_full x ≡ true → n ≤ length x → with_suffix k n (upto o x y') ≡ with_suffix k n (upto o x y)
suffixed_same k n o x y y' full le =
    ap (λ l. cut (kind.Literal k) (n + suffix_len l)) (drop_upto o x y' n le)
    ∙ ap (λ m. cut (kind.Literal k) (n + m)) (suffix_len_same o (drop n x) y y' (full_drop n x full))
    ∙ ap (λ l. cut (kind.Literal k) (n + suffix_len l)) (sym (drop_upto o x y n le))

pub quoted_far : (k : LiteralKind) (e : Extent) (z : List ℕ) → e.len ≤ (quoted_literal k e z).len
quoted_far k e z = when e.is_closed (λ c. rw c (omega arith)) (λ c. rw c (omega arith))

pub quoted_same : (k : LiteralKind) (e e' : Extent) (o : Stop) (x y y' : List ℕ) → is_full x ≡ true → e' ≡ e → e.len ≤ length x → quoted_literal k e' (upto o x y') ≡ quoted_literal k e (upto o x y)
quoted_same k e e' o x y y' full same le =
    ap (λ (t : Extent). quoted_literal k t (upto o x y')) same ∙ when e.is_closed (λ c. rw c (suffixed_same k e.len o x y y' full le)) (λ c. rw c refl)

-- ---- raw literals, or words

raw_at : ℕ → List ℕ → Extent
raw_at m z = let h = run_length class.Hash z in raw h (m + h + 1) (drop (h + 1) z)

raw_found : (m : ℕ) (z : List ℕ) → (slice_index z (run_length class.Hash z) == 34) ≡ true → raw_string m z ≡ Some (raw_at m z)
unfolding raw_at
raw_found m z e = rw e refl

raw_none : (m : ℕ) (z : List ℕ) → (slice_index z (run_length class.Hash z) == 34) ≡ false → raw_string m z ≡ None
raw_none m z e = rw e refl

raw_at_same : (m : ℕ) (o : Stop) (x y y' : List ℕ) → is_full x ≡ true → run_length class.Hash (upto o x y) < length x → (raw_at m (upto o x y)).len ≤ m + length x → raw_at m (upto o x y') ≡ raw_at m (upto o x y)
unfolding raw_at
raw_at_same m o x y y' full some h =
    let n = run_length class.Hash (upto o x y) in
    let le : n + 1 ≤ length x = omega arith in
    let left = length-drop (n + 1) x in
    let less : (raw n (m + n + 1) (upto o (drop (n + 1) x) y)).len ≤ m + n + 1 + length (drop (n + 1) x) =
    subst (λ (l : List ℕ). (raw n (m + n + 1) l).len ≤ m + n + 1 + length (drop (n + 1) x)) (drop_upto o x y (n + 1) le) (omega arith) in
    ap (λ k. raw k (m + k + 1) (drop (k + 1) (upto o x y'))) (run_same class.Hash refl o x y y' full)
    ∙ ap (raw n (m + n + 1)) (drop_upto o x y' (n + 1) le)
    ∙ raw_same o n (m + n + 1) (drop (n + 1) x) y y' (full_drop (n + 1) x full) less
    ∙ ap (raw n (m + n + 1)) (sym (drop_upto o x y (n + 1) le))

-- the raw literal begins in what stands behind some bytes
pub raw_or_same : (k : LiteralKind) (other other' : Cut) (m : ℕ) (o : Stop) (x w y y' : List ℕ) → is_full x ≡ true → is_full w ≡ true → m + length w ≤ length x → other' ≡ other
    → (raw_or k other (upto o x y) (raw_string m (upto o w y))).len ≤ length x
    → (len : m + length w ≡ length x)
    → raw_or k other' (upto o x y') (raw_string m (upto o w y')) ≡ raw_or k other (upto o x y) (raw_string m (upto o w y))
raw_or_same k other other' m o x w y y' full fullw le same h len =
    let z = upto o w y in
    let z' = upto o w y' in
    let n = run_length class.Hash z in
    let run_is : run_length class.Hash z' ≡ n = run_same class.Hash refl o w y y' fullw in
    let far = run_within class.Hash refl o w y in
    let next : slice_index z' (run_length class.Hash z') ≡ slice_index z n = ap (slice_index z') run_is ∙ at_same o w y y' n far in
    when (slice_index z n == 34)
    (λ e. let found = raw_found m z e in
    let found' : raw_string m z' ≡ Some (raw_at m z') = raw_found m z' (ap (λ c. c == 34) next ∙ e) in
    let some = before (λ c. c == 34) (refl, (refl, refl)) o w y n far e in
    let less : (quoted_literal k (raw_at m z) (upto o x y)).len ≤ length x = subst (λ (p : Option Extent). (raw_or k other (upto o x y) p).len ≤ length x) found h in
    let low = quoted_far k (raw_at m z) (upto o x y) in
    ap (raw_or k other' (upto o x y')) found'
    ∙ quoted_same k (raw_at m z) (raw_at m z') o x y y' full (raw_at_same m o w y y' fullw some (omega arith)) (omega arith)
    ∙ ap (raw_or k other (upto o x y)) (sym found))
    (λ e. ap (raw_or k other' (upto o x y')) (raw_none m z' (ap (λ c. c == 34) next ∙ e)) ∙ same ∙ ap (raw_or k other (upto o x y)) (sym (raw_none m z e)))

-- ---- characters

single_far : (s : Bool) (n : ℕ) (z : List ℕ) → n ≤ (single s n z).len
single_far s n [] = omega arith
single_far true n (b ∷ z) = let more = single_far false (suc n) z in omega arith
single_far false n (b ∷ z) =
    let more = single_far (b == 92) (suc n) z in
    when (b == 39) (λ e. rw e (omega arith)) (λ e. when (ends_single b (slice_index z 0)) (λ f. rw (e, f) (omega arith)) (λ f. rw (e, f) (omega arith)))

single_open : (o : Stop) (n : ℕ) (y : List ℕ) → n < (single false n (stop o ∷ y)).len
single_open o n y = let far = single_far false (suc n) y in by_stop (λ c. n < (single false n (c ∷ y)).len) (omega arith) (omega arith) (omega arith) o

single_same : (o : Stop) (s : Bool) (n : ℕ) (x y y' : List ℕ) → (single s n (upto o x y)).len ≤ n + length x → single s n (upto o x y') ≡ single s n (upto o x y)
single_same o true n [] y y' h = let far = single_far false (suc n) y in absurd (omega arith)
single_same o false n [] y y' h = let far = single_open o n y in absurd (omega arith)
single_same o true n (b ∷ x) y y' h = single_same o false (suc n) x y y' (omega arith)
single_same o false n (b ∷ x) y y' h =
    when (b == 39) (λ e. rw e refl)
    (λ e. let less = rw e at h in
    rw e (cond_same (ap (ends_single b) (at_same o x y y' 0 (omega arith))) (λ f. refl)
    (λ f. let more = rw f at less in single_same o (b == 92) (suc n) x y y' (omega arith))))

pub one_char_same : (o : Stop) (a : ℕ) (x y y' : List ℕ) → is_full x ≡ true → is_one_char (upto o (a ∷ x) y') ≡ is_one_char (upto o (a ∷ x) y)
one_char_same o a x y y' full =
    let n = run_length class.Continuation (upto o x y) in
    let far = run_within class.Continuation refl o x y in
    let next : slice_index (upto o (a ∷ x) y') (suc (run_length class.Continuation (upto o x y'))) ≡ slice_index (upto o (a ∷ x) y) (suc n) =
    ap (λ k. slice_index (upto o (a ∷ x) y') (suc k)) (run_same class.Continuation refl o x y y' full) ∙ at_same o (a ∷ x) y y' (suc n) (omega arith) in
    ap (λ c. not (a == 92) && c == 39) next

character_some : (o : Stop) (m : ℕ) (y : List ℕ) → m < (character m (upto o [] y)).len
character_some o m y = when (is_one_char (stop o ∷ y)) (λ e. rw e (omega arith)) (λ e. rw e (single_open o m y))

pub character_same : (o : Stop) (m : ℕ) (x y y' : List ℕ) → is_full x ≡ true → (character m (upto o x y)).len ≤ m + length x → character m (upto o x y') ≡ character m (upto o x y)
character_same o m [] y y' full h = let some = character_some o m y in absurd (omega arith)
character_same o m (a ∷ x) y y' full h =
    let more = full_behind a x full in
    cond_same (one_char_same o a x y y' more)
    (λ e. ap (λ k. closed_extent (m + suc k + 1)) (run_same class.Continuation refl o x y y' more))
    (λ e. let less = rw e at h in single_same o false m (a ∷ x) y y' less)
