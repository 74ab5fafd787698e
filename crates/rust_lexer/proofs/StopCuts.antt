-- A token that ends before a `{`, a `}` or a `;` is cut off the same whatever stands behind that.
use Rattle.std.proofs.Common.{◌≡◌, ◌≤◌, ◌<◌, ℕ, suc, ◌+◌, ◌-◌, ◌==◌, ◌&&◌, Bool, true, false, List, [], ◌∷◌, length, take, drop, refl, ap, ◌∙◌, sym, subst, arith, slice_index, not}
use Rattle.rust_lexer.proofs.Common.{is_ascii_digit, Cut, LiteralKind, Numeral, Extent, is_wide_continue, is_wide_start, is_word, run_length, block, block_style, line_style, number, character, is_one_char, string, cut, with_suffix, quoted_literal, plain_word, raw_identifier, prefixed_raw, r_word, b_word, c_word, cut_word, slash, is_raw_lifetime, lifetime, apostrophe, first_cut, Stop, stop, is_full}
use Rattle.rust_lexer.specs.declared.bytes.Class.TheVariants as class
use Rattle.rust_lexer.specs.declared.kind.LiteralKind.TheVariants as literals
use Rattle.rust_lexer.specs.declared.kind.TokenKind.TheVariants as kind
use Rattle.rust_lexer.proofs.Cases.{when}
use Rattle.rust_lexer.proofs.StopBytes.{by_stop, cond_same, upto, at_same, full_behind, full_drop, run_same, run_within, word_start_same, is_word_same, white_same, start_same}
use Rattle.rust_lexer.proofs.StopNumbers.{number_same, number_within}
use Rattle.rust_lexer.proofs.StopLiterals.{string_same, raw_or_same, quoted_far, quoted_same, suffixed_same, one_char_same, character_same}

-- ---- words

plain_same : (o : Stop) (x y y' : List ℕ) → is_full x ≡ true → plain_word (upto o x y') ≡ plain_word (upto o x y)
plain_same o x y y' full = ap (cut kind.Ident) (run_same class.Word refl o x y y' full)

raw_identifier_same : (o : Stop) (x y y' : List ℕ) → is_full x ≡ true → raw_identifier (upto o x y') ≡ raw_identifier (upto o x y)
unfolding is_wide_continue
raw_identifier_same o [] y y' full = by_stop (λ c. raw_identifier (c ∷ y') ≡ raw_identifier (c ∷ y)) refl refl refl o
raw_identifier_same o (a ∷ x) y y' full =
    let more = full_behind a x full in
    cond_same (ap (λ t. a == 35 && t) (word_start_same o x y y' more))
    (λ _. ap (λ n. cut kind.RawIdent (suc n)) (run_same class.Word refl o x y y' more)) (λ _. plain_same o (a ∷ x) y y' full)

prefixed_raw_same : (k : LiteralKind) (o : Stop) (x y y' : List ℕ) → is_full x ≡ true → (prefixed_raw k (upto o x y)).len ≤ length x → prefixed_raw k (upto o x y') ≡ prefixed_raw k (upto o x y)
unfolding is_wide_continue
prefixed_raw_same k o [] y y' full h = by_stop (λ c. prefixed_raw k (c ∷ y') ≡ prefixed_raw k (c ∷ y)) refl refl refl o
prefixed_raw_same k o (a ∷ x) y y' full h =
    let more = full_behind a x full in
    let p = plain_word (upto o (a ∷ x) y) in
    let p' = plain_word (upto o (a ∷ x) y') in
    let same : p' ≡ p = plain_same o (a ∷ x) y y' full in
    when (a == 114)
    (λ e. let less = rw e at h in rw e (raw_or_same k p p' 1 o (a ∷ x) x y y' full more (omega arith) same less (omega arith)))
    (λ e. rw e same)

r_word_same : (o : Stop) (x y y' : List ℕ) → is_full x ≡ true → (r_word (upto o x y)).len ≤ length x → r_word (upto o x y') ≡ r_word (upto o x y)
r_word_same o x y y' full h =
    raw_or_same literals.RawStr (raw_identifier (upto o x y)) (raw_identifier (upto o x y')) 0 o x x y y' full full (omega arith) (raw_identifier_same o x y y' full) h (omega arith)

string_literal : (k : LiteralKind) (o : Stop) (a : ℕ) (x y y' : List ℕ) → is_full (a ∷ x) ≡ true → (quoted_literal k (string false 1 (upto o x y)) (upto o (a ∷ x) y)).len ≤ length (a ∷ x)
    → quoted_literal k (string false 1 (upto o x y')) (upto o (a ∷ x) y') ≡ quoted_literal k (string false 1 (upto o x y)) (upto o (a ∷ x) y)
string_literal k o a x y y' full h =
    let e = string false 1 (upto o x y) in
    let far = quoted_far k e (upto o (a ∷ x) y) in
    quoted_same k e (string false 1 (upto o x y')) o (a ∷ x) y y' full (string_same o false 1 x y y' (omega arith)) (omega arith)

character_literal : (o : Stop) (a : ℕ) (x y y' : List ℕ) → is_full (a ∷ x) ≡ true → (quoted_literal literals.Byte (character 1 (upto o x y)) (upto o (a ∷ x) y)).len ≤ length (a ∷ x)
    → quoted_literal literals.Byte (character 1 (upto o x y')) (upto o (a ∷ x) y') ≡ quoted_literal literals.Byte (character 1 (upto o x y)) (upto o (a ∷ x) y)
character_literal o a x y y' full h =
    let e = character 1 (upto o x y) in
    let far = quoted_far literals.Byte e (upto o (a ∷ x) y) in
    quoted_same literals.Byte e (character 1 (upto o x y')) o (a ∷ x) y y' full (character_same o 1 x y y' (full_behind a x full) (omega arith)) (omega arith)

b_word_same : (o : Stop) (x y y' : List ℕ) → is_full x ≡ true → (b_word (upto o x y)).len ≤ length x → b_word (upto o x y') ≡ b_word (upto o x y)
unfolding is_wide_continue
b_word_same o [] y y' full h = by_stop (λ c. b_word (c ∷ y') ≡ b_word (c ∷ y)) refl refl refl o
b_word_same o (a ∷ x) y y' full h =
    when (a == 34) (λ e. let less = rw e at h in rw e (string_literal literals.ByteStr o a x y y' full less))
    (λ e. let less = rw e at h in
    when (a == 39) (λ f. let least = rw f at less in rw (e, f) (character_literal o a x y y' full least))
    (λ f. let least = rw f at less in rw (e, f) (prefixed_raw_same literals.RawByteStr o (a ∷ x) y y' full least)))

c_word_same : (o : Stop) (x y y' : List ℕ) → is_full x ≡ true → (c_word (upto o x y)).len ≤ length x → c_word (upto o x y') ≡ c_word (upto o x y)
unfolding is_wide_continue
c_word_same o [] y y' full h = by_stop (λ c. c_word (c ∷ y') ≡ c_word (c ∷ y)) refl refl refl o
c_word_same o (a ∷ x) y y' full h =
    when (a == 34) (λ e. let less = rw e at h in rw e (string_literal literals.CStr o a x y y' full less))
    (λ e. let less = rw e at h in rw e (prefixed_raw_same literals.RawCStr o (a ∷ x) y y' full less))

word_same : (o : Stop) (b : ℕ) (x y y' : List ℕ) → is_full x ≡ true → (cut_word b (upto o x y)).len ≤ length x → cut_word b (upto o x y') ≡ cut_word b (upto o x y)
word_same o b x y y' full h =
    when (b == 114) (λ e. let less = rw e at h in rw e (r_word_same o x y y' full less))
    (λ e. let less = rw e at h in
    when (b == 98) (λ f. let least = rw f at less in rw (e, f) (b_word_same o x y y' full least))
    (λ f. let least = rw f at less in
    when (b == 99) (λ g. let last = rw g at least in rw (e, f, g) (c_word_same o x y y' full last)) (λ g. rw (e, f, g) (plain_same o x y y' full))))

-- ---- comments

line_style_same : (o : Stop) (x y y' : List ℕ) → line_style (upto o x y') ≡ line_style (upto o x y)
line_style_same o [] y y' = by_stop (λ c. line_style (c ∷ y') ≡ line_style (c ∷ y)) refl refl refl o
line_style_same o (a ∷ x) y y' = let e = at_same o x y y' 0 (omega arith) in rw e refl

block_style_same : (o : Stop) (x y y' : List ℕ) → block_style (upto o x y') ≡ block_style (upto o x y)
block_style_same o [] y y' = by_stop (λ c. block_style (c ∷ y') ≡ block_style (c ∷ y)) refl refl refl o
block_style_same o (a ∷ x) y y' = let e = at_same o x y y' 0 (omega arith) in rw e refl

line_some : (o : Stop) (y : List ℕ) → 0 < run_length class.Line (stop o ∷ y)
line_some o y = by_stop (λ c. 0 < run_length class.Line (c ∷ y)) (omega arith) (omega arith) (omega arith) o

line_same : (o : Stop) (x y y' : List ℕ) → run_length class.Line (upto o x y) ≤ length x → run_length class.Line (upto o x y') ≡ run_length class.Line (upto o x y)
line_same o [] y y' h = let some = line_some o y in absurd (omega arith)
line_same o (a ∷ x) y y' h = when (not (a == 10)) (λ e. let less = rw e at h in rw e (ap suc (line_same o x y y' (omega arith)))) (λ e. rw e refl)

block_far : (s : Bool) (d n : ℕ) (z : List ℕ) → n + length (take 1 z) ≤ (block s d n z).len
block_far s d n [] = omega arith
block_far true d n (b ∷ z) = let more = block_far false d (suc n) z in omega arith
block_far false d n (b ∷ z) =
    let plain_word = block_far false d (suc n) z in
    let less = block_far true (d - 1) (suc n) z in
    let more = block_far true (d + 1) (suc n) z in
    when (b == 42 && slice_index z 0 == 47)
    (λ e. when (d == 0) (λ f. rw (e, f) (omega arith)) (λ f. rw (e, f) (omega arith)))
    (λ e. when (b == 47 && slice_index z 0 == 42) (λ f. rw (e, f) (omega arith)) (λ f. rw (e, f) (omega arith)))

block_same : (o : Stop) (s : Bool) (d n : ℕ) (x y y' : List ℕ) → (block s d n (upto o x y)).len ≤ n + length x → block s d n (upto o x y') ≡ block s d n (upto o x y)
block_same o s d n [] y y' h = let far = block_far s d n (stop o ∷ y) in absurd (omega arith)
block_same o true d n (b ∷ x) y y' h = block_same o false d (suc n) x y y' (omega arith)
block_same o false d n (b ∷ x) y y' h =
    let next = at_same o x y y' 0 (omega arith) in
    cond_same (ap (λ c. b == 42 && c == 47) next)
    (λ e. let less = rw e at h in
    when (d == 0) (λ f. rw f refl) (λ f. let least = rw f at less in rw f (block_same o true (d - 1) (suc n) x y y' (omega arith))))
    (λ e. let less = rw e at h in
    cond_same (ap (λ c. b == 47 && c == 42) next)
    (λ f. let least = rw f at less in block_same o true (d + 1) (suc n) x y y' (omega arith))
    (λ f. let least = rw f at less in block_same o false d (suc n) x y y' (omega arith)))

slash_same : (o : Stop) (x y y' : List ℕ) → (slash (upto o x y)).len ≤ length x → slash (upto o x y') ≡ slash (upto o x y)
slash_same o [] y y' h = by_stop (λ c. slash (c ∷ y') ≡ slash (c ∷ y)) refl refl refl o
slash_same o (a ∷ x) y y' h =
    when (a == 47)
    (λ e. let less = rw e at h in
    rw (e, line_style_same o x y y') (ap (λ n. cut (kind.LineComment (line_style (upto o x y))) (suc n)) (line_same o x y y' (omega arith))))
    (λ e. let less = rw e at h in
    when (a == 42)
    (λ f. let least = rw f at less in
    rw (e, f, block_style_same o x y y') (ap (λ (t : Extent). cut (kind.BlockComment (block_style (upto o x y))) t.len) (block_same o false 0 1 x y y' (omega arith))))
    (λ f. rw (e, f) refl))

-- ---- lifetimes

-- where no two bytes stand before the stop
no_lifetime : (a c : ℕ) (y : List ℕ) → (c == 35) ≡ false → is_raw_lifetime (a ∷ c ∷ y) ≡ false
no_lifetime a c y e = when (a == 114) (λ f. rw (f, e) refl) (λ f. rw f refl)

no_raw_lifetime : (o : Stop) (x y : List ℕ) → length x ≤ 1 → is_raw_lifetime (upto o x y) ≡ false
no_raw_lifetime o [] y le = by_stop (λ c. is_raw_lifetime (c ∷ y) ≡ false) refl refl refl o
no_raw_lifetime o (a ∷ []) y le = no_lifetime a (stop o) y (by_stop (λ c. (c == 35) ≡ false) refl refl refl o)
no_raw_lifetime o (a ∷ b ∷ x) y le = absurd (omega arith)

raw_lifetime_same : (o : Stop) (x y y' : List ℕ) → is_full x ≡ true → is_raw_lifetime (upto o x y') ≡ is_raw_lifetime (upto o x y)
raw_lifetime_same o [] y y' full = no_raw_lifetime o [] y' (omega arith) ∙ sym (no_raw_lifetime o [] y (omega arith))
raw_lifetime_same o (a ∷ []) y y' full = no_raw_lifetime o (a ∷ []) y' (omega arith) ∙ sym (no_raw_lifetime o (a ∷ []) y (omega arith))
raw_lifetime_same o (a ∷ b ∷ x) y y' full = ap (λ t. a == 114 && b == 35 && t) (word_start_same o x y y' (full_drop 2 (a ∷ b ∷ x) full))

raw_behind : (o : Stop) (x y y' : List ℕ) → is_full x ≡ true → is_raw_lifetime (upto o x y) ≡ true → run_length class.Word (drop 2 (upto o x y')) ≡ run_length class.Word (drop 2 (upto o x y))
raw_behind o [] y y' full e = let none = no_raw_lifetime o [] y (omega arith) in absurd cc
raw_behind o (a ∷ []) y y' full e = let none = no_raw_lifetime o (a ∷ []) y (omega arith) in absurd cc
raw_behind o (a ∷ b ∷ x) y y' full e = run_same class.Word refl o x y y' (full_drop 2 (a ∷ b ∷ x) full)

lifetime_same : (o : Stop) (x y y' : List ℕ) → is_full x ≡ true → lifetime (upto o x y') ≡ lifetime (upto o x y)
lifetime_same o x y y' full =
    let z = upto o x y in
    let z' = upto o x y' in
    let n = run_length class.Word z in
    let far = run_within class.Word refl o x y in
    let same : run_length class.Word z' ≡ n = run_same class.Word refl o x y y' full in
    let next : slice_index z' (run_length class.Word z') ≡ slice_index z n = ap (slice_index z') same ∙ at_same o x y y' n far in
    cond_same (raw_lifetime_same o x y y' full)
    (λ e. ap (λ k. cut kind.RawLifetime (2 + k)) (raw_behind o x y y' full e))
    (λ _. cond_same (ap (λ c. c == 39) next) (λ _. ap (λ k. cut (kind.Literal literals.Char) (suc k)) same) (λ _. ap (cut kind.Lifetime) same))

apostrophe_empty : (o : Stop) (y : List ℕ) → apostrophe (upto o [] y) ≡ quoted_literal literals.Char (character 0 (upto o [] y)) (upto o [] y)
unfolding is_wide_start
apostrophe_empty o y = by_stop (λ c. apostrophe (c ∷ y) ≡ quoted_literal literals.Char (character 0 (c ∷ y)) (c ∷ y)) refl refl refl o

quoted_character : (o : Stop) (x y y' : List ℕ) → is_full x ≡ true → (quoted_literal literals.Char (character 0 (upto o x y)) (upto o x y)).len ≤ length x
    → quoted_literal literals.Char (character 0 (upto o x y')) (upto o x y') ≡ quoted_literal literals.Char (character 0 (upto o x y)) (upto o x y)
quoted_character o x y y' full h =
    let e = character 0 (upto o x y) in
    let far = quoted_far literals.Char e (upto o x y) in
    quoted_same literals.Char e (character 0 (upto o x y')) o x y y' full (character_same o 0 x y y' full (omega arith)) (omega arith)

apostrophe_same : (o : Stop) (x y y' : List ℕ) → is_full x ≡ true → (apostrophe (upto o x y)).len ≤ length x → apostrophe (upto o x y') ≡ apostrophe (upto o x y)
apostrophe_same o [] y y' full h =
    apostrophe_empty o y' ∙ quoted_character o [] y y' full (subst (λ (c : Cut). c.len ≤ 0) (apostrophe_empty o y) h) ∙ sym (apostrophe_empty o y)
apostrophe_same o (a ∷ x) y y' full h =
    let test : (is_word (upto o (a ∷ x) y') && not (is_one_char (upto o (a ∷ x) y'))) ≡ (is_word (upto o (a ∷ x) y) && not (is_one_char (upto o (a ∷ x) y))) =
    ap (λ t. t && not (is_one_char (upto o (a ∷ x) y'))) (is_word_same o (a ∷ x) y y' full) ∙ ap (λ t. is_word (upto o (a ∷ x) y) && not t) (one_char_same o a x y y' (full_behind a x full)) in
    cond_same test (λ _. lifetime_same o (a ∷ x) y y' full) (λ e. let less = rw e at h in quoted_character o (a ∷ x) y y' full less)

-- ---- all

string_whole : (o : Stop) (x y y' : List ℕ) → is_full x ≡ true → (quoted_literal literals.Str (string false 0 (upto o x y)) (upto o x y)).len ≤ length x
    → quoted_literal literals.Str (string false 0 (upto o x y')) (upto o x y') ≡ quoted_literal literals.Str (string false 0 (upto o x y)) (upto o x y)
string_whole o x y y' full h =
    let e = string false 0 (upto o x y) in
    let far = quoted_far literals.Str e (upto o x y) in
    quoted_same literals.Str e (string false 0 (upto o x y')) o x y y' full (string_same o false 0 x y y' (omega arith)) (omega arith)

numeral_same : (o : Stop) (b : ℕ) (x y y' : List ℕ) → is_full x ≡ true
    → with_suffix (number b (upto o x y')).kind (number b (upto o x y')).len (upto o x y') ≡ with_suffix (number b (upto o x y)).kind (number b (upto o x y)).len (upto o x y)
numeral_same o b x y y' full =
    let n = number b (upto o x y) in
    ap (λ (m : Numeral). with_suffix m.kind m.len (upto o x y')) (number_same o b x y y' full) ∙ suffixed_same n.kind n.len o x y y' full (number_within o b x y)

pub cut_local : (o : Stop) (b : ℕ) (x y y' : List ℕ) → is_full (b ∷ x) ≡ true → (first_cut b (upto o x y)).len ≤ length x → first_cut b (upto o x y') ≡ first_cut b (upto o x y)
unfolding first_cut
cut_local o b x y y' whole h =
    let full = full_behind b x whole in
    cond_same (white_same o b x y y')
    (λ _. ap (cut kind.Whitespace) (run_same class.White refl o x y y' full))
    (λ e. let h1 = rw e at h in
    when (is_ascii_digit b) (λ f. rw f (numeral_same o b x y y' full))
    (λ f. let h2 = rw f at h1 in
    rw f (cond_same (start_same o b x y y' whole) (λ g. let h3 = rw g at h2 in word_same o b x y y' full h3)
    (λ g. let h3 = rw g at h2 in
    when (b == 47) (λ i. let h4 = rw i at h3 in rw i (slash_same o x y y' h4))
    (λ i. let h4 = rw i at h3 in
    when (b == 34) (λ j. let h5 = rw j at h4 in rw (i, j) (string_whole o x y y' full h5))
    (λ j. let h5 = rw j at h4 in
    when (b == 39) (λ k. let h6 = rw k at h5 in rw (i, j, k) (apostrophe_same o x y y' full h6))
    (λ k. rw (i, j, k) refl)))))))
