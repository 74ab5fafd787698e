-- A loop over bytes leads to the same `}` as one over tokens: a bracket that begins a token is that token.
use Rattle.std.proofs.Common.{◌≡◌, ◌<◌, ◌≤◌, ℕ, suc, ◌+◌, ◌-◌, ◌==◌, ◌||◌, ◌&&◌, Bool, true, false, Some, List, ◌∷◌, length, get_or, take, drop, drop-cons, drop-drop, length-take-le, refl, sym, ap, ◌∙◌, inl, inr, ◌⊎◌, subst, arith}
use Rattle.rust_lexer.proofs.Common.{eqb-true, nat_tests, take_rest, Cut, Depth, TokenKind, run_length, first_cut, symbol_kind, depth_behind, to_outer, is_blank_byte, is_close_byte, is_letter, is_mark_byte, is_open_byte, Piece, symbol_from, symbol_of, piece, tokens_from, whole_length}
use Rattle.rust_lexer.specs.declared.bytes.Class.TheVariants as class
use Rattle.rust_lexer.specs.declared.kind.TokenKind.TheVariants as kind
use Rattle.rust_lexer.proofs.Cases.{when}
use Rattle.rust_lexer.proofs.FrequentTokens.{blank_first, letter_first, mark_first}
use Rattle.rust_lexer.proofs.Steps.{tokens_from_drop}
use Rattle.rust_lexer.proofs.WholeTokens.{white_whole, word_whole}

-- ---- how many bytes a token has

run_alone : (n m : ℕ) → m ≡ 0 → n ≡ n + m
run_alone n m e = omega arith

pub white_len : (b : ℕ) (z : List ℕ) (n : ℕ) → is_blank_byte b ≡ true → n ≡ run_length class.White z → n ≡ whole_length (first_cut b z) z
white_len b z n e r =
    r ∙ run_alone (run_length class.White z) _ (white_whole _ z refl) ∙ ap (λ (c : Cut). whole_length c z) (sym (blank_first b z e))

pub word_len : (b : ℕ) (z : List ℕ) (n : ℕ) → is_letter b ≡ true → n ≡ run_length class.Word z → n ≡ whole_length (first_cut b z) z
word_len b z n e r =
    r ∙ run_alone (run_length class.Word z) _ (word_whole _ z refl) ∙ ap (λ (c : Cut). whole_length c z) (sym (letter_first b z e))

zero_run : (m : ℕ) → m ≡ 0 + m
zero_run m = omega arith

pub mark_len : (b : ℕ) (z : List ℕ) (n : ℕ) → is_mark_byte b ≡ true → n ≡ run_length class.Continuation z → n ≡ whole_length (first_cut b z) z
mark_len b z n e r = r ∙ zero_run (run_length class.Continuation z) ∙ ap (λ (c : Cut). whole_length c z) (sym (mark_first b z e))

pub any_len : (b : ℕ) (z : List ℕ) (c : Cut) (n : ℕ) → c ≡ first_cut b z → n ≡ run_length class.Continuation (take (length z - c.len) (drop c.len z)) → c.len + n ≡ whole_length (first_cut b z) z
any_len b z c n e r =
    ap (λ k. c.len + k) (r ∙ ap (run_length class.Continuation) (take_rest z c.len)) ∙ ap (λ (k : Cut). whole_length k z) e

-- ---- its symbol

abbrev pub is_bracket : ℕ → Bool
is_bracket b = is_open_byte b || is_close_byte b

quiet : (d : Depth) (b : ℕ) → is_bracket b ≡ false → depth_behind d b ≡ d
quiet d b e =
    let a : (b == 40) ≡ false = grind (arith, nat_tests) in
    let b' : (b == 41) ≡ false = grind (arith, nat_tests) in
    let c : (b == 91) ≡ false = grind (arith, nat_tests) in
    let c' : (b == 93) ≡ false = grind (arith, nat_tests) in
    let f : (b == 123) ≡ false = grind (arith, nat_tests) in
    let f' : (b == 125) ≡ false = grind (arith, nat_tests) in
    rw (a, b', c, c', f, f') (ap (λ k. record { braces = d.braces; inner = d.inner; is_torn = k }) (still d.is_torn (d.inner == 0)))
  where
    still : (s t : Bool) → (s || (t && false)) ≡ s
    still true t = refl
    still false true = refl
    still false false = refl

bracket_kind : (b : ℕ) → is_bracket b ≡ true → symbol_from (symbol_kind b) b ≡ b
bracket_kind b e =
    when (b == 40 || b == 91 || b == 123) (λ o. rw o refl)
    (λ o. let c : (b == 41 || b == 93 || b == 125) ≡ true = grind (arith, nat_tests) in rw (o, c) refl)

pub symbol_by : (k : TokenKind) (b : ℕ) → (symbol_from k b ≡ b) ⊎ (symbol_from k b ≡ 0)
symbol_by kind.OpenDelim b = inl refl
symbol_by kind.CloseDelim b = inl refl
symbol_by kind.Punct b = inl refl
symbol_by _ b = inr refl

-- what is counted behind a token is what its first byte tells
record IsTold (d : Depth) (c b : ℕ) : Type 0 where
  behind : depth_behind d c ≡ depth_behind d b
  last : (d.braces == 1 && c == 125) ≡ (d.braces == 1 && b == 125)

told_same : (d : Depth) (c b : ℕ) → c ≡ b → IsTold d c b
told_same d c b e = record { behind = ap (depth_behind d) e; last = ap (λ k. d.braces == 1 && k == 125) e }

told : (d : Depth) (at b : ℕ) (z : List ℕ) → IsTold d (symbol_of (piece (first_cut b z) at b z)) b
told d at b z =
    when (is_bracket b)
    (λ e. let m : is_mark_byte b ≡ true = grind (arith, nat_tests) in
    told_same d _ b (ap (λ (c : Cut). symbol_from c.kind b) (mark_first b z m) ∙ bracket_kind b e))
    (λ e. elim (symbol_by (first_cut b z).kind b) [
      | inl same ↦ told_same d _ b same
      | inr none ↦
          let other : (b == 125) ≡ false = grind (arith, nat_tests) in
          record { behind = rw none (quiet d 0 refl ∙ sym (quiet d b e)); last = rw (none, other) refl }
    ])

-- ---- turns

second_of : (a b : Bool) → (a && b) ≡ true → b ≡ true
second_of true b e = e
second_of false b e = absurd cc

step_here : (d : Depth) (t : Piece) (ts : List Piece) → (d.braces == 1 && symbol_of t == 125) ≡ true → to_outer d (t ∷ ts) ≡ Some (d, t ∷ ts)
step_here d t ts e = rw e refl

step_on : (d : Depth) (t : Piece) (ts : List Piece) → (d.braces == 1 && symbol_of t == 125) ≡ false → to_outer d (t ∷ ts) ≡ to_outer (depth_behind d (symbol_of t)) ts
step_on d t ts e = rw e refl

-- a token that begins with no bracket counts for nothing
pub quiet_turn : (d : Depth) (at b : ℕ) (z : List ℕ) → is_bracket b ≡ false → to_outer d (tokens_from 0 at (b ∷ z)) ≡ to_outer d (tokens_from (whole_length (first_cut b z) z) (suc at) z)
quiet_turn d at b z e =
    let t = told d at b z in
    let other : (b == 125) ≡ false = grind (arith, nat_tests) in
    let more = tokens_from (whole_length (first_cut b z) z) (suc at) z in
    step_on d (piece (first_cut b z) at b z) more (t.last ∙ and_false d.braces (b == 125) other)
    ∙ ap (λ k. to_outer k more) (t.behind ∙ quiet d b e)
  where
    and_false : (n : ℕ) (t : Bool) → t ≡ false → (n == 1 && t) ≡ false
    and_false n t f = when (n == 1) (λ e. rw (e, f) refl) (λ e. rw e refl)

module _ (d : Depth) (at k : ℕ) (text w : List ℕ) (same : w ≡ text) (some : k < length w) where
  first_is : drop k text ≡ get_or w k 0 ∷ drop (suc k) w
  first_is = ap (drop k) (sym same) ∙ drop-cons w k 0 some

  -- the `}` stands here
  pub outer_here : (rest : List ℕ) → (d.braces == 1 && get_or w k 0 == 125) ≡ true → rest ≡ drop k text → to_outer d (tokens_from 0 (at + k) (drop k text)) ≡ Some (d, tokens_from 0 (at + k) rest)
  outer_here rest e r =
      let b = get_or w k 0 in
      let z = drop (suc k) w in
      let n = whole_length (first_cut b z) z in
      ap (λ l. to_outer d (tokens_from 0 (at + k) l)) first_is
      ∙ step_here d (piece (first_cut b z) (at + k) b z) (tokens_from n (suc (at + k)) z) ((told d (at + k) b z).last ∙ e)
      ∙ ap (λ l. Some (d, tokens_from 0 (at + k) l)) (sym first_is ∙ sym r)

  -- a token is passed
  pub outer_turn : (d' : Depth) (z : List ℕ) (n : ℕ) → (d.braces == 1 && get_or w k 0 == 125) ≡ false → d' ≡ depth_behind d (get_or w k 0) → z ≡ take (length w - (k + 1)) (drop (k + 1) w)
      → n ≡ whole_length (first_cut (get_or w k 0) z) z → n ≤ length z → to_outer d' (tokens_from 0 (at + (k + (1 + n))) (drop (k + (1 + n)) text)) ≡ to_outer d (tokens_from 0 (at + k) (drop k text))
  outer_turn d' z n e h zed is le =
      let b = get_or w k 0 in
      let y = drop (suc k) w in
      let next : k + 1 ≡ suc k = omega arith in
      let z_is : z ≡ y = zed ∙ take_rest w (k + 1) ∙ ap (λ i. drop i w) next in
      let n_is : whole_length (first_cut b y) y ≡ n = sym (is ∙ ap (λ l. whole_length (first_cut b l) l) z_is) in
      let t = piece (first_cut b y) (at + k) b y in
      let told_t = told d (at + k) b y in
      let within : n ≤ length y = subst (λ (l : List ℕ). n ≤ length l) z_is le in
      let place : suc (at + k) + length (take n y) ≡ at + (k + (1 + n)) = omega (arith, length-take-le n y within) in
      let far : suc k + n ≡ k + (1 + n) = omega arith in
      let left : drop n y ≡ drop (k + (1 + n)) text = drop-drop n (suc k) w ∙ ap (λ i. drop i w) far ∙ ap (drop (k + (1 + n))) same in
      let on : to_outer d (tokens_from 0 (at + k) (drop k text)) ≡ to_outer d' (tokens_from 0 (at + (k + (1 + n))) (drop (k + (1 + n)) text)) =
      ap (λ l. to_outer d (tokens_from 0 (at + k) l)) first_is
      ∙ step_on d t (tokens_from (whole_length (first_cut b y) y) (suc (at + k)) y) (told_t.last ∙ e)
      ∙ ap (λ x. to_outer x (tokens_from (whole_length (first_cut b y) y) (suc (at + k)) y)) (told_t.behind ∙ sym h)
      ∙ ap (λ i. to_outer d' (tokens_from i (suc (at + k)) y)) n_is
      ∙ ap (to_outer d') (tokens_from_drop n (suc (at + k)) y)
      ∙ ap (λ i. to_outer d' (tokens_from 0 i (drop n y))) place
      ∙ ap (λ l. to_outer d' (tokens_from 0 (at + (k + (1 + n))) l)) left in
      sym on

  -- a `}` is one byte of ASCII
  pub outer_whole : (t : Bool) → (t && get_or w k 0 == 125) ≡ true → 128 ≤ get_or text k 0 → 192 ≤ get_or text k 0
  outer_whole t e h = let here : get_or w k 0 ≡ 125 = eqb-true (get_or w k 0) 125 (second_of t _ e) in absurd (omega (arith, here, ap (λ l. get_or l k 0) same))
