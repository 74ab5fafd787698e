-- The tokens of a text with braces in it.
use Rattle.std.proofs.Common.{◌≡◌, ◌≤◌, ℕ, zero, suc, ◌+◌, true, false, List, [], ◌∷◌, ◌++◌, length, take, drop, refl, ap, ◌∙◌, sym, arith, map, append_assoc, slice_index, ◌<◌, ◌==◌, All, IsUtf8, get_or, take-add, take-append-drop, drop-cons, length-take-le}
use Rattle.rust_lexer.proofs.Common.{All-cons, All-nil, drop_at, eqb-true, take-append-le, Cut, is_continuation, run_length, is_wide_start, cut, first_cut, symbol_kind, Piece, piece, tokens_from, whole_length, Stop, opening, closing, stop, is_full, overhang, tokens_in_front, moved_piece, StandsAlone, Apart, EndsAlone}
use Rattle.rust_lexer.specs.declared.bytes.Class.TheVariants as class
use Rattle.rust_lexer.specs.declared.kind.TokenKind.TheVariants as kind
use Rattle.rust_lexer.specs.Inner.{IsCommon, is_brace_byte}
use Rattle.rust_lexer.specs.Tokens.{ArePassed, pieces}
use Rattle.rust_lexer.specs.declared.lexer.Front.{Front}
use Rattle.rust_lexer.specs.declared.lexer.Front.TheVariants as front
use Rattle.rust_lexer.proofs.Cases.{when}
use Rattle.rust_lexer.proofs.WholeCharacters.{utf8_full}
use Rattle.std.proofs.lemmas.Str.{IsUtf8-take}
use Rattle.rust_lexer.proofs.StopBytes.{by_stop, upto, drop_upto, full_behind, full_drop, run_same}
use Rattle.rust_lexer.proofs.StopCuts.{cut_local}

-- ---- what a token takes

-- how many bytes belong to the first token, behind its first
len : ℕ → List ℕ → ℕ
len b z = whole_length (first_cut b z) z

whole_same : (c : Cut) (o : Stop) (x y y' : List ℕ) → is_full x ≡ true → c.len ≤ length x → whole_length c (upto o x y') ≡ whole_length c (upto o x y)
whole_same c o x y y' full le =
    ap (λ l. c.len + run_length class.Continuation l) (drop_upto o x y' c.len le)
    ∙ ap (λ n. c.len + n) (run_same class.Continuation refl o (drop c.len x) y y' (full_drop c.len x full))
    ∙ ap (λ l. c.len + run_length class.Continuation l) (sym (drop_upto o x y c.len le))

-- a token that ends before a stop
record Kept (o : Stop) (b : ℕ) (x y y' : List ℕ) : Type 0 where
  one : first_cut b (upto o x y') ≡ first_cut b (upto o x y)
  all : whole_length (first_cut b (upto o x y')) (upto o x y') ≡ whole_length (first_cut b (upto o x y)) (upto o x y)
  made : (at : ℕ) → piece (first_cut b (upto o x y')) at b (upto o x y') ≡ piece (first_cut b (upto o x y)) at b (upto o x y)

kept : (o : Stop) (b : ℕ) (x y y' : List ℕ) → is_full (b ∷ x) ≡ true → whole_length (first_cut b (upto o x y)) (upto o x y) ≤ length x → Kept o b x y y'
kept o b x y y' full le =
    let c = first_cut b (upto o x y) in
    let one = cut_local o b x y y' full (omega arith) in
    let all : whole_length (first_cut b (upto o x y')) (upto o x y') ≡ whole_length c (upto o x y) =
    ap (λ (t : Cut). whole_length t (upto o x y')) one ∙ whole_same c o x y y' (full_behind b x full) (omega arith) in
    let n = whole_length c (upto o x y) in
    record {
      one = one;
      all = all;
      made = λ at.
          ap (λ (t : Cut). piece t at b (upto o x y')) one
          ∙ ap (λ l. record { kind = c.kind; text = b ∷ l; at = at })
          (ap (λ k. take k (upto o x y')) (whole_same c o x y y' (full_behind b x full) (omega arith))
          ∙ take-append-le n x (stop o ∷ y') le ∙ sym (take-append-le n x (stop o ∷ y) le));
    }

-- ---- tokens that begin in a text

split : (left at : ℕ) (x w : List ℕ) → tokens_from left at (x ++ w) ≡ tokens_in_front left at x w ++ tokens_from (overhang left x w) (at + length x) w
split left at [] w = ap (λ k. tokens_from left k w) (omega arith)
split (suc left) at (b ∷ x) w = split left (suc at) x w ∙ ap (λ k. tokens_in_front left (suc at) x w ++ tokens_from (overhang left x w) k w) (omega arith)
split zero at (b ∷ x) w =
    let n = whole_length (first_cut b (x ++ w)) (x ++ w) in
    ap (λ l. piece (first_cut b (x ++ w)) at b (x ++ w) ∷ l)
    (split n (suc at) x w ∙ ap (λ k. tokens_in_front n (suc at) x w ++ tokens_from (overhang n x w) k w) (omega arith))

far : (left : ℕ) (x w : List ℕ) → left ≤ length x + overhang left x w
far left [] w = omega arith
far (suc left) (b ∷ x) w = let more = far left x w in omega arith
far zero (b ∷ x) w = omega arith

pub front_same : (o : Stop) (left at : ℕ) (x y y' : List ℕ) → is_full x ≡ true → overhang left x (stop o ∷ y) ≡ 0
    → (overhang left x (stop o ∷ y') ≡ 0) × (tokens_in_front left at x (stop o ∷ y') ≡ tokens_in_front left at x (stop o ∷ y))
front_same o left at [] y y' full e = (e, refl)
front_same o (suc left) at (b ∷ x) y y' full e = front_same o left (suc at) x y y' (full_behind b x full) e
front_same o zero at (b ∷ x) y y' full e =
    let n = whole_length (first_cut b (upto o x y)) (upto o x y) in
    let reach = far n x (stop o ∷ y) in
    let k = kept o b x y y' full (omega arith) in
    let more = front_same o n (suc at) x y y' (full_behind b x full) e in (
      ap (λ i. overhang i x (stop o ∷ y')) k.all ∙ more.0,
      ap (λ i. piece (first_cut b (upto o x y')) at b (upto o x y') ∷ tokens_in_front i (suc at) x (stop o ∷ y')) k.all
          ∙ ap (λ t. t ∷ tokens_in_front n (suc at) x (stop o ∷ y')) (k.made at)
          ∙ ap (λ l. piece (first_cut b (upto o x y)) at b (upto o x y) ∷ l) more.1,
    )

-- ---- what two texts begin with

front_before : (left at : ℕ) (x w : List ℕ) (place : ℕ) → at + length x ≤ place → All (λ t. t.at < place) (tokens_in_front left at x w)
front_before left at [] w place le = All-nil (λ t. t.at < place)
front_before (suc left) at (b ∷ x) w place le = front_before left (suc at) x w place (omega arith)
front_before zero at (b ∷ x) w place le =
    let c = first_cut b (x ++ w) in
    All-cons (λ t. t.at < place) (piece c at b (x ++ w)) _ (omega arith) (front_before (whole_length c (x ++ w)) (suc at) x w place (omega arith))

front_passed : (o : Stop) (at place : ℕ) (x y y' : List ℕ) → at + length x ≤ place → is_full x ≡ true → overhang 0 x (stop o ∷ y) ≡ 0
    → ArePassed place (tokens_from 0 at (upto o x y)) (tokens_from 0 (at + length x) (stop o ∷ y)) (tokens_from 0 at (upto o x y')) (tokens_from 0 (at + length x) (stop o ∷ y'))
front_passed o at place x y y' le full e =
    let same = front_same o 0 at x y y' full e in
    let front = tokens_in_front 0 at x (stop o ∷ y) in (
      front,
      split 0 at x (stop o ∷ y) ∙ ap (λ i. front ++ tokens_from i (at + length x) (stop o ∷ y)) e,
      split 0 at x (stop o ∷ y') ∙ ap (λ i. tokens_in_front 0 at x (stop o ∷ y') ++ tokens_from i (at + length x) (stop o ∷ y')) same.0
          ∙ ap (λ l. l ++ tokens_from 0 (at + length x) (stop o ∷ y')) same.1,
      front_before 0 at x (stop o ∷ y) place le,
    )

brace_stop : (b : ℕ) → is_brace_byte b ≡ true → (o : Stop) × (b ≡ stop o)
brace_stop b e = when (b == 123) (λ t. (opening, eqb-true b 123 t)) (λ t. (closing, eqb-true b 125 (rw t at e)))

-- one stands where a character begins
pub brace_boundary : (k : ℕ) (z w : List ℕ) → IsCommon z w k → (k ≤ length z) × (k < length z → 128 ≤ slice_index z k → 192 ≤ slice_index z k)
brace_boundary k z w h = (omega (arith, h.within), λ some wide. let o = brace_stop (get_or z k 0) h.brace in absurd (by_stop (λ b. get_or z k 0 ≡ b → ⊥) (λ e. omega (arith, wide, e)) (λ e. omega (arith, wide, e)) (λ e. omega (arith, wide, e)) o.0 o.1))

brace_passed : (at place k : ℕ) (z w : List ℕ) → at + k ≤ place → IsUtf8 z → IsCommon z w k
    → ArePassed place (tokens_from 0 at z) (tokens_from 0 (at + k) (drop k z)) (tokens_from 0 at w) (tokens_from 0 (at + k) (drop k w))
brace_passed at place k z w le utf8 h =
    let x = take k z in
    let b = get_or z k 0 in
    let o = brace_stop b h.brace in
    let len : length x ≡ k = length-take-le k z (omega (arith, h.within)) in
    let ours : drop k z ≡ stop o.0 ∷ drop (suc k) z = drop-cons z k 0 h.within ∙ ap (λ i. i ∷ drop (suc k) z) o.1 in
    let front : take (k + 1) z ≡ x ++ stop o.0 ∷ [] = take-add k 1 z ∙ ap (λ l. x ++ take 1 l) ours in
    let whole_is : w ≡ upto o.0 x (drop (k + 1) w) = sym (take-append-drop (k + 1) w) ∙ ap (λ l. l ++ drop (k + 1) w) (h.same ∙ front) ∙ append_assoc x (stop o.0 ∷ []) (drop (k + 1) w) in
    let theirs : drop k w ≡ stop o.0 ∷ drop (k + 1) w = ap (drop k) whole_is ∙ drop_at x (stop o.0 ∷ drop (k + 1) w) k len in
    let y = drop (suc k) z in
    let ours_is : z ≡ upto o.0 x y = sym (take-append-drop k z) ∙ ap (λ l. x ++ l) ours in
    let begins : overhang 0 x (stop o.0 ∷ y) ≡ 0 = ap (overhang 0 x) (sym ours) ∙ h.begins in
    let p = front_passed o.0 at place x y (drop (k + 1) w) (omega (arith, len, le)) (utf8_full x (IsUtf8-take z k utf8 (brace_boundary k z w h))) begins in
    let later : at + length x ≡ at + k = ap (λ i. at + i) len in (
      p.0,
      ap (tokens_from 0 at) ours_is ∙ p.1 ∙ ap (λ i. p.0 ++ tokens_from 0 i (stop o.0 ∷ y)) later ∙ ap (λ l. p.0 ++ tokens_from 0 (at + k) l) (sym ours),
      ap (tokens_from 0 at) whole_is ∙ p.2 ∙ ap (λ i. p.0 ++ tokens_from 0 i (stop o.0 ∷ drop (k + 1) w)) later ∙ ap (λ l. p.0 ++ tokens_from 0 (at + k) l) (sym theirs),
      p.3,
    )

-- up to a brace, where two lexers stand at one place behind all that stands in front alone
pub common_passed : (f g : Front) (at at' place k : ℕ) (z w z' w' : List ℕ) → f ≡ front.Token → g ≡ front.Token → at ≡ at' → at + k ≤ place → IsUtf8 z → IsCommon z w k → z' ≡ drop k z → w' ≡ drop k w
    → ArePassed place (pieces f at z) (pieces f (at + k) z') (pieces g at' w) (pieces g (at' + k) w')
common_passed f g at at' place k z w z' w' e e' s le utf8 h r r' = rw (e, e', ← s, r, r') (brace_passed at place k z w le utf8 h)

-- ---- places

front_moved : (d left at : ℕ) (x w : List ℕ) → tokens_in_front left (at + d) x w ≡ map (moved_piece d) (tokens_in_front left at x w)
front_moved d left at [] w = refl
front_moved d (suc left) at (b ∷ x) w = ap (λ k. tokens_in_front left k x w) (omega arith) ∙ front_moved d left (suc at) x w
front_moved d zero at (b ∷ x) w =
    let n = whole_length (first_cut b (x ++ w)) (x ++ w) in
    ap (λ l. piece (first_cut b (x ++ w)) (at + d) b (x ++ w) ∷ l) (ap (λ k. tokens_in_front n k x w) (omega arith) ∙ front_moved d n (suc at) x w)

pub tokens_moved : (d left at : ℕ) (z : List ℕ) → tokens_from left (at + d) z ≡ map (moved_piece d) (tokens_from left at z)
tokens_moved d left at [] = none left
  where
    none : (left : ℕ) → tokens_from left (at + d) [] ≡ map (moved_piece d) (tokens_from left at [])
    none zero = refl
    none (suc left) = refl
tokens_moved d (suc left) at (b ∷ z) = ap (λ k. tokens_from left k z) (omega arith) ∙ tokens_moved d left (suc at) z
tokens_moved d zero at (b ∷ z) =
    let n = whole_length (first_cut b z) z in
    ap (λ l. piece (first_cut b z) (at + d) b z ∷ l) (ap (λ k. tokens_from n k z) (omega arith) ∙ tokens_moved d n (suc at) z)

-- ---- the braces

stop_cut : (o : Stop) (z : List ℕ) → first_cut (stop o) z ≡ cut (symbol_kind (stop o)) 0
unfolding first_cut is_wide_start
stop_cut o z = by_stop (λ b. first_cut b z ≡ cut (symbol_kind b) 0) refl refl refl o

no_run : (z : List ℕ) → is_continuation (slice_index z 0) ≡ false → run_length class.Continuation z ≡ 0
no_run [] e = refl
no_run (b ∷ z) e = rw e refl

abbrev pub stop_at : Stop → ℕ → Piece
stop_at o at = record { kind = symbol_kind (stop o); text = stop o ∷ []; at = at }

stop_step : (o : Stop) (at : ℕ) (z : List ℕ) → is_continuation (slice_index z 0) ≡ false → tokens_from 0 at (stop o ∷ z) ≡ stop_at o at ∷ tokens_from 0 (suc at) z
stop_step o at z e =
    let n = run_length class.Continuation z in
    ap (λ (c : Cut). piece c at (stop o) z ∷ tokens_from (whole_length c z) (suc at) z) (stop_cut o z)
    ∙ ap (λ k. record { kind = symbol_kind (stop o); text = stop o ∷ take k z; at = at } ∷ tokens_from k (suc at) z) (let zero_is : 0 + n ≡ 0 = omega (arith, no_run z e) in zero_is)

begins_inside : (m s : List ℕ) → is_continuation (slice_index m 0) ≡ false → is_continuation (slice_index (m ++ 125 ∷ s) 0) ≡ false
begins_inside [] s e = refl
begins_inside (b ∷ m) s e = e

inside : (m s : List ℕ) (at : ℕ) → StandsAlone m → tokens_from 0 at (m ++ 125 ∷ s) ≡ map (moved_piece at) (tokens_in_front 0 0 m (125 ∷ [])) ++ map (moved_piece (at + length m)) (tokens_from 0 0 (125 ∷ s))
inside m s at h =
    let same = front_same closing 0 at m [] s h.full h.ends in
    split 0 at m (125 ∷ s)
    ∙ ap (λ n. tokens_in_front 0 at m (125 ∷ s) ++ tokens_from n (at + length m) (125 ∷ s)) same.0
    ∙ ap (λ l. l ++ tokens_from 0 (at + length m) (125 ∷ s)) (same.1 ∙ ap (λ k. tokens_in_front 0 k m (125 ∷ [])) (omega arith) ∙ front_moved at 0 0 m (125 ∷ []))
    ∙ ap (λ l. map (moved_piece at) (tokens_in_front 0 0 m (125 ∷ [])) ++ l) (ap (λ k. tokens_from 0 k (125 ∷ s)) (omega arith) ∙ tokens_moved (at + length m) 0 0 (125 ∷ s))

-- the `{` is a token of the text where it holds this between its braces; then it is one whatever stands between them
pub apart : (q m m' s : List ℕ) → is_full q ≡ true → overhang 0 q (123 ∷ (m ++ 125 ∷ s)) ≡ 0 → StandsAlone m' → Apart q m' s
apart q m m' s full e h =
    let y = m ++ 125 ∷ s in
    let y' = m' ++ 125 ∷ s in
    let new = front_same opening 0 0 q y y' full e in
    let bare = front_same opening 0 0 q y [] full e in
    split 0 0 q (123 ∷ y')
    ∙ ap (λ n. tokens_in_front 0 0 q (123 ∷ y') ++ tokens_from n (0 + length q) (123 ∷ y')) new.0
    ∙ ap (λ l. l ++ tokens_from 0 (0 + length q) (123 ∷ y')) (new.1 ∙ sym bare.1)
    ∙ ap (λ l. tokens_in_front 0 0 q (123 ∷ []) ++ l)
    (ap (λ k. tokens_from 0 k (123 ∷ y')) (omega arith) ∙ stop_step opening (length q) y' (begins_inside m' s h.begins)
    ∙ ap (λ l. record { kind = kind.OpenDelim; text = 123 ∷ []; at = length q } ∷ l) (inside m' s (suc (length q)) h))

-- ---- a text that ends with a token of one byte

pub own : (o : Stop) (at : ℕ) (w y : List ℕ) → EndsAlone w o → is_continuation (slice_index y 0) ≡ false
    → tokens_from 0 at (w ++ stop o ∷ y) ≡ tokens_in_front 0 at w (stop o ∷ []) ++ stop_at o (at + length w) ∷ tokens_from 0 (suc (at + length w)) y
own o at w y h e =
    let same = front_same o 0 at w [] y h.full h.ends in
    split 0 at w (stop o ∷ y)
    ∙ ap (λ n. tokens_in_front 0 at w (stop o ∷ y) ++ tokens_from n (at + length w) (stop o ∷ y)) same.0
    ∙ ap (λ l. l ++ tokens_from 0 (at + length w) (stop o ∷ y)) same.1
    ∙ ap (λ l. tokens_in_front 0 at w (stop o ∷ []) ++ l) (stop_step o (at + length w) y e)

-- its tokens are the first of every longer text
pub tokens_first : (o : Stop) (at : ℕ) (w y : List ℕ) → EndsAlone w o → is_continuation (slice_index y 0) ≡ false
    → tokens_from 0 at (w ++ stop o ∷ y) ≡ tokens_from 0 at (w ++ stop o ∷ []) ++ tokens_from 0 (at + suc (length w)) y
tokens_first o at w y h e =
    let place : suc (at + length w) ≡ at + suc (length w) = omega arith in
    own o at w y h e
    ∙ ap (λ n. tokens_in_front 0 at w (stop o ∷ []) ++ stop_at o (at + length w) ∷ tokens_from 0 n y) place
    ∙ sym (append_assoc (tokens_in_front 0 at w (stop o ∷ [])) (stop_at o (at + length w) ∷ []) (tokens_from 0 (at + suc (length w)) y))
    ∙ ap (λ l. l ++ tokens_from 0 (at + suc (length w)) y) (sym (own o at w [] h refl))
