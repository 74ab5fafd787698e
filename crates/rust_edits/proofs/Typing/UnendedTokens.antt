-- Whether the last token is ended is the same in two texts that differ between two braces, and where it stands is moved.
use Rattle.std.proofs.Common.{◌≡◌, ◌≤◌, ℕ, zero, suc, ◌+◌, ◌==◌, ◌||◌, ◌&&◌, true, false, Option, None, List, [], ◌∷◌, ◌++◌, length, take, refl, ap, sym, ◌∙◌, map, arith}
use Rattle.rust_edits.proofs.Common.{not, EditionYear, Stop, opening, StandsAlone, is_fence, tokens_in_front, moved_piece, is_wide_start, first_cut, Piece, symbol_of, is_terminated, has_mark, is_blank, is_bracket_next, is_shebang, piece, tokens_from, whole_length, end_of, place_if_open, last_unended, tokens_of, with_body, OpensAt, common_steps, nat_tests, apart, stop_at, open_at, close_of, plain_is, when, IsAlike, neither, both, Moves, moves}
use Rattle.rust_edits.proofs.Typing.Texts.{IsMoved}

-- ---- what may stand in front of a text

module _ (s : ℕ) (feed : (s == 10 || s == 13) ≡ false) (dash : (s == 45) ≡ false) where
  pub fence_by : (x y y' : List ℕ) → is_fence (x ++ s ∷ y') ≡ is_fence (x ++ s ∷ y)
  fence_by [] y y' = rw (feed, dash) refl
  fence_by (b ∷ []) y y' =
      when (b == 10 || b == 13) (λ e. rw e (fence_by [] y y')) (λ e. when (b == 45) (λ f. rw (e, f, dash) refl) (λ f. rw (e, f) refl))
  fence_by (b ∷ c ∷ []) y y' =
      when (b == 10 || b == 13) (λ e. rw e (fence_by (c ∷ []) y y'))
      (λ e. when (b == 45) (λ f. when (c == 45) (λ g. rw (e, f, g, dash) refl) (λ g. rw (e, f, g) refl)) (λ f. rw (e, f) refl))
  fence_by (b ∷ c ∷ d ∷ x) y y' =
      when (b == 10 || b == 13) (λ e. rw e (fence_by (c ∷ d ∷ x) y y'))
      (λ e. when (b == 45)
      (λ f. when (c == 45) (λ g. when (d == 45) (λ i. rw (e, f, g, i) (grind (arith, nat_tests))) (λ i. rw (e, f, g, i) refl)) (λ g. rw (e, f, g) refl))
      (λ f. rw (e, f) refl))

pub mark_by : (s : ℕ) → (s == 239) ≡ false → (s == 187) ≡ false → (x y y' : List ℕ) → has_mark (x ++ s ∷ y') ≡ has_mark (x ++ s ∷ y)
mark_by s e f x y y' = grind (arith, common_steps)

bracket_on : (o : Stop) (at : ℕ) (xs l l' : List Piece) → is_bracket_next (xs ++ stop_at o at ∷ l') ≡ is_bracket_next (xs ++ stop_at o at ∷ l)
bracket_on o at (t ∷ xs) l l' = when (is_blank t.kind) (λ e. rw e (bracket_on o at xs l l')) (λ e. rw e refl)
bracket_on opening at _ l l' = refl
bracket_on _ at _ l l' = refl

pub shebang_on : (o : Stop) (at : ℕ) (xs l l' : List Piece) → is_shebang (xs ++ stop_at o at ∷ l') ≡ is_shebang (xs ++ stop_at o at ∷ l)
shebang_on o at (t ∷ u ∷ xs) l l' = ap (λ r. symbol_of t == 35 && (symbol_of u == 33 && not r)) (bracket_on o at xs l l')
shebang_on opening at _ l l' = refl
shebang_on _ at _ l l' = refl

-- ---- the last token

pub last_append : (last : Option ℕ) (xs ys : List Piece) → last_unended last (xs ++ ys) ≡ last_unended (last_unended last xs) ys
last_append last [] ys = refl
last_append last (x ∷ xs) ys = last_append (place_if_open x) xs ys

close_ended : (s : List ℕ) → is_terminated (piece (first_cut 125 s) 0 125 s) ≡ true
unfolding first_cut is_wide_start
close_ended s = refl

-- the tokens behind the `}`
abbrev later : List ℕ → List Piece
later s = tokens_from (whole_length (first_cut 125 s) s) 1 s

unended_is : (edition : EditionYear) (q m m' s : List ℕ) → OpensAt q (m ++ 125 ∷ s) → StandsAlone m → StandsAlone m'
    → (tokens_of edition (with_body q m' s)).unended ≡ last_unended None (map (moved_piece (suc (length q) + length m')) (later s))
unfolding tokens_of
unended_is edition q m m' s o h h' =
    let y = m ++ 125 ∷ s in
    let y' = m' ++ 125 ∷ s in
    let d = suc (length q) + length m' in
    let close = piece (first_cut 125 s) 0 125 s in
    let first = tokens_in_front 0 0 q (123 ∷ []) in
    let within = map (moved_piece (suc (length q))) (tokens_in_front 0 0 m' (125 ∷ [])) in
    let behind = map (moved_piece d) (tokens_from 0 0 (125 ∷ s)) in
    let old = apart q m m s o.full o.one h in
    let new = apart q m m' s o.full o.one h' in
    let bare : is_shebang (tokens_from 0 0 (q ++ 123 ∷ y')) ≡ false = ap is_shebang new ∙ shebang_on opening (length q) first _ (within ++ behind) ∙ ap is_shebang (sym old) ∙ o.bare in
    let all = plain_is (q ++ 123 ∷ y') (mark_by 123 refl refl q y y' ∙ o.plain) bare (fence_by 123 refl refl q y y' ∙ o.unfenced) ∙ new in
    let ended = close_ended s in
    let none : place_if_open (moved_piece d close) ≡ None = rw ended refl in
    ap (last_unended None) all ∙ last_append None first (open_at (length q) ∷ (within ++ behind)) ∙ last_append None within behind ∙ ap (λ l. last_unended l (map (moved_piece d) (later s))) none

module _ (at low by by_new : ℕ) where
  place_alike : (t : Piece) → low ≤ t.at → IsAlike (Moves at low by by_new) (place_if_open (moved_piece by t)) (place_if_open (moved_piece by_new t))
  place_alike t h = when (is_terminated t) (λ e. rw e neither) (λ e. rw e (both (moves t.at h refl refl)))

  last_alike : (left here : ℕ) (z : List ℕ) (o o' : Option ℕ) → low ≤ here + left → IsAlike (Moves at low by by_new) o o'
      → IsAlike (Moves at low by by_new) (last_unended o (map (moved_piece by) (tokens_from left here z))) (last_unended o' (map (moved_piece by_new) (tokens_from left here z)))
  last_alike (suc left) here (b ∷ z) o o' l h = last_alike left (suc here) z o o' (omega arith) h
  last_alike zero here (b ∷ z) o o' l h =
      let t = piece (first_cut b z) here b z in
      last_alike (whole_length (first_cut b z) z) (suc here) z (place_if_open (moved_piece by t)) (place_if_open (moved_piece by_new t)) (omega arith) (place_alike t (omega arith))
  last_alike _ here [] o o' l h = h

take_le : (n : ℕ) (l : List ℕ) → length (take n l) ≤ n
take_le zero l = omega arith
take_le (suc n) [] = omega arith
take_le (suc n) (b ∷ l) = let more = take_le n l in omega arith

close_end : (s : List ℕ) → end_of (close_of s) ≤ 1 + whole_length (first_cut 125 s) s
unfolding close_of
close_end s = let short = take_le (whole_length (first_cut 125 s) s) s in omega (arith, short)

pub unended_alike : (edition : EditionYear) (q m m' s : List ℕ) → OpensAt q (m ++ 125 ∷ s) → StandsAlone m → StandsAlone m'
    → IsAlike (IsMoved q m m' s) (tokens_of edition (with_body q m s)).unended (tokens_of edition (with_body q m' s)).unended
unended_alike edition q m m' s o h h' =
    let by = suc (length q) + length m in
    let by_new = suc (length q) + length m' in
    rw (unended_is edition q m m s o h h, unended_is edition q m m' s o h h')
    (last_alike (length q) (end_of (close_of s)) by by_new (whole_length (first_cut 125 s) s) 1 s None None (close_end s) neither)
