-- The tokens of a whole text with braces in it.
use Rattle.std.proofs.Common.{◌≡◌, inl, inr, ℕ, suc, ◌+◌, ◌-◌, ◌==◌, ◌||◌, ◌&&◌, true, false, Some, None, List, [], ◌∷◌, ◌++◌, length, refl, ap, ◌∙◌, sym, arith, map, slice_index, not, nat_le, nat_lt, filter}
use Rattle.rust_lexer.proofs.Common.{filter-append, nat_tests, TokenKind, is_wide_start, run_length, first_cut, frontmatter, Piece, symbol_from, symbol_of, has_mark, is_blank, is_bracket_next, is_shebang, is_significant, is_significant_kind, piece, tokens, tokens_from, whole_length, opening, is_fence, is_full, overhang, tokens_in_front, moved_piece, braces_from, StandsAlone}
use Rattle.rust_lexer.specs.declared.bytes.Class.TheVariants as class
use Rattle.rust_lexer.specs.declared.kind.TokenKind.TheVariants as kind
use Rattle.rust_lexer.specs.Inner.{begins_front}
use Rattle.rust_lexer.proofs.Cases.{when}
use Rattle.rust_lexer.proofs.Depths.{symbol_by}
use Rattle.rust_lexer.proofs.StopBytes.{upto, full_behind, run_same}
use Rattle.rust_lexer.proofs.TextsApart.{apart}

-- ---- what may stand in front of a text

mark_same : (q y y' : List ℕ) → has_mark (upto opening q y') ≡ has_mark (upto opening q y)
mark_same [] y y' = refl
mark_same (a ∷ []) y y' = when (a == 239) (λ e. rw e refl) (λ e. rw e refl)
mark_same (a ∷ b ∷ []) y y' = when (a == 239 && b == 187) (λ e. rw e refl) (λ e. rw e refl)
mark_same (a ∷ b ∷ c ∷ q) y y' = refl

abbrev pub open_at : ℕ → Piece
open_at at = record { kind = kind.OpenDelim; text = 123 ∷ []; at = at }

bracket_same : (x l l' : List Piece) (at : ℕ) → is_bracket_next (x ++ open_at at ∷ l') ≡ is_bracket_next (x ++ open_at at ∷ l)
bracket_same [] l l' at = refl
bracket_same (t ∷ x) l l' at = when (is_blank t.kind) (λ e. rw e (bracket_same x l l' at)) (λ e. rw e refl)

shebang_same : (x l l' : List Piece) (at : ℕ) → is_shebang (x ++ open_at at ∷ l') ≡ is_shebang (x ++ open_at at ∷ l)
shebang_same [] l l' at = refl
shebang_same (t ∷ []) l l' at = refl
shebang_same (t ∷ u ∷ x) l l' at = ap (λ r. symbol_of t == 35 && (symbol_of u == 33 && not r)) (bracket_same x l l' at)

fence_same : (q y y' : List ℕ) → is_full q ≡ true → is_fence (upto opening q y') ≡ is_fence (upto opening q y)
fence_same [] y y' full = refl
fence_same (b ∷ q) y y' full =
    when (b == 10 || b == 13) (λ e. rw e (fence_same q y y' (full_behind b q full)))
    (λ e. rw e (ap (nat_le 3) (run_same class.Dash refl opening (b ∷ q) y y' full)))

no_matter : (n : ℕ) (z : List ℕ) → is_fence z ≡ false → frontmatter n z ≡ None
no_matter n [] e = refl
no_matter n (b ∷ z) e =
    when (b == 10 || b == 13) (λ t. rw t (no_matter (suc n) z (rw t at e)))
    (λ t. let few : nat_le 3 (run_length class.Dash (b ∷ z)) ≡ false = rw t at e in let less : nat_lt (run_length class.Dash (b ∷ z)) 3 ≡ true = grind (arith, nat_tests) in rw (t, less) refl)

-- a text with neither a byte order mark, a shebang line nor frontmatter in front, in which a `{` stands as a token behind these bytes
pub record OpensAt (q y : List ℕ) : Type 0 where
  pub full : is_full q ≡ true
  pub one : overhang 0 q (123 ∷ y) ≡ 0
  pub plain : has_mark (q ++ 123 ∷ y) ≡ false
  pub bare : is_shebang (tokens_from 0 0 (q ++ 123 ∷ y)) ≡ false
  pub unfenced : is_fence (q ++ 123 ∷ y) ≡ false

pub plain_is : (text : List ℕ) → has_mark text ≡ false → is_shebang (tokens_from 0 0 text) ≡ false → is_fence text ≡ false → tokens text ≡ tokens_from 0 0 text
unfolding tokens
plain_is text e f g = rw (e, f, no_matter 0 text g) refl

-- what begins a text tells that nothing stands in front alone
pub bare_is : (b : ℕ) (z : List ℕ) → begins_front b ≡ false → tokens_from 0 0 (b ∷ z) ≡ tokens (b ∷ z)
bare_is b z e =
    let mark : has_mark (b ∷ z) ≡ false = grind (arith, nat_tests) in
    let feed : (b == 10 || b == 13) ≡ false = grind (arith, nat_tests) in
    let dash : (b == 45) ≡ false = grind (arith, nat_tests) in
    let fence : is_fence (b ∷ z) ≡ false = rw (feed, dash) refl in
    let hash : (b == 35) ≡ false = grind (arith, nat_tests) in
    let other : (symbol_of (piece (first_cut b z) 0 b z) == 35) ≡ false =
    elim (symbol_by (first_cut b z).kind b) [ inl same ↦ rw (same, hash) refl | inr none ↦ rw none refl ] in
    let bare : is_shebang (tokens_from 0 0 (b ∷ z)) ≡ false = rw other refl in
    sym (plain_is (b ∷ z) mark bare fence)

unfoldable pub inside_of : ℕ → List ℕ → List Piece
inside_of at m = map (moved_piece (suc at)) (tokens_in_front 0 0 m (125 ∷ []))

from_close : ℕ → List ℕ → List ℕ → List Piece
from_close at m s = map (moved_piece (suc at + length m)) (tokens_from 0 0 (125 ∷ s))

apart_is : (q m m' s : List ℕ) → OpensAt q (m ++ 125 ∷ s) → StandsAlone m'
    → tokens_from 0 0 (q ++ 123 ∷ (m' ++ 125 ∷ s)) ≡ tokens_in_front 0 0 q (123 ∷ []) ++ open_at (length q) ∷ (inside_of (length q) m' ++ from_close (length q) m' s)
unfolding inside_of from_close
apart_is q m m' s o h = apart q m m' s o.full o.one h

tokens_apart : (q m m' s : List ℕ) → OpensAt q (m ++ 125 ∷ s) → StandsAlone m → StandsAlone m'
    → tokens (q ++ 123 ∷ (m' ++ 125 ∷ s)) ≡ tokens_in_front 0 0 q (123 ∷ []) ++ open_at (length q) ∷ (inside_of (length q) m' ++ from_close (length q) m' s)
tokens_apart q m m' s o h h' =
    let old = apart_is q m m s o h in
    let new = apart_is q m m' s o h' in
    let bare : is_shebang (tokens_from 0 0 (q ++ 123 ∷ (m' ++ 125 ∷ s))) ≡ false =
    ap is_shebang new ∙ shebang_same (tokens_in_front 0 0 q (123 ∷ [])) (inside_of (length q) m ++ from_close (length q) m s) (inside_of (length q) m' ++ from_close (length q) m' s) (length q)
    ∙ ap is_shebang (sym old) ∙ o.bare in
    plain_is (q ++ 123 ∷ (m' ++ 125 ∷ s)) (mark_same q (m ++ 125 ∷ s) (m' ++ 125 ∷ s) ∙ o.plain) bare (fence_same q (m ++ 125 ∷ s) (m' ++ 125 ∷ s) o.full ∙ o.unfenced) ∙ new

-- ---- those that count

pub filter_moved : (d : ℕ) (ts : List Piece) → filter is_significant (map (moved_piece d) ts) ≡ map (moved_piece d) (filter is_significant ts)
filter_moved d [] = refl
filter_moved d (t ∷ ts) = when (is_significant_kind t.kind) (λ e. rw e (ap (λ l. moved_piece d t ∷ l) (filter_moved d ts))) (λ e. rw e (filter_moved d ts))

passed_symbol : (k : TokenKind) (b : ℕ) → is_significant_kind k ≡ false → symbol_from k b ≡ 0
passed_symbol kind.OpenDelim b e = absurd cc
passed_symbol kind.CloseDelim b e = absurd cc
passed_symbol kind.Punct b e = absurd cc
passed_symbol _ b e = refl

braces_counted : (n : ℕ) (ts : List Piece) → braces_from n (filter is_significant ts) ≡ braces_from n ts
braces_counted n [] = refl
braces_counted n (t ∷ ts) =
    when (is_significant_kind t.kind)
    (λ e. rw e
    (when (symbol_of t == 123) (λ f. rw f (braces_counted (suc n) ts))
    (λ f. when (symbol_of t == 125) (λ g. when (n == 0) (λ i. rw (f, g, i) refl) (λ i. rw (f, g, i) (braces_counted (n - 1) ts))) (λ g. rw (f, g) (braces_counted n ts)))))
    (λ e. let none : symbol_of t ≡ 0 = passed_symbol t.kind (slice_index t.text 0) e in rw (e, none) (braces_counted n ts))

braces_moved : (d n : ℕ) (ts : List Piece) → braces_from n (map (moved_piece d) ts) ≡ braces_from n ts
braces_moved d n [] = refl
braces_moved d n (t ∷ ts) =
    when (symbol_of t == 123) (λ f. rw f (braces_moved d (suc n) ts))
    (λ f. when (symbol_of t == 125) (λ g. when (n == 0) (λ i. rw (f, g, i) refl) (λ i. rw (f, g, i) (braces_moved d (n - 1) ts))) (λ g. rw (f, g) (braces_moved d n ts)))

-- the tokens that count between braces
unfoldable pub body : ℕ → List ℕ → List Piece
body at m = filter is_significant (inside_of at m)

pub body_matched : (at : ℕ) (m : List ℕ) → StandsAlone m → braces_from 0 (body at m) ≡ Some 0
unfolding body inside_of
body_matched at m h = braces_counted 0 (map (moved_piece (suc at)) (tokens_in_front 0 0 m (125 ∷ []))) ∙ braces_moved (suc at) 0 (tokens_in_front 0 0 m (125 ∷ [])) ∙ h.matched

-- the `}` and the tokens behind it, in the text from the `}` on
unfoldable pub close_of : List ℕ → Piece
close_of s = piece (first_cut 125 s) 0 125 s

unfoldable pub left_of : List ℕ → List Piece
left_of s = filter is_significant (tokens_from (whole_length (first_cut 125 s) s) 1 s)

pub close_symbol : (s : List ℕ) → symbol_of (close_of s) ≡ 125
unfolding close_of first_cut is_wide_start
close_symbol s = refl

close_counts : (s : List ℕ) → is_significant (close_of s) ≡ true
unfolding close_of first_cut is_wide_start
close_counts s = refl

from_close_counted : (at : ℕ) (m s : List ℕ) → filter is_significant (from_close at m s) ≡ moved_piece (suc at + length m) (close_of s) ∷ map (moved_piece (suc at + length m)) (left_of s)
unfolding from_close close_of left_of
from_close_counted at m s =
    filter_moved (suc at + length m) (tokens_from 0 0 (125 ∷ s))
    ∙ ap (map (moved_piece (suc at + length m))) (let k : filter is_significant (tokens_from 0 0 (125 ∷ s)) ≡ close_of s ∷ left_of s = rw (close_counts s) refl in k)

-- the tokens that count of a text with braces in it
unfoldable pub front_of : List ℕ → List Piece
front_of q = filter is_significant (tokens_in_front 0 0 q (123 ∷ []))

pub counted_apart : (q m m' s : List ℕ) → OpensAt q (m ++ 125 ∷ s) → StandsAlone m → StandsAlone m'
    → filter is_significant (tokens (q ++ 123 ∷ (m' ++ 125 ∷ s)))
    ≡ front_of q ++ open_at (length q) ∷ (body (length q) m' ++ moved_piece (suc (length q) + length m') (close_of s) ∷ map (moved_piece (suc (length q) + length m')) (left_of s))
unfolding front_of body
counted_apart q m m' s o h h' =
    let ms = inside_of (length q) m' in
    let cs = from_close (length q) m' s in
    ap (filter is_significant) (tokens_apart q m m' s o h h')
    ∙ filter-append is_significant (tokens_in_front 0 0 q (123 ∷ [])) (open_at (length q) ∷ (ms ++ cs))
    ∙ ap (λ l. filter is_significant (tokens_in_front 0 0 q (123 ∷ [])) ++ open_at (length q) ∷ l) (filter-append is_significant ms cs ∙ ap (λ l. filter is_significant ms ++ l) (from_close_counted (length q) m' s))
