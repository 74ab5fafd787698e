-- A text that ends with a `;` or a `}` of its own, in a longer one.
use Rattle.rust_edits.proofs.Common.{ends_items, IsBare, slice_index, filter, EditionYear, Stop, stop, EndsAlone, is_continuation, is_significant, tokens_from, Tokens, tokens_in_front, moved_piece, Piece, symbol_of, tokens, tokens_of, at, Found, nothing_found, nat_tests, filter-append, tokens_first, tokens_moved, own, stop_at, plain_is, filter_moved, Ending, Near, near, is_last, are_ended}
use Rattle.std.proofs.Common.{◌≡◌, ◌+◌, ◌||◌, ℕ, suc, true, false, Option, List, [], ◌∷◌, ◌++◌, length, refl, sym, ap, ◌∙◌, subst, arith, map, append-nil}
use Rattle.rust_edits.proofs.ItemJoins.EndingItems.{FoundNear}

-- ---- the tokens of both

-- a text that ends with such a byte
abbrev pub ended : List ℕ → Stop → List ℕ
ended w o = w ++ stop o ∷ []

-- A part of a text that ends with a `;` or a brace that is a token, and what is behind it.
pub record IsPart (w : List ℕ) (o : Stop) (y : List ℕ) : Type 0 where
  pub ends : EndsAlone w o
  pub behind : is_continuation (slice_index y 0) ≡ false
  pub plain : IsBare (ended w o)

-- the tokens that are left of a text from the end of q on
abbrev pub tokens_behind : EditionYear → Option ℕ → List ℕ → List ℕ → Tokens
tokens_behind edition unended q z = record { past = length q; left = filter is_significant (tokens_from 0 (length q) z); unended = unended; edition = edition }

pub uneven : (left : List Piece) → false ≡ true → left ≡ []
uneven left e = absurd cc

-- how the tokens of the part stand in the text
abbrev pub part_in : EditionYear → Option ℕ → List ℕ → List ℕ → Stop → List ℕ → Ending
part_in edition u q w o y = record { by = length q; behind = filter is_significant (tokens_from 0 (length q + suc (length w)) y); unended = u; level = false; none = uneven (filter is_significant (tokens_from 0 (length q + suc (length w)) y)) }

left_is : (edition : EditionYear) (u : Option ℕ) (q w : List ℕ) (o : Stop) (y : List ℕ) → IsPart w o y
    → (tokens_behind edition u q (w ++ stop o ∷ y)).left ≡ map (moved_piece (length q)) (tokens_of edition (ended w o)).left ++ (part_in edition u q w o y).behind
unfolding tokens_of
left_is edition u q w o y p =
    let x = ended w o in
    let d = length q in
    ap (filter is_significant) (tokens_first o d w y p.ends p.behind)
    ∙ filter-append is_significant (tokens_from 0 d x) (tokens_from 0 (d + suc (length w)) y)
    ∙ ap (λ l. filter is_significant l ++ filter is_significant (tokens_from 0 (d + suc (length w)) y)) (ap (λ k. tokens_from 0 k x) (omega arith) ∙ tokens_moved d 0 0 x)
    ∙ ap (λ l. l ++ filter is_significant (tokens_from 0 (d + suc (length w)) y))
    (filter_moved d (tokens_from 0 0 x) ∙ ap (λ l. map (moved_piece d) (filter is_significant l)) (sym (plain_is x p.plain.mark p.plain.shebang p.plain.fence)))

near_of : (b : Ending) (us : Tokens) → (b.level || are_ended us.left) ≡ true → Near b (record { past = us.past + b.by; left = map (moved_piece b.by) us.left ++ b.behind; unended = b.unended; edition = us.edition }) us
near_of b us e = near us.past us.left us.unended us.edition e

pub part_near : (edition : EditionYear) (u : Option ℕ) (q w : List ℕ) (o : Stop) (y : List ℕ) → IsPart w o y → are_ended (tokens_of edition (ended w o)).left ≡ true
    → Near (part_in edition u q w o y) (tokens_behind edition u q (w ++ stop o ∷ y)) (tokens_of edition (ended w o))
unfolding tokens_of
part_near edition u q w o y p e =
    let b = part_in edition u q w o y in
    let us = tokens_of edition (ended w o) in
    let place : 0 + length q ≡ length q = omega arith in
    subst (λ (n : ℕ). Near b (record { past = n; left = (tokens_behind edition u q (w ++ stop o ∷ y)).left; unended = u; edition = edition }) us) place
    (subst (λ (l : List Piece). Near b (record { past = 0 + length q; left = l; unended = u; edition = edition }) us) (sym (left_is edition u q w o y p)) (near_of b us e))

-- ---- the last token

ended_append : (xs : List Piece) (t : Piece) → is_last (symbol_of t) ≡ true → are_ended (xs ++ t ∷ []) ≡ true
ended_append (x ∷ y ∷ xs) t e = ended_append (y ∷ xs) t e
ended_append _ t e = e

pub last_counts : (o : Stop) (at : ℕ) → is_significant (stop_at o at) ≡ true
last_counts o at = grind (arith, nat_tests)

last_symbol : (o : Stop) (at : ℕ) → symbol_of (stop_at o at) ≡ stop o
last_symbol o at = grind (arith, nat_tests)

pub last_is : (o : Stop) → ends_items o ≡ true → is_last (stop o) ≡ true
last_is o e = grind (arith, nat_tests)

pub part_ended : (edition : EditionYear) (q w : List ℕ) (o : Stop) (y : List ℕ) → IsPart w o y → is_last (stop o) ≡ true → are_ended (tokens_of edition (ended w o)).left ≡ true
unfolding tokens_of
part_ended edition q w o y p e =
    let x = ended w o in
    let before = tokens_in_front 0 0 w (stop o ∷ []) in
    let t = stop_at o (0 + length w) in
    let all : tokens x ≡ before ++ t ∷ [] = plain_is x p.plain.mark p.plain.shebang p.plain.fence ∙ own o 0 w [] p.ends refl in
    let counted : filter is_significant (t ∷ []) ≡ t ∷ [] = rw (last_counts o (0 + length w)) refl in
    ap (λ l. are_ended (filter is_significant l)) all
    ∙ ap are_ended (filter-append is_significant before (t ∷ []) ∙ ap (λ l. filter is_significant before ++ l) counted)
    ∙ ended_append (filter is_significant before) t (ap is_last (last_symbol o (0 + length w)) ∙ e)

pub start_near : (b : Ending) (f : Found) → FoundNear b f f nothing_found
start_near b f = record { rows = sym (append-nil f.rows); spans = sym (append-nil f.spans); use_trees = sym (append-nil f.use_trees); problems = sym (append-nil f.problems) }
