-- Steps of what is done in turns.
use Rattle.std.proofs.Common.{◌≡◌, ◌<◌, ◌+◌, ℕ, suc, true, false, List, [], ◌∷◌, ◌++◌, length, drop, get_or, refl, sym, ◌∙◌, arith, Option, Bool}
use Rattle.std.proofs.Math.Seq.{drop-cons}
use Rattle.source_rows.proofs.Common.{Tokens, not_first, Spacing, gap_text, is_over, spacing_behind, spaced_tokens, spaced_from}
use Rattle.hir_input.specs.declared.edition.EditionYear.{EditionYear}
use Rattle.rust_lexer.specs.Piece.{Piece}
use Rattle.rust_cursor.specs.Words.{text, is_empty, bumped}

-- ---- headers

stop_from : (is_cut : Bool) (done : List ℕ) (s : Spacing) (ts : Tokens) (left : List Piece) → is_over is_cut s.reach done ts ≡ true → spaced_from is_cut done s ts left ≡ done
stop_from is_cut done s ts [] e = refl
stop_from is_cut done s ts (t ∷ more) e = rw e refl

pub spaced_stop : (is_cut : Bool) (done : List ℕ) (s : Spacing) (ts : Tokens) → is_over is_cut s.reach done ts ≡ true → spaced_tokens is_cut done s ts ≡ done
spaced_stop is_cut done s ts e = stop_from is_cut done s ts ts.left e

more_from : (is_cut : Bool) (done : List ℕ) (s : Spacing) (past : ℕ) (left : List Piece) (u : Option ℕ) (y : EditionYear) → (let here : Tokens = record { past = past; left = left; unended = u; edition = y } in
    is_over is_cut s.reach done here ≡ false → spaced_tokens is_cut done s here ≡ spaced_tokens is_cut (done ++ (gap_text s here ++ text here)) (spacing_behind s here) (bumped here))
unfolding is_empty bumped
more_from is_cut done s past [] u y e = absurd cc
more_from is_cut done s past (t ∷ ts) u y e = rw e refl

pub spaced_more : (is_cut : Bool) (done : List ℕ) (s : Spacing) (ts : Tokens) → is_over is_cut s.reach done ts ≡ false
    → spaced_tokens is_cut done s ts ≡ spaced_tokens is_cut (done ++ (gap_text s ts ++ text ts)) (spacing_behind s ts) (bumped ts)
spaced_more is_cut done s ts e = more_from is_cut done s ts.past ts.left ts.unended ts.edition e

-- a header that is not over has a token
pub end_some : (is_cut : Bool) (reach : ℕ) (done : List ℕ) (ts : Tokens) → is_over is_cut reach done ts ≡ false → is_empty ts ≡ false
end_some is_cut reach done ts e = not_first (is_empty ts) _ e

-- ---- lists

-- what stands behind a place of a list
pub drop_next : {A : Type 0} (xs : List A) (i : ℕ) (x : A) → i < length xs → x ≡ get_or xs i x → drop i xs ≡ x ∷ drop (i + 1) xs
drop_next xs i x h e = let one : suc i ≡ i + 1 = omega arith in drop-cons xs i x h ∙ (λ k. sym e k ∷ drop (one k) xs)
