-- Where the tokens of a use tree end.
use Rattle.source_imports.proofs.Common.{◌≡◌, ◌<◌, ◌≤◌, ◌+◌, ◌-◌, ◌++◌, ◌∙◌, ℕ, suc, List, [], ◌∷◌, length, length-append, Option, Some, None, refl, ap, arith, Trees}
use Rattle.std.specs.Prelude.{zero, ◌^◌, unwrap_or}
use Rattle.rust_lexer.specs.Piece.{Piece}
use Rattle.rust_lexer.specs.Tokens.{AreInPlace, text_of}
use Rattle.rust_cursor.specs.Tokens.{end_of}
use Rattle.rust_paths.specs.declared.names.TextRange.{TextRange}
use Rattle.rust_items.specs.MemberLists.{cut_out}
use Rattle.rust_items.proofs.MemberCuts.{cut_length}
use Rattle.source_rows.specs.Labels.{text_at}
use Rattle.source_imports.specs.Removals.{own_removal, removal}
use Rattle.source_listing.specs.Uses.{tree_start}

-- tokens end before a place
abbrev pub AreWithin : ℕ → List Piece → Type 0
AreWithin end [] = Unit {0}
AreWithin end (t ∷ ts) = (end_of t ≤ end) × AreWithin end ts

within_from : (end at : ℕ) (ts : List Piece) → AreInPlace at ts → at + length (text_of ts) ≤ end → AreWithin end ts
within_from end at [] p h = tt
within_from end at (t ∷ ts) p h =
    let here : t.at ≡ at = p.0 in
    let both : length (t.text ++ text_of ts) ≡ length t.text + length (text_of ts) = length-append t.text (text_of ts) in
    (omega arith, within_from end (at + length t.text) ts p.1 (omega arith))

-- those of a text do
pub all_within : (text : List ℕ) (ts : List Piece) → AreInPlace 0 ts → text_of ts ≡ text → AreWithin (length text) ts
all_within text ts p e =
    let same : length (text_of ts) ≡ length text = ap length e in
    within_from (length text) 0 ts p (omega arith)

-- what stands in a range is no further in the text than the range
part_of : (text : List ℕ) (range : TextRange) (part : Option (List ℕ)) → cut_out text range ≡ part → range.start < 2 ^ 64 → range.end < 2 ^ 64 → range.start + length (unwrap_or part []) < 2 ^ 64
part_of text range None e s h = omega arith
part_of text range (Some part) e s h = let long : length part + range.start ≡ range.end = (cut_length text part range e).0 in omega arith

pub part_fits : (text : List ℕ) (range : TextRange) → range.start < 2 ^ 64 → range.end < 2 ^ 64 → range.start + length (text_at text range) < 2 ^ 64
part_fits text range s h = part_of text range (cut_out text range) refl s h

-- ---- from one tree to the one before it

pub removal_own : (text : List ℕ) (t : Trees) (index : ℕ) (range : TextRange) → 0 < index
    → own_removal text (tree_start (index - 1) t) (tree_start index t) t.place.range.end ≡ Some range → removal text t index ≡ range
removal_own text t zero range h e = absurd (omega arith)
removal_own text t (suc n) range h e = let less : suc n - 1 ≡ n = omega arith in ap (λ o. unwrap_or o (removal text t n)) (rw less at e)

pub removal_around : (text : List ℕ) (t : Trees) (index : ℕ) → 0 < index
    → own_removal text (tree_start (index - 1) t) (tree_start index t) t.place.range.end ≡ None → removal text t index ≡ removal text t (index - 1)
removal_around text t zero h e = absurd (omega arith)
removal_around text t (suc n) h e = let less : suc n - 1 ≡ n = omega arith in ap (λ o. unwrap_or o (removal text t n)) (rw less at e) ∙ ap (removal text t) (omega arith)
