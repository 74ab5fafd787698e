-- Texts that stand apart are mended apart, where the first matches or the second begins with an item.
use Rattle.std.proofs.Common.{◌≡◌, refl, ◌∙◌, ap, sym, subst, ℕ, ◌≤◌, ◌+◌, ◌-◌, ◌==◌, true, List, [], ◌∷◌, ◌++◌, length, map, take, drop, arith, append_assoc, length-append, length-drop, slice_range, IsCharBoundary, IsUtf8}
use Rattle.std.proofs.Math.Seq.{drop-append-add, take-append-add}
use Rattle.std.proofs.lemmas.Grind.{flat_map-append}
use Rattle.std.proofs.lemmas.Bool.Decides.{nat_tests}
use Rattle.std.proofs.lemmas.List.{drop-append-le, take-append-le}
use Rattle.std.specs.List.{flat_map}
use Rattle.rust_lexer.specs.Tokens.{tokens}
use Rattle.rust_lexer.proofs.Cases.{when}
use Rattle.rust_mended.specs.declared.edit.Edit.{Edit}
use Rattle.rust_mended.specs.declared.edit.EditKind.{EditKind}
use Rattle.rust_mended.specs.declared.edit.EditKind.TheVariants as edit
use Rattle.rust_mended.specs.declared.mark.Mark.{Mark}
use Rattle.rust_mended.specs.declared.mark.MarkKind.{MarkKind}
use Rattle.rust_mended.specs.declared.mark.MarkKind.TheVariants as mark
use Rattle.rust_mended.specs.Apart.{StandApart, begin_with_item, behind_further, edit_further, is_item_mark, mark_further, seam}
use Rattle.rust_mended.specs.Marks.{last_end, marks, text_begin}
use Rattle.rust_mended.specs.Mended.{all_written, closers_reaching}
use Rattle.rust_mended.specs.Steps.{EditsFit}
use Rattle.rust_mended.specs.Texts.{edit_moved, edits, is_matched, mended_text, mending_edit, past_by, past_edit, sign, with_edits}
use Rattle.rust_mended.proofs.ItemsAtLineStarts.{written_behind}
use Rattle.rust_mended.proofs.FurtherMarks.{edits_further, reaching_on, same_on, behind_on, IsSome}
use Rattle.rust_mended.proofs.Puts.{text_edits_fit}
use Rattle.rust_mended.proofs.Seam.{all_last, all_marks}
use Rattle.rust_mended.proofs.MatchedMarks.{edits_behind_matched, marks_match, text_edits, text_stays}

-- ---- edits of two texts

-- an edit so many bytes further on
abbrev pub on : ℕ → Edit → Edit
on n = edit_moved (λ at. at + n)

past_on : (n : ℕ) (k : EditKind) (at : ℕ) → past_by k (at + n) ≡ past_by k at + n
past_on n (edit.Put b) at = refl
past_on n edit.Leave at = omega arith
past_on n (edit.Turn b) at = omega arith

drop_on : (x s : List ℕ) (at : ℕ) → drop (at + length x) (x ++ s) ≡ drop at s
drop_on x s at =
    let same : at + length x ≡ length x + at = omega arith in
    ap (λ n. drop n (x ++ s)) same ∙ drop-append-add x s at

-- a part of the second
slice_on : (x s : List ℕ) (at to : ℕ) → slice_range (x ++ s) (at + length x) (to + length x) ≡ slice_range s at to
slice_on x s at to =
    let same : (to + length x) - (at + length x) ≡ to - at = omega arith in
    ap (λ n. take n (drop (at + length x) (x ++ s))) same ∙ ap (take (to - at)) (drop_on x s at)

edits_second : (x s : List ℕ) (at : ℕ) (es : List Edit) → with_edits (x ++ s) (at + length x) (map (on (length x)) es) ≡ with_edits s at es
edits_second x s at [] = drop_on x s at
edits_second x s at (e ∷ es) =
    ap (λ l. l ++ (sign e.kind ∷ with_edits (x ++ s) (past_by e.kind (e.at + length x)) (map (on (length x)) es))) (slice_on x s at e.at)
    ∙ ap (λ n. slice_range s at e.at ++ (sign e.kind ∷ with_edits (x ++ s) n (map (on (length x)) es))) (past_on (length x) e.kind e.at)
    ∙ ap (λ l. slice_range s at e.at ++ (sign e.kind ∷ l)) (edits_second x s (past_by e.kind e.at) es)

-- from a place of the first on
edits_over : (x s : List ℕ) (at : ℕ) (es : List Edit) → at ≤ length x → with_edits (x ++ s) at (map (on (length x)) es) ≡ drop at x ++ with_edits s 0 es
edits_over x s at [] l = drop-append-le at x s l
edits_over x s at (e ∷ es) l =
    let rest : List ℕ = sign e.kind ∷ with_edits s (past_by e.kind e.at) es in
    let long = length-drop at x in
    let same : (e.at + length x) - at ≡ length (drop at x) + e.at = omega (arith, long, l) in
    let whole : e.at ≡ e.at - 0 = omega arith in
    ap (λ n. slice_range (x ++ s) at (e.at + length x) ++ (sign e.kind ∷ with_edits (x ++ s) n (map (on (length x)) es))) (past_on (length x) e.kind e.at)
    ∙ ap (λ l. slice_range (x ++ s) at (e.at + length x) ++ (sign e.kind ∷ l)) (edits_second x s (past_by e.kind e.at) es)
    ∙ ap (λ l. l ++ rest) (ap (λ n. take n (drop at (x ++ s))) same ∙ ap (take (length (drop at x) + e.at)) (drop-append-le at x s l) ∙ take-append-add (drop at x) s e.at ∙ ap (λ n. drop at x ++ take n s) whole)
    ∙ append_assoc (drop at x) (slice_range s 0 e.at) rest

-- a part of the first
slice_first : (q y : List ℕ) (at to : ℕ) → at ≤ to → to ≤ length q → slice_range (q ++ y) at to ≡ slice_range q at to
slice_first q y at to l m =
    let long = length-drop at q in
    ap (take (to - at)) (drop-append-le at q y (omega arith)) ∙ take-append-le (to - at) (drop at q) y (omega (arith, long, l, m))

pub edits_both : (P : ℕ → Type 0) (q y rest : List ℕ) (gs : List Edit) → ((n : ℕ) → P n → n ≤ length q) → ((at : ℕ) → at ≤ length q → with_edits (q ++ y) at gs ≡ drop at q ++ rest)
    → (at : ℕ) (es : List Edit) → at ≤ length q → EditsFit P at es → with_edits (q ++ y) at (es ++ gs) ≡ with_edits q at es ++ rest
edits_both P q y rest gs most f at [] l h = f at l
edits_both P q y rest gs most f at (e ∷ es) l h =
    ap (λ l. l ++ (sign e.kind ∷ with_edits (q ++ y) (past_edit e) (es ++ gs))) (slice_first q y at e.at h.0 (most e.at h.1.0))
    ∙ ap (λ l. slice_range q at e.at ++ (sign e.kind ∷ l)) (edits_both P q y rest gs most f (past_edit e) es (most (past_edit e) h.1.1.0) h.1.1.1)
    ∙ sym (append_assoc (slice_range q at e.at) (sign e.kind ∷ with_edits q (past_edit e) es) rest)

module _ (q z s : List ℕ) where
  abbrev all : List ℕ
  all = q ++ (z ++ 10 ∷ s)

  abbrev first : List ℕ
  first = q ++ (z ++ 10 ∷ [])

  parts : all ≡ first ++ s
  parts = ap (λ x. q ++ x) (sym (append_assoc z (10 ∷ []) s)) ∙ sym (append_assoc q (z ++ 10 ∷ []) s)

  long : length first ≡ seam q z
  long = length-append q (z ++ 10 ∷ []) ∙ ap (λ n. length q + n) (length-append z (10 ∷ []))

  over : (es : List Edit) (at : ℕ) → at ≤ length q → with_edits all at (map (edit_further q z) es) ≡ drop at q ++ (z ++ 10 ∷ with_edits s 0 es)
  over es at l =
      let m : at ≤ length first = omega (arith, long, l) in
      ap (λ x. with_edits x at (map (on (seam q z)) es)) parts
      ∙ ap (λ n. with_edits (first ++ s) at (map (on n) es)) (sym long)
      ∙ edits_over first s at es m
      ∙ ap (λ x. x ++ with_edits s 0 es) (drop-append-le at q (z ++ 10 ∷ []) l)
      ∙ append_assoc (drop at q) (z ++ 10 ∷ []) (with_edits s 0 es)
      ∙ ap (λ x. drop at q ++ x) (append_assoc z (10 ∷ []) (with_edits s 0 es))

  text_both : EditsFit (IsCharBoundary q) 0 (edits q) → edits all ≡ edits q ++ map (edit_further q z) (edits s) → mended_text all ≡ mended_text q ++ (z ++ 10 ∷ mended_text s)
  unfolding mended_text
  text_both h e =
      ap (with_edits all 0) e
      ∙ edits_both (IsCharBoundary q) q (z ++ 10 ∷ s) (z ++ 10 ∷ with_edits s 0 (edits s)) (map (edit_further q z) (edits s)) (λ n h. h.0) (over (edits s)) 0 (edits q) (omega arith) h

  module _ (h : StandApart q z s) where
    all_edits : edits all ≡ flat_map mending_edit (all_written (behind_further q z (last_end s)) (marks q ++ map (mark_further q z) (marks s)))
    unfolding edits
    all_edits =
        ap (λ n. flat_map mending_edit (all_written n (marks all))) (all_last q z s h)
        ∙ ap (λ ms. flat_map mending_edit (all_written (behind_further q z (last_end s)) ms)) (all_marks q z s h)

    -- ---- behind a text whose brackets match

    pub matched_edits : is_matched q ≡ true → edits all ≡ map (edit_further q z) (edits s)
    unfolding is_matched
    matched_edits m =
        all_edits
        ∙ edits_behind_matched (behind_further q z (last_end s)) (marks q) (map (mark_further q z) (marks s)) (marks_match text_begin (tokens q) [] ∙ m)
        ∙ edits_further q z s

    pub matched_text : is_matched q ≡ true → mended_text all ≡ q ++ (z ++ 10 ∷ mended_text s)
    matched_text m =
        let none = text_edits q m in
        text_both (subst (λ es. EditsFit (IsCharBoundary q) 0 es) (sym none) tt) (matched_edits m ∙ ap (λ es. es ++ map (edit_further q z) (edits s)) (sym none))
        ∙ ap (λ x. x ++ (z ++ 10 ∷ mended_text s)) (text_stays q m)

    -- ---- an item behind a text

    item_kind : (k : MarkKind) → is_item_mark k ≡ true → k ≡ mark.Item
    item_kind mark.Item e = refl
    item_kind (mark.Open b) e = absurd cc
    item_kind (mark.Close b) e = absurd cc

    item_of : (t : Mark) (ts : List Mark) → begin_with_item (t ∷ ts) ≡ true → (t.kind ≡ mark.Item) × ((t.indent ≡ 0) × (t.behind ≡ 0))
    item_of t ts e =
        when (is_item_mark t.kind)
        (λ a. when (t.indent == 0)
        (λ b. when (t.behind == 0) (λ c. (item_kind t.kind a, (grind (arith, nat_tests), grind (arith, nat_tests)))) (λ c. absurd cc))
        (λ b. absurd cc))
        (λ a. absurd cc)

    further_reaching : (ts : List Mark) → closers_reaching (map (mark_further q z) ts) ≡ map (mark_further q z) (closers_reaching ts)
    further_reaching ts = reaching_on (λ n. n + seam q z) (behind_further q z) IsSome (same_on (seam q z)) (behind_on q z) ts

    behind_item : (ts : List Mark) → begin_with_item ts ≡ true → closers_reaching ts ≡ []
        → all_written (behind_further q z (last_end s)) (marks q ++ map (mark_further q z) ts) ≡ all_written (last_end q) (marks q) ++ all_written (behind_further q z (last_end s)) (map (mark_further q z) ts)
    behind_item [] e r = absurd cc
    behind_item (t ∷ ts) e r =
        let i = item_of t ts e in
        let none : closers_reaching (map (mark_further q z) (t ∷ ts)) ≡ [] = further_reaching (t ∷ ts) ∙ ap (map (mark_further q z)) r in
        let place : behind_further q z t.behind ≡ last_end q = ap (behind_further q z) i.1.1 in
        written_behind (behind_further q z (last_end s)) (marks q) (mark_further q z t) (map (mark_further q z) ts) i.0 i.1.0 none
        ∙ ap (λ n. all_written n (marks q) ++ all_written (behind_further q z (last_end s)) (map (mark_further q z) (t ∷ ts))) place

    pub item_edits : begin_with_item (marks s) ≡ true → closers_reaching (marks s) ≡ [] → edits all ≡ edits q ++ map (edit_further q z) (edits s)
    unfolding edits
    item_edits e r =
        all_edits
        ∙ ap (flat_map mending_edit) (behind_item (marks s) e r)
        ∙ flat_map-append mending_edit (all_written (last_end q) (marks q)) (all_written (behind_further q z (last_end s)) (map (mark_further q z) (marks s)))
        ∙ ap (λ es. flat_map mending_edit (all_written (last_end q) (marks q)) ++ es) (edits_further q z s)

    pub item_text : IsUtf8 q → begin_with_item (marks s) ≡ true → closers_reaching (marks s) ≡ [] → mended_text all ≡ mended_text q ++ (z ++ 10 ∷ mended_text s)
    item_text u e r = text_both (text_edits_fit q u) (item_edits e r)
