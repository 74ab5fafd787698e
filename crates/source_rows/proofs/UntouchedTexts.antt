-- Parts of a mended text in which no byte was put or replaced are text of the file.
use Rattle.std.proofs.Common.{◌≡◌, ◌∙◌, ℕ, suc, ◌≤◌, ◌<◌, ◌+◌, ◌-◌, ◌||◌, Bool, true, false, List, [], ◌∷◌, ◌++◌, length, take, drop, nat_lt, slice_range, IsCharBoundary, length-append, length-drop, Option, Some, None, option_map, is_some, unwrap_or, arith, refl, ap, sym, ⊎_elim}
use Rattle.std.proofs.Math.Seq.{drop-append-add}
use Rattle.std.proofs.lemmas.Bool.{cases_Bool}
use Rattle.std.proofs.lemmas.Bool.Decides.{nat_tests}
use Rattle.std.proofs.lemmas.List.{drop-append-le, drop-drop, drop-take, take-append-le, take-take}
use Rattle.std.specs.List.{list_any, prefix_len}
use Rattle.std.specs.Str.{IsUtf8}
use Rattle.hir_input.specs.declared.edition.EditionYear.{EditionYear}
use Rattle.hir_input.specs.declared.ids.AstIdKind.TheVariants as kind
use Rattle.rust_mended.specs.declared.edit.Edit.{Edit}
use Rattle.rust_mended.specs.declared.edit.EditKind.{EditKind}
use Rattle.rust_mended.specs.declared.edit.EditKind.TheVariants as edit
use Rattle.rust_mended.specs.Texts.{with_edits, edits, mended_text, past_by, place_back, put_by, puts, puts_from, sign}
use Rattle.rust_mended.specs.Steps.{EditsFit}
use Rattle.rust_mended.proofs.LosslessTexts.{length_slice}
use Rattle.rust_mended.proofs.Puts.{AreAbove, puts_above, text_edits_fit}
use Rattle.rust_items.proofs.MemberCuts.{cut_length}
use Rattle.rust_items.specs.LineEnds.{moved_range}
use Rattle.rust_items.specs.MemberLists.{cut_out, is_cut}
use Rattle.rust_items.specs.declared.source_file.ItemPlace.{ItemPlace}
use Rattle.rust_paths.specs.declared.names.TextRange.{TextRange}
use Rattle.source_rows.specs.Headers.{header, header_in}
use Rattle.source_rows.specs.Labels.{text_at}
use Rattle.source_rows.specs.Listed.{MemberReading, header_of, impl_header}
use Rattle.source_rows.specs.Untouched.{HasOwnHeader, front_range, header_between, is_touched, puts_behind, stands_in, written_places_from, written_places}

-- ---- parts of lists

-- a part of the first of two lists
slice_front : (x y : List ℕ) (i j : ℕ) → i ≤ j → j ≤ length x → slice_range (x ++ y) i j ≡ slice_range x i j
slice_front x y i j l m =
    let long = length-drop i x in
    ap (take (j - i)) (drop-append-le i x y (omega (arith, l, m))) ∙ take-append-le (j - i) (drop i x) y (omega (arith, long, l, m))

-- a part behind the first of two lists and one more
slice_behind : (x z : List ℕ) (b i j m n : ℕ) → i ≡ length x + suc m → j ≡ length x + suc n → slice_range (x ++ (b ∷ z)) i j ≡ slice_range z m n
slice_behind x z b i j m n e f =
    let long : j - i ≡ n - m = omega arith in
    (λ k. take (long k) (drop (e k) (x ++ (b ∷ z)))) ∙ ap (take (n - m)) (drop-append-add x (b ∷ z) (suc m))

-- a part of a part
slice_inner : (text : List ℕ) (at p i j : ℕ) → i ≤ j → j ≤ p - at → slice_range (slice_range text at p) i j ≡ slice_range text (at + i) (at + j)
slice_inner text at p i j l m =
    let whole : p - at ≡ i + (p - at - i) = omega arith in
    let long : j - i ≤ p - at - i = omega arith in
    let same : j - i ≡ (at + j) - (at + i) = omega arith in
    ap (λ n. take (j - i) (drop i (take n (drop at text)))) whole
    ∙ ap (take (j - i)) (drop-take i (p - at - i) (drop at text))
    ∙ take-take (j - i) (p - at - i) (drop i (drop at text)) long
    ∙ (λ k. take (same k) (drop-drop i at text k))

-- ---- places

abbrev before : ℕ → List ℕ → ℕ
before at places = prefix_len (λ q. nat_lt q at) places

lt_below : (p q : ℕ) → p < q → nat_lt p q ≡ true
lt_below p q l = grind (arith, nat_tests)

ge_not_below : (p q : ℕ) → q ≤ p → nat_lt p q ≡ false
ge_not_below p q l = grind (arith, nat_tests)

below_lt : (p q : ℕ) → nat_lt p q ≡ true → p < q
below_lt p q e = grind (arith, nat_tests)

not_below_le : (p q : ℕ) → nat_lt p q ≡ false → q ≤ p
not_below_le p q e = grind (arith, nat_tests)

none_before : (m q : ℕ) (ps : List ℕ) → AreAbove m ps → q ≤ m → before q ps ≡ 0
none_before m q [] a l = refl
none_before m q (p ∷ ps) a l = let first : m ≤ p = a 0 0 (omega arith) in rw (ge_not_below p q (omega arith)) refl

-- behind an edit
next_place : (k : EditKind) (p n : ℕ) → past_by k p + puts_behind k n ≡ (p + n) + 1
next_place (edit.Put b) p n = omega arith
next_place edit.Leave p n = omega arith
next_place (edit.Turn b) p n = omega arith

back_behind : (k : EditKind) (p n s : ℕ) (rest : ℕ → List ℕ) → p + n < s → (s - puts_behind k n) - before s (rest (puts_behind k n)) ≡ (s - n) - before s (put_by k p n rest)
back_behind (edit.Put b) p n s rest l = rw (lt_below (p + n) s l) (omega arith)
back_behind edit.Leave p n s rest l = refl
back_behind (edit.Turn b) p n s rest l = refl

-- a place before the end of a range that does not hold it stands before its start
before_start : (range : TextRange) (p : ℕ) → p < range.end → stands_in range p ≡ false → p < range.start
before_start range p l e = grind (arith, nat_tests)

none_first : (b c : Bool) → (b || c) ≡ false → b ≡ false
none_first false c e = refl
none_first true c e = absurd cc

none_rest : (b c : Bool) → (b || c) ≡ false → c ≡ false
none_rest false c e = e
none_rest true c e = absurd cc

-- ---- texts

-- of the mended text from an edit on, this part is text of the file
module _ (text : List ℕ) (range : TextRange) (order : range.start ≤ range.end) where
  untouched : (at n : ℕ) (es : List Edit) → at ≤ length text → EditsFit (IsCharBoundary text) at es → list_any (stands_in range) (written_places_from n es) ≡ false → at + n ≤ range.start → range.end ≤ (at + n) + length (with_edits text at es)
      → slice_range (with_edits text at es) (range.start - (at + n)) (range.end - (at + n))
      ≡ slice_range text ((range.start - n) - before range.start (puts_from n es)) ((range.end - n) - before range.end (puts_from n es))
  untouched at n [] l h w low high =
      let start : at + (range.start - (at + n)) ≡ (range.start - n) - 0 = omega (arith, low) in
      let long : (range.end - (at + n)) - (range.start - (at + n)) ≡ ((range.end - n) - 0) - ((range.start - n) - 0) = omega (arith, low, order) in
      (λ k. take (long k) (drop-drop (range.start - (at + n)) at text k)) ∙ ap (λ i. take (((range.end - n) - 0) - ((range.start - n) - 0)) (drop i text)) start
  untouched at n (e ∷ es) l h w low high =
      let gap = slice_range text at e.at in
      let rest = with_edits text (past_by e.kind e.at) es in
      let ps = puts_from n (e ∷ es) in
      let from : at ≤ e.at = h.0 in
      let long : length gap ≡ e.at - at = length_slice text at e.at h.0 h.1.0.0 in
      let all : length (gap ++ (sign e.kind ∷ rest)) ≡ length gap + suc (length rest) = length-append gap (sign e.kind ∷ rest) in
      ⊎_elim
      (λ (t : nat_lt (e.at + n) range.end ≡ true).
      let under : e.at + n < range.end = below_lt (e.at + n) range.end t in
      let over : e.at + n < range.start = before_start range (e.at + n) under (none_first (stands_in range (e.at + n)) (list_any (stands_in range) (written_places_from (puts_behind e.kind n) es)) w) in
      let next : past_by e.kind e.at + puts_behind e.kind n ≡ (e.at + n) + 1 = next_place e.kind e.at n in
      let m = past_by e.kind e.at + puts_behind e.kind n in
      slice_behind gap rest (sign e.kind) (range.start - (at + n)) (range.end - (at + n)) (range.start - m) (range.end - m) (omega (arith, long, next, over, from, order)) (omega (arith, long, next, over, from, order))
      ∙ untouched (past_by e.kind e.at) (puts_behind e.kind n) es h.1.1.0.0 h.1.1.1 (none_rest (stands_in range (e.at + n)) (list_any (stands_in range) (written_places_from (puts_behind e.kind n) es)) w) (omega (arith, next, over)) (omega (arith, next, all, long, from, high))
      ∙ (λ k. slice_range text (back_behind e.kind e.at n range.start (λ m. puts_from m es) over k) (back_behind e.kind e.at n range.end (λ m. puts_from m es) under k)))
      (λ (t : nat_lt (e.at + n) range.end ≡ false).
      let within : range.end ≤ e.at + n = not_below_le (e.at + n) range.end t in
      let above : AreAbove (e.at + n) ps = puts_above (IsCharBoundary text) e.at n (e ∷ es) (omega arith, h.1) in
      let first : before range.start ps ≡ 0 = none_before (e.at + n) range.start ps above (omega (arith, within, order)) in
      let last : before range.end ps ≡ 0 = none_before (e.at + n) range.end ps above within in
      let start : at + (range.start - (at + n)) ≡ (range.start - n) - before range.start ps = omega (arith, first, low) in
      let end : at + (range.end - (at + n)) ≡ (range.end - n) - before range.end ps = omega (arith, last, low, order) in
      slice_front gap (sign e.kind ∷ rest) (range.start - (at + n)) (range.end - (at + n)) (omega (arith, order)) (omega (arith, long, within))
      ∙ slice_inner text at e.at (range.start - (at + n)) (range.end - (at + n)) (omega (arith, order)) (omega (arith, within))
      ∙ (λ k. slice_range text (start k) (end k)))
      (cases_Bool (nat_lt (e.at + n) range.end))

pub untouched_text : (text : List ℕ) (range : TextRange) → IsUtf8 text → is_touched text range ≡ false → range.start ≤ range.end → range.end ≤ length (mended_text text)
    → slice_range (mended_text text) range.start range.end ≡ slice_range text (place_back text range.start) (place_back text range.end)
unfolding mended_text place_back puts written_places
untouched_text text range u t order within =
    let ps = puts_from 0 (edits text) in
    let start : range.start ≡ range.start - (0 + 0) = omega arith in
    let end : range.end ≡ range.end - (0 + 0) = omega arith in
    let from : (range.start - 0) - before range.start ps ≡ range.start - before range.start ps = omega arith in
    let to : (range.end - 0) - before range.end ps ≡ range.end - before range.end ps = omega arith in
    (λ k. slice_range (with_edits text 0 (edits text)) (start k) (end k))
    ∙ untouched text range order 0 0 (edits text) (omega arith) (text_edits_fit text u) t (omega arith) (omega (arith, within))
    ∙ (λ k. slice_range text (from k) (to k))

-- ---- headers

header_by : (edition : EditionYear) (text : List ℕ) (range : TextRange) (braces : Option TextRange) → header edition text range braces ≡ header_in (is_some braces) edition (text_at text (front_range range braces))
header_by edition text range None = refl
header_by edition text range (Some b) = refl

told_front : (edition : EditionYear) (text : List ℕ) (place : ℕ → ℕ) (range : TextRange) (braces : Option TextRange)
    → header_in (is_some braces) edition (slice_range text (place (front_range range braces).start) (place (front_range range braces).end)) ≡ header_between edition text (moved_range place range) (option_map (moved_range place) braces)
told_front edition text place range None = refl
told_front edition text place range (Some b) = refl

own_part : (text whole : List ℕ) (range : TextRange) → IsUtf8 text → whole ≡ mended_text text → is_cut whole range ≡ true → is_touched text range ≡ false → text_at whole range ≡ slice_range text (place_back text range.start) (place_back text range.end)
own_part text whole range u e c t =
    let cut : cut_out whole range ≡ Some (slice_range whole range.start range.end) = rw c refl in
    let long = cut_length whole (slice_range whole range.start range.end) range cut in
    let same : length whole ≡ length (mended_text text) = ap length e in
    ap (λ (o : Option (List ℕ)). unwrap_or o []) cut ∙ ap (λ z. slice_range z range.start range.end) e ∙ untouched_text text range u t (omega (arith, long.0)) (omega (arith, long.1, same))

pub own_header : (text : List ℕ) (x : MemberReading) (p q : ItemPlace) → IsUtf8 text → HasOwnHeader text x p q → header_of x kind.Impl (Some p) ≡ header_between x.edition text p.range p.body
own_header text x p q u h =
    ap (impl_header x.edition x.text kind.Impl) h.stands
    ∙ header_by x.edition x.text q.range q.body
    ∙ ap (header_in (is_some q.body) x.edition) (own_part text x.text (front_range q.range q.body) u h.is_read h.whole h.own)
    ∙ told_front x.edition text (place_back text) q.range q.body
    ∙ ap (λ (r : ItemPlace). header_between x.edition text r.range r.body) (sym h.told)
