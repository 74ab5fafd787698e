-- Units that are counted part by part.
use Rattle.std.proofs.Common.{◌≡◌, ℕ, ◌+◌, ◌-◌, ◌*◌, ◌/◌, ◌<◌, ◌≤◌, ◌∙◌, List, [], ◌∷◌, ◌++◌, ⊎_elim, ap, arith, sym, take, drop, length, length-take-le, length-append, get_or, refl}
use Rattle.std.proofs.lemmas.Bool.{cases_lt}
use Rattle.std.proofs.lemmas.List.{get_or_append_left}
use Rattle.std.proofs.lemmas.List.Sums.{sum_by-append}
use Rattle.std.proofs.Math.Seq.{get_or-append_seam}
use Rattle.std.specs.List.{sum_by}
use Rattle.line_index.specs.declared.Style.{Style}
use Rattle.line_index.specs.Inner.{AreCounts}
use Rattle.line_index.specs.Points.{column_units}
use Rattle.line_index.proofs.Positions.{take_on, column_units_within}

pub units_to : (style : Style) (text : List ℕ) (from at : ℕ) → from ≤ at
    → sum_by (column_units style) (take from text) + sum_by (column_units style) (take (at - from) (drop from text)) ≡ sum_by (column_units style) (take at text)
units_to style text from at e = sym (sum_by-append (column_units style) (take from text) (take (at - from) (drop from text))) ∙ ap (sum_by (column_units style)) (take_on from at text e)

-- the count of the part of a place, and the units from there on
pub counted_to : (style : Style) (text counts : List ℕ) (at rest : ℕ) → AreCounts style text counts → at ≤ length text
    → rest ≡ sum_by (column_units style) (take (at - at / 1024 * 1024) (drop (at / 1024 * 1024) text)) → get_or counts (at / 1024) 0 + rest ≡ sum_by (column_units style) (take at text)
counted_to style text counts at rest are within e =
    let enough = are.enough in
    let few : at / 1024 < length counts = omega (arith, enough, within) in
    let from : 1024 * (at / 1024) ≡ at / 1024 * 1024 = omega arith in
    let kept = are.counted (at / 1024) few ∙ ap (λ n. sum_by (column_units style) (take n text)) from in
    let all = units_to style text (at / 1024 * 1024) at (omega arith) in
    omega (arith, kept, all, e)

pub few_units_to : (style : Style) (text : List ℕ) (at : ℕ) → at ≤ length text → sum_by (column_units style) (take at text) ≤ 2 * at
few_units_to style text at e = let few = column_units_within style (take at text) in let long = length-take-le at text e in omega (arith, few, long)

-- some counts, up to a place at which a part begins
pub record AreCounted (style : Style) (text : List ℕ) (at count : ℕ) (counts : List ℕ) : Type 0 where
  pub place : at + 1024 ≡ 1024 * length counts
  pub within : at ≤ length text
  pub last : count ≡ sum_by (column_units style) (take at text)
  pub counted : (k : ℕ) → k < length counts → get_or counts k 0 ≡ sum_by (column_units style) (take (1024 * k) text)

pub counted_none : (style : Style) (text : List ℕ) → AreCounted style text 0 0 (0 ∷ [])
counted_none style text = record { place = omega arith; within = omega arith; last = omega arith; counted = λ k few. let none : k ≡ 0 = omega (arith, few) in rw none refl }

pub counted_next : (style : Style) (text : List ℕ) (at count next : ℕ) (counts : List ℕ) → AreCounted style text at count counts → at + 1024 ≤ length text
    → next ≡ count + sum_by (column_units style) (take (at + 1024 - at) (drop at text)) → AreCounted style text (at + 1024) next (counts ++ next ∷ [])
counted_next style text at count next counts are within e =
    let place = are.place in
    let last = are.last in
    let to = units_to style text at (at + 1024) (omega arith) in
    let all : next ≡ sum_by (column_units style) (take (at + 1024) text) = omega (arith, e, to, last) in
    let long = length-append counts (next ∷ []) in
    record {
      place = omega (arith, place, long);
      within = within;
      last = all;
      counted = λ k few.
          ⊎_elim
          (λ (old : k < length counts). get_or_append_left counts (next ∷ []) 0 k old ∙ are.counted k old)
          (λ (new : length counts ≤ k).
          let same : k ≡ length counts = omega (arith, few, new, long) in
          let there : at + 1024 ≡ 1024 * k = omega (arith, place, same) in
          ap (λ i. get_or (counts ++ next ∷ []) i 0) same ∙ get_or-append_seam counts next [] 0 ∙ all ∙ ap (λ n. sum_by (column_units style) (take n text)) there)
          (cases_lt k (length counts));
    }

pub counted_all : (style : Style) (text : List ℕ) (at count : ℕ) (counts : List ℕ) → AreCounted style text at count counts → length text - at < 1024 → AreCounts style text counts
counted_all style text at count counts are short =
    let place = are.place in let within = are.within in
    record { enough = omega (arith, place, within, short); counted = are.counted }
