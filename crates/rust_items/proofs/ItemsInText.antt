-- What is told of items stands in the text.
use Rattle.std.proofs.Common.{◌≡◌, ◌<◌, ◌≤◌, ◌+◌, ℕ, Option, Some, None, List, [], ◌∷◌, length, ap, sym, subst, ◌∙◌, map, arith}
use Rattle.rust_items.proofs.Common.{length-map, EditionYear, ItemViews, TextRange, ItemSpan, ItemPlace, Telling, IsBodyIn, IsNameIn, ArePlaces, nothing, placed, FileView, found_in, IsFile}
use Rattle.rust_items.proofs.FilePlaces.{text_found}
use Rattle.rust_items.proofs.FoundItems.{row_kind, place_kind, place_span}

-- a range up to this place
abbrev pub IsIn : ℕ → TextRange → Type 0
IsIn end r = (r.start ≤ end) × (r.end ≤ end)

abbrev pub IsMaybeIn : ℕ → Option TextRange → Type 0
IsMaybeIn end None = Unit {0}
IsMaybeIn end (Some r) = IsIn end r

abbrev pub AreIn : ℕ → List ItemSpan → Type 0
AreIn end [] = Unit {0}
AreIn end (s ∷ ss) = (IsIn end s.range × (IsMaybeIn end s.name × IsMaybeIn end s.body)) × AreIn end ss

name_in : (end : ℕ) (range : TextRange) (o : Option TextRange) → IsNameIn range o → range.end ≤ end → IsMaybeIn end o
name_in end range None h l = tt
name_in end range (Some r) h l = let some : r.start < r.end = h.1 in let ends : r.end ≤ range.end = h.2 in (omega arith, omega arith)

body_in : (end : ℕ) (range : TextRange) (o : Option TextRange) → IsBodyIn range o → range.end ≤ end → IsMaybeIn end o
body_in end range None h l = tt
body_in end range (Some r) h l = let two : r.start + 2 ≤ r.end = h.1 in let ends : r.end ≡ range.end = h.2 in (omega arith, omega arith)

all_in : {N : Telling} {from to : ℕ} {is : ItemViews} {ps rest : List ItemPlace} (end : ℕ) → ArePlaces N from to is ps rest → to ≤ end → AreIn end (map place_span rest) → AreIn end (map place_span ps)
all_in end nothing l h = h
all_in end (placed {p = p} own inside later) l h =
    let some = own.some in
    let ends = own.ends in
    let within : p.range.end ≤ end = omega arith in
    (((omega arith, within), (name_in end p.range p.name own.name within, body_in end p.range p.body own.body within)), all_in end inside within (all_in end later l h))

pub spans_in : (edition : EditionYear) (x : List ℕ) → AreIn (length x) (found_in edition x).spans
spans_in edition x =
    let t = text_found edition x in
    subst (λ (l : List ItemSpan). AreIn (length x) l) (sym t.adds.spans) (all_in (length x) t.are (omega arith) tt)

-- there is an id for each
pub as_many : (edition : EditionYear) (x : List ℕ) (place : ℕ → ℕ) (file : FileView) (f : IsFile edition x place file) → length f.ids ≡ length (found_in edition x).spans
as_many edition x place file f =
    let t = text_found edition x in
    f.are_ids.as_many ∙ sym (length-map (found_in edition x).rows row_kind) ∙ ap length t.adds.rows ∙ length-map t.ps place_kind ∙ sym (length-map t.ps place_span) ∙ sym (ap length t.adds.spans)
