-- Items of blocks in the bodies of functions.
use Rattle.std.proofs.Common.{All, Option, Some, None, List, [], ◌∷◌, ℕ, suc, zero, ◌≡◌, ◌≤◌, ◌<◌, ◌+◌, ◌^◌, ◌∙◌, map, length, refl, ap, sym, arith}
use Rattle.std.proofs.lemmas.List.Elements.{All-cons, All-map, All-nil}
use Rattle.hir_input.specs.Syntax.{ItemViews}
use Rattle.hir_input.specs.declared.edition.EditionYear.{EditionYear}
use Rattle.hir_input.specs.declared.ids.FileAstId.{FileAstId}
use Rattle.rust_ids.specs.Ids.{id_at, nth_row}
use Rattle.rust_ids.specs.Row.{Row}
use Rattle.rust_items.proofs.MemberCuts.{cut_length, name_fits}
use Rattle.rust_items.specs.Blocks.{IsBlockRead, found_of}
use Rattle.rust_items.specs.LineEnds.{moved_span, place_in, with_feeds}
use Rattle.rust_items.specs.MemberLists.{cut_out}
use Rattle.rust_items.specs.MemberPlaces.{FitsMoved}
use Rattle.rust_items.specs.Places.{ArePlaces, IsBodyIn, IsWritten, Telling, nothing, placed}
use Rattle.rust_items.specs.SourceFiles.{places}
use Rattle.rust_items.specs.declared.blocks.SourceBlock.{SourceBlock}
use Rattle.rust_items.specs.declared.source_file.ItemPlace.{ItemPlace}
use Rattle.rust_paths.specs.declared.names.TextRange.{TextRange}
use Rattle.source_tags.specs.BlockItems.{bare_id, bare_place}
unfoldable use Rattle.source_tags.specs.BlockItems.{block_places}
use Rattle.source_tags.specs.Inner.{FitsPlace, FitsText}

-- ---- without ids

-- what is made of ids one by one is made of bare ones
zipped : {S : Type 0} (make : List FileAstId → List S → List ItemPlace) (one : FileAstId → S → ItemPlace) → ((ss : List S) → make [] ss ≡ []) → ((i : FileAstId) (is : List FileAstId) → make (i ∷ is) [] ≡ [])
    → ((i : FileAstId) (is : List FileAstId) (s : S) (ss : List S) → make (i ∷ is) (s ∷ ss) ≡ one i s ∷ make is ss) → ((i : FileAstId) (s : S) → bare_place (one i s) ≡ one (bare_id i.kind) s)
    → (ids : List FileAstId) (ss : List S) → map bare_place (make ids ss) ≡ make (map (λ i. bare_id i.kind) ids) ss
zipped make one none few more same [] ss = ap (map bare_place) (none ss) ∙ sym (none ss)
zipped make one none few more same (i ∷ is) [] = ap (map bare_place) (few i is) ∙ sym (few (bare_id i.kind) (map (λ i. bare_id i.kind) is))
zipped make one none few more same (i ∷ is) (s ∷ ss) =
    ap (map bare_place) (more i is s ss) ∙ (λ k. same i s k ∷ zipped make one none few more same is ss k) ∙ sym (more (bare_id i.kind) (map (λ i. bare_id i.kind) is) s ss)

-- ids have the kinds of their rows
bare_ids : (ids : List FileAstId) (rows : List Row) → length ids ≡ length rows → ((k : ℕ) → k < length rows → (id_at ids k).kind ≡ (nth_row rows k).kind)
    → map (λ i. bare_id i.kind) ids ≡ map (λ r. bare_id r.kind) rows
bare_ids [] [] e h = refl
bare_ids (id ∷ ids) (row ∷ rows) e h =
    let first : id.kind ≡ row.kind = h 0 (omega arith) in
    let rest : map (λ i. bare_id i.kind) ids ≡ map (λ r. bare_id r.kind) rows = bare_ids ids rows (omega arith) (λ k l. h (suc k) (omega arith)) in
    λ j. bare_id (first j) ∷ rest j
bare_ids _ _ e h = absurd (omega arith)

pub bare_block : (edition : EditionYear) (text : List ℕ) (read : SourceBlock) → IsBlockRead edition text read → map bare_place read.places.items ≡ block_places edition text
unfolding block_places
bare_block edition text read is =
    let found = found_of edition (with_feeds text) in
    let spans = map (moved_span (place_in text)) found.spans in
    ap (map bare_place) is.places ∙ zipped places (λ i s. record { id = i; range = s.range; name = s.name; body = s.body }) (λ ss. refl) (λ i is. refl) (λ i is s ss. refl) (λ i s. refl) is.ids spans
    ∙ ap (λ (l : List FileAstId). places l spans) (bare_ids is.ids found.rows is.are_ids.as_many (λ k l. (is.are_ids.each k l).kind))

-- ---- places fit

body_fits : (by : ℕ) (range : TextRange) (body : Option TextRange) → IsBodyIn range body → by + range.end < 2 ^ 64 → FitsMoved by body
body_fits by range None b h = tt
body_fits by range (Some r) b h =
    let two : r.start + 2 ≤ r.end = b.1 in
    let ends : r.end ≡ range.end = b.2 in
    (omega arith, omega arith)

all_fit : {N : Telling} {from to : ℕ} {is : ItemViews} {ps rest : List ItemPlace} (end by : ℕ) → ArePlaces N from to is ps rest → to ≤ end → (0 < end → by + end < 2 ^ 64) → All (FitsPlace by) rest
    → All (FitsPlace by) ps
all_fit end by nothing l fits h = h
all_fit end by (placed {p = p} {ps = ps} own inside later) l fits h =
    let some : p.range.start < p.range.end = own.some in
    let ends = own.ends in
    let within : p.range.end ≤ end = omega arith in
    let long : by + end < 2 ^ 64 = fits (omega arith) in
    let last : by + p.range.end < 2 ^ 64 = omega arith in
    All-cons (FitsPlace by) p ps ((omega arith, last), (name_fits by p.range p.name own.name last, body_fits by p.range p.body own.body last))
    (all_fit end by inside within fits (all_fit end by later l fits h))

pub places_fit : (text : List ℕ) (is : ItemViews) (ps : List ItemPlace) → ArePlaces (IsWritten text) 0 (length text) is ps [] → (by : ℕ) → FitsText by text → All (FitsPlace by) (map bare_place ps)
places_fit text is ps are by fits = All-map (FitsPlace by) bare_place ps (all_fit (length text) by are (omega arith) fits (All-nil (FitsPlace by)))

start_fits : (base start long : ℕ) → base < 2 ^ 64 → start ≤ long → (0 < long → base + long < 2 ^ 64) → base + start < 2 ^ 64
start_fits base start zero b l fits = omega arith
start_fits base start (suc long) b l fits = let all : base + suc long < 2 ^ 64 = fits (omega arith) in omega arith

-- what stands in a part of a text fits where the text does
pub part_fits : (base : ℕ) (text part : List ℕ) (range : TextRange) → base < 2 ^ 64 → FitsText base text → cut_out text range ≡ Some part → (base + range.start < 2 ^ 64) × FitsText (base + range.start) part
part_fits base text part range b fits e =
    let long = cut_length text part range e in
    let exact : length part + range.start ≡ range.end = long.0 in
    let within : range.end ≤ length text = long.1 in
    (start_fits base range.start (length text) b (omega arith) fits, λ some. let all : base + length text < 2 ^ 64 = fits (omega arith) in omega arith)
