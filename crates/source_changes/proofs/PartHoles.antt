-- What of parts are no tokens of those around them, one part at a time.
use Rattle.std.proofs.Common.{◌≡◌, ◌<◌, ◌≤◌, ◌+◌, ℕ, true, false, List, [], ◌∷◌, ◌++◌, length, map, drop, get_or, refl, ap, sym, ◌∙◌, arith, append_assoc, append-nil, nat_le}
use Rattle.source_changes.specs.declared.text_parts.Part as code_part
use Rattle.source_rows.proofs.Steps.{drop_next}
use Rattle.source_changes.specs.declared.kept.Hole.{Hole}
use Rattle.source_changes.proofs.Common.{nat_tests, Part, part_view, outside_name, holes_begun}

later : (place start : ℕ) → start < place → nat_le place start ≡ false
later place start h = grind (arith, nat_tests)

there : (place start : ℕ) → place ≤ start → nat_le place start ≡ true
there place start h = grind (arith, nat_tests)

begun_first : (place : ℕ) (q : Part) (qs : List Part) → q.range.start < place → holes_begun place (q ∷ qs) ≡ outside_name q.range q.kept ++ holes_begun place qs
begun_first place q qs h = rw (later place q.range.start h) refl

begun_none : (place : ℕ) (q : Part) (qs : List Part) → place ≤ q.range.start → holes_begun place (q ∷ qs) ≡ []
begun_none place q qs h = rw (there place q.range.start h) refl

-- one more part
pub begun_more : (place : ℕ) (done pushed : List Hole) (parts : List code_part.Part) (i : ℕ) (q : code_part.Part) (all : List Hole) → i < length parts → q ≡ get_or parts i q → q.range.start < place
    → pushed ≡ done ++ outside_name q.range q.kept → done ++ holes_begun place (map part_view (drop i parts)) ≡ all → pushed ++ holes_begun place (map part_view (drop (i + 1) parts)) ≡ all
begun_more place done pushed parts i q all h e b p inv =
    let rest : List Part = map part_view (drop (i + 1) parts) in
    ap (λ (hs : List Hole). hs ++ holes_begun place rest) p ∙ append_assoc done (outside_name q.range q.kept) (holes_begun place rest)
    ∙ ap (λ (hs : List Hole). done ++ hs) (sym (begun_first place (part_view q) rest b))
    ∙ ap (λ (qs : List code_part.Part). done ++ holes_begun place (map part_view qs)) (sym (drop_next parts i q h e)) ∙ inv

-- the first part that does not begin before the place
pub begun_stop : (place : ℕ) (done : List Hole) (parts : List code_part.Part) (i : ℕ) (q : code_part.Part) (all : List Hole) → i < length parts → q ≡ get_or parts i q → place ≤ q.range.start
    → done ++ holes_begun place (map part_view (drop i parts)) ≡ all → done ≡ all
begun_stop place done parts i q all h e b inv =
    let rest : List Part = map part_view (drop (i + 1) parts) in
    sym (append-nil done) ∙ ap (λ (hs : List Hole). done ++ hs) (sym (begun_none place (part_view q) rest b))
    ∙ ap (λ (qs : List code_part.Part). done ++ holes_begun place (map part_view qs)) (sym (drop_next parts i q h e)) ∙ inv
