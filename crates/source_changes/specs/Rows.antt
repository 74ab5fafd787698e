-- The parts of a text as rows, each with its own tokens.
use Rattle.std.specs.Prelude.{ℕ, ◌+◌, ◌-◌, Bool, nat_le, nat_lt, if◌then◌else◌, List, [], ◌∷◌, ◌++◌, map, Option, Some, None, flat_map}
use Rattle.rust_paths.specs.declared.names.TextRange.{TextRange}
use Rattle.source_changes.specs.declared.kept.Hole.{Hole}
use Rattle.source_changes.specs.RowChanges.{TextRow}
use Rattle.source_changes.specs.Skeletons.{skeleton}
use Rattle.source_rows.specs.Labels.{text_at}
use Rattle.source_changes.specs.Parts.{Part}

abbrev pub hole : ℕ → ℕ → Hole
hole start end = record { start = start; end = end }

-- what stands between braces
abbrev pub hole_inside : Option TextRange → List Hole
hole_inside None = []
hole_inside (Some body) = if nat_lt body.start body.end then hole (body.start + 1) (body.end - 1) ∷ [] else []

-- what of a text are no tokens of its skeleton: what stands between the braces of functions
abbrev pub bodies : List Part → List Hole
bodies parts = flat_map (λ p. hole_inside p.body) parts

-- what of a part are no tokens of those around it: all but a name that counts there
abbrev pub outside_name : TextRange → Option TextRange → List Hole
outside_name range None = hole range.start range.end ∷ []
outside_name range (Some name) = hole range.start name.start ∷ hole name.end range.end ∷ []

-- the same of those of some parts, in preorder, that begin before a place
abbrev pub holes_begun : ℕ → List Part → List Hole
holes_begun place [] = []
holes_begun place (q ∷ qs) = if nat_le place q.range.start then [] else outside_name q.range q.kept ++ holes_begun place qs

-- what of a part are no tokens of its own, where these come behind it
abbrev pub holes : Part → List Part → List Hole
holes p behind = hole_inside p.body ++ holes_begun p.range.end behind

-- the same in the part's own text
abbrev pub moved_back : ℕ → Hole → Hole
moved_back by h = hole (h.start - by) (h.end - by)

abbrev pub own_holes : Part → List Part → List Hole
own_holes p behind = map (moved_back p.range.start) (holes p behind)

abbrev pub own_tokens : Bool → List ℕ → Part → List Part → List (List ℕ)
own_tokens has_docs text p behind = skeleton has_docs (own_holes p behind) (text_at text p.range)

abbrev pub part_row : Bool → List ℕ → Part → List Part → TextRow
part_row has_docs text p behind = record { label = p.label; at = p.at; own = own_tokens has_docs text p behind; is_hidden = p.is_hidden }

-- each part with its own tokens
abbrev pub part_rows : Bool → List ℕ → List Part → List TextRow
part_rows has_docs text [] = []
part_rows has_docs text (p ∷ ps) = part_row has_docs text p ps ∷ part_rows has_docs text ps
