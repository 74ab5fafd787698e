-- What stands in none of the items of a text.
use Rattle.std.specs.Prelude.{ℕ, Bool, true, false, not, ◌&&◌, if◌then◌else◌, Option, Some, None, List, [], ◌∷◌, length, codes}
use Rattle.hir_input.specs.declared.edition.EditionYear.{EditionYear}
use Rattle.rust_lexer.specs.Piece.{Piece}
use Rattle.rust_lexer.specs.Tokens.{tokens, is_significant}
use Rattle.rust_cursor.specs.Tokens.{tokens_of}
use Rattle.rust_metas.specs.Attributes.{inner_attributes}
use Rattle.source_changes.specs.declared.kept.Hole.{Hole}
use Rattle.source_changes.specs.RowChanges.{TextRow}
use Rattle.source_changes.specs.Parts.{Part}
use Rattle.source_changes.specs.Rows.{hole, holes_begun, part_row}
use Rattle.source_changes.specs.Skeletons.{is_begun, not_over}

-- the place of the first token that stands in none of these parts, which come in order
abbrev pub first_kept : List Hole → List Piece → Option ℕ
first_kept holes [] = None
first_kept holes (t ∷ ts) = if is_significant t && not (is_begun t.at (not_over t.at holes)) then Some t.at else first_kept (not_over t.at holes) ts

-- where the attributes of a file end
abbrev pub attributes_end : EditionYear → List ℕ → ℕ
attributes_end edition text = (inner_attributes (tokens_of edition text)).1.past

-- where a text begins, with those attributes or behind them
abbrev pub outside_start : Bool → EditionYear → List ℕ → ℕ
outside_start true edition text = 0
outside_start false edition text = attributes_end edition text

-- what stands before that, and the items of a file
abbrev pub told_elsewhere : ℕ → List ℕ → List Part → List Hole
told_elsewhere start text ps = hole 0 start ∷ holes_begun (length text) ps

-- all of a text from there on, as a part of it that is told here
abbrev pub outside_part : ℕ → List ℕ → ℕ → Part
outside_part start text at = record {
  label = codes "tokens outside of all items";
  at = at;
  range = record { start = start; end = length text };
  kept = None;
  body = None;
  is_hidden = false;
}

-- the same if tokens stand there that are in no item
abbrev pub part_told : ℕ → List ℕ → Option ℕ → Option Part
part_told start text None = None
part_told start text (Some at) = Some (outside_part start text at)

abbrev pub outside_from : ℕ → List ℕ → List Part → Option Part
outside_from start text ps = part_told start text (first_kept (told_elsewhere start text ps) (tokens text))

abbrev pub outside_of : Bool → EditionYear → List ℕ → List Part → Option Part
outside_of has_attributes edition text ps = outside_from (outside_start has_attributes edition text) text ps

-- the row of that part, in which these stand
abbrev pub row_of : Bool → List ℕ → List Part → Option Part → List TextRow
row_of has_docs text ps None = []
row_of has_docs text ps (Some p) = part_row has_docs text p ps ∷ []

abbrev pub outside_rows : Bool → Bool → EditionYear → List ℕ → List Part → List TextRow
outside_rows has_attributes has_docs edition text ps = row_of has_docs text ps (outside_of has_attributes edition text ps)
