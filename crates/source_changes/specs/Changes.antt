-- What others can see of a file became another, and the lines that tell it.
use Rattle.std.specs.Prelude.{◌≡◌, ◌↔◌, ◌==◌, ℕ, Bool, false, true, length, IsTrue, if◌then◌else◌, List, [], ◌∷◌, string_bytes, flat_map}
use Rattle.hir_input.specs.declared.edition.EditionYear.{EditionYear}
use Rattle.rust_items.specs.SourceFiles.{FileView, IsFileView}
use Rattle.source_changes.specs.ChangeWords.{side_of}
use Rattle.source_changes.specs.RowChanges.{RowChange, row_changes, seen_changes}
use Rattle.source_changes.specs.Skeletons.{skeleton}
use Rattle.source_changes.specs.Parts.{Part, item_parts}
use Rattle.source_changes.specs.Outside.{outside_rows}
use Rattle.source_changes.specs.Moves.{StandingRow, row_moves, standing_rows}
use Rattle.source_changes.specs.Rows.{bodies, part_rows}
use Rattle.source_rows.specs.Sources.{Source}
use Rattle.list_forms.specs.declared.lines.Form.{Form}
use Rattle.source_changes.specs.Told.{row_text}
use Rattle.source_changes.specs.declared.Compared.{Compared}

-- ---- what others can see

-- the items of a text of an edition, as its reader gives them, and their members
abbrev pub AreParts : EditionYear → List ℕ → List Part → Type 0
AreParts edition text ps = (file : FileView) × IsFileView edition text file × (ps ≡ item_parts edition text file.places)

-- every token but those between the braces of functions, comments, and documentation unless it is asked for
abbrev pub seen_texts : Bool → List ℕ → List Part → List (List ℕ)
seen_texts has_docs text ps = skeleton has_docs (bodies ps) text

-- ---- lines

abbrev pub row_text_between : Form → Source → Source → RowChange → List ℕ
row_text_between form old new c = row_text form (side_of c.kind old new) c

abbrev pub row_texts : Form → Source → Source → List RowChange → List ℕ
row_texts form old new cs = flat_map (row_text_between form old new) cs

-- ---- two files

-- these changes, or others where there are none
abbrev pub or_else : List RowChange → List RowChange → List RowChange
or_else [] others = others
or_else (c ∷ cs) others = c ∷ cs

-- the rows of a text with these parts, each with the part that it stands in
abbrev pub rows_standing : Bool → List ℕ → List Part → List StandingRow
rows_standing has_docs text ps = standing_rows ps (part_rows has_docs text ps)

-- what moved from a part to another of its label, and where nothing did, what became of what stands in no part, with the attributes of the file if only what is public counts
abbrev pub changes_beside : EditionYear → Bool → Bool → Source → Source → List Part → List Part → List RowChange
changes_beside edition is_public has_docs old new olds news =
    or_else (seen_changes is_public (row_moves (rows_standing has_docs old.text olds) (rows_standing has_docs new.text news)))
    (row_changes (outside_rows is_public has_docs edition old.text olds) (outside_rows is_public has_docs edition new.text news))

-- what became of items and members, and where nothing did by their labels, all else; if only what is public counts, of what is seen outside of its module in one of the texts
abbrev pub lines_between : EditionYear → Bool → Bool → Form → Source → Source → List Part → List Part → List ℕ
lines_between edition is_public has_docs form old new olds news =
    let items = seen_changes is_public (row_changes (part_rows has_docs old.text olds) (part_rows has_docs new.text news)) in
    row_texts form old new (or_else items (changes_beside edition is_public has_docs old new olds news))

-- these are the lines of what became of one file of an edition in another
abbrev pub AreLinesBetween : EditionYear → Bool → Form → Source → Source → List ℕ → Type 0
AreLinesBetween edition has_docs form old new lines =
    (olds news : List Part) × AreParts edition old.text olds × AreParts edition new.text news × (lines ≡ lines_between edition false has_docs form old new olds news)

-- no line where nothing differs
abbrev pub compared_lines : EditionYear → Bool → Bool → Bool → Form → Source → Source → List Part → List Part → List ℕ
compared_lines edition is_same is_public has_docs form old new olds news =
    if is_same then [] else lines_between edition is_public has_docs form old new olds news

-- whether others see the same of two files of an edition, and the lines of what became of the parts
abbrev pub IsCompared : EditionYear → Bool → Form → Source → Source → Compared → Type 0
IsCompared edition has_docs form old new c =
    (olds news : List Part) × AreParts edition old.text olds × AreParts edition new.text news
    × (IsTrue c.is_same ↔ (seen_texts has_docs old.text olds ≡ seen_texts has_docs new.text news))
    × (string_bytes c.text ≡ compared_lines edition c.is_same false has_docs form old new olds news)

-- the same of what is public: the lines of what became of that, and whether there is none
abbrev pub IsComparedInPublic : EditionYear → Bool → Form → Source → Source → Compared → Type 0
IsComparedInPublic edition has_docs form old new c =
    (olds news : List Part) × AreParts edition old.text olds × AreParts edition new.text news
    × (string_bytes c.text ≡ lines_between edition true has_docs form old new olds news) × (c.is_same ≡ (length (string_bytes c.text) == 0))
