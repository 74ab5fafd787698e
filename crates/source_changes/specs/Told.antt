-- How a change is told.
use Rattle.std.specs.Prelude.{ℕ, Bool, List, ◌++◌, codes, Option, Some, None}
use Rattle.line_index.specs.declared.Position.{Position}
use Rattle.line_index.specs.Positions.{position_of}
use Rattle.list_forms.specs.Colors.{bold_code, colored_text, faint_code, green_code, red_code, yellow_code}
use Rattle.list_forms.specs.Lines.{column_number, value_line, line_number}
use Rattle.list_forms.specs.declared.lines.Form.{Form}
use Rattle.list_forms.specs.declared.lines.Form.TheVariants.{Line, Json}
use Rattle.serde_json.specs.Data.{Data, null, string, object, no_members, member}
use Rattle.source_changes.specs.ChangeWords.{change_word}
use Rattle.source_changes.specs.RowChanges.{RowChange}
use Rattle.source_rows.specs.Sources.{Source, place_text}
use Rattle.source_changes.specs.declared.change_kind.ChangeKind.{ChangeKind, TheVariants.Removed, TheVariants.Added, TheVariants.Changed}

-- ---- lines

abbrev pub change_color : ChangeKind → List ℕ
change_color Removed = red_code
change_color Added = green_code
change_color Changed = yellow_code

-- the place in a file, or the file
abbrev pub head_text : List ℕ → Option Position → List ℕ
head_text path None = path ++ codes ": "
head_text path (Some p) = place_text path p

-- an item or a member, or the file
abbrev pub told_label : Option (List ℕ) → List ℕ
told_label None = codes "file"
told_label (Some label) = label

-- a place, what became of something, and what that is
abbrev pub told_line : Bool → List ℕ → Option Position → ChangeKind → Option (List ℕ) → List ℕ
told_line is_colored path p kind label =
    colored_text is_colored faint_code (head_text path p) ++ colored_text is_colored (change_color kind) (change_word kind)
    ++ colored_text is_colored bold_code (told_label label) ++ codes "\n"

-- ---- objects

-- what became of something
abbrev pub change_name : ChangeKind → List ℕ
change_name Removed = codes "removed"
change_name Added = codes "added"
change_name Changed = codes "changed"

abbrev pub item_form : Option (List ℕ) → Data
item_form None = null
item_form (Some label) = string label

-- the object of what became of an item at its place, or of a file
abbrev pub change_object : List ℕ → Option Position → ChangeKind → Option (List ℕ) → Data
change_object path p kind label =
    object
    (member (codes "change") (string (change_name kind))
    (member (codes "column") (column_number p)
    (member (codes "item") (item_form label)
    (member (codes "line") (line_number p)
    (member (codes "path") (string path) no_members)))))

-- ---- both

abbrev pub change_text : Form → List ℕ → Option Position → ChangeKind → Option (List ℕ) → List ℕ
change_text (Line is_colored) path p kind label = told_line is_colored path p kind label
change_text Json path p kind label = value_line (change_object path p kind label)

-- what became of a row of a file
abbrev pub row_text : Form → Source → RowChange → List ℕ
row_text form s c = change_text form s.path (Some (position_of s.text c.at)) c.kind (Some c.label)

-- what became of a file
abbrev pub file_text : Form → List ℕ → ChangeKind → List ℕ
file_text form path kind = change_text form path None kind None
