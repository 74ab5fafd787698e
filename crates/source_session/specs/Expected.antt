-- What was expected where a value of a line is of wrong form.
use Rattle.std.specs.Prelude.{ℕ, ◌==◌, ◌-◌, Bool, false, not, ◌&&◌, nat_le, if◌then◌else◌, List, [], ◌∷◌, length, codes, Option, Some, None, bytes_eq}
use Rattle.std.specs.List.{list_any}
use Rattle.std.specs.Option.{option_map_or}
use Rattle.source_session.specs.declared.keys.LineObject.{LineObject}
use Rattle.source_session.specs.declared.keys.LineObject.TheVariants.{Whole, OfEdits, OfShows}
use Rattle.source_session.specs.Keys.{is_known}
use Rattle.source_session.specs.Parts.{parts_between, part_at, last_part}

-- ---- tables

-- words, and what is told of each of them
abbrev pub ExpectedRow : Type 0
ExpectedRow = List (List ℕ) × List ℕ

abbrev pub other : List ℕ
other = codes "another value"

-- what the first row tells that has the word
abbrev pub told_by_row : List ExpectedRow → List ℕ → List ℕ
told_by_row [] word = other
told_by_row (row ∷ rows) word = if list_any (bytes_eq word) row.0 then row.1 else told_by_row rows word

-- by the keys of lines, and of what stands in their lists
abbrev pub line_keys : List ExpectedRow
line_keys =
    (codes "crates" ∷ codes "skipped" ∷ codes "edits" ∷ codes "shows" ∷ codes "reserved" ∷ codes "cfg" ∷ codes "attrs" ∷ codes "stmts" ∷ [], codes "a list")
    ∷ (codes "edition" ∷ codes "syntax" ∷ [], codes "an object")
    ∷ (codes "file" ∷ codes "block" ∷ codes "root" ∷ [], codes "a number below 2^32")
    ∷ (codes "start" ∷ codes "since" ∷ [], codes "a number below 2^64")
    ∷ (codes "crate" ∷ [], codes "the number of a crate")
    ∷ (codes "text" ∷ [], codes "a string")
    ∷ (codes "range" ∷ [], codes "two byte places")
    ∷ (codes "name" ∷ [], codes "a name, path or glob")
    ∷ (codes "edit" ∷ [], codes "a kind of edit: set_text, change_text, set_file, remove_file, set_block, remove_block or set_cfg")
    ∷ (codes "show" ∷ [], codes "a kind of show: page, tree, imports, changed, outline, import_places, problems or find")
    ∷ (codes "as" ∷ [], codes "text or json, of tree, imports or changed")
    ∷ (codes "units" ∷ [], codes "characters, utf-16 or bytes, of outline, import_places, problems or find, or of tree or imports as json")
    ∷ (codes "members" ∷ [], codes "true or false, of outline or find")
    ∷ (codes "year" ∷ [], codes "2015, 2018, 2021 or 2024")
    ∷ (codes "id" ∷ [], codes "a value without a float")
    ∷ []

-- by the keys of what stands in syntaxes
abbrev pub syntax_keys : List ExpectedRow
syntax_keys =
    (codes "attrs" ∷ codes "items" ∷ codes "stmts" ∷ codes "metas" ∷ codes "list" ∷ codes "all" ∷ codes "any" ∷ [], codes "a list")
    ∷ (codes "hash" ∷ [], codes "a number below 2^16")
    ∷ (codes "number" ∷ [], codes "a number below 2^32")
    ∷ (codes "semicolon" ∷ codes "trait" ∷ codes "star" ∷ [], codes "true or false")
    ∷ (codes "body" ∷ codes "tokens" ∷ codes "rendered" ∷ codes "string" ∷ [], codes "a string")
    ∷ (codes "name" ∷ codes "rename" ∷ codes "key" ∷ [], codes "a name")
    ∷ (codes "path" ∷ codes "in" ∷ [], codes "a path")
    ∷ (codes "vis" ∷ [], codes "a visibility")
    ∷ (codes "cfg" ∷ codes "not" ∷ [], codes "a condition")
    ∷ (codes "is" ∷ [], codes "a kind of item")
    ∷ (codes "meta" ∷ [], codes "a kind of meta: path, key_value, tokens, cfg, cfg_attr or unsafe")
    ∷ []

-- by the keys of lists, of what stands in them
abbrev pub lists : List ExpectedRow
lists =
    (codes "edits" ∷ codes "shows" ∷ [], codes "an object without a float")
    ∷ (codes "crates" ∷ codes "attrs" ∷ codes "items" ∷ codes "metas" ∷ codes "list" ∷ [], codes "an object")
    ∷ (codes "skipped" ∷ codes "reserved" ∷ [], codes "a name")
    ∷ (codes "range" ∷ [], codes "a number below 2^64")
    ∷ []

-- ---- pointers

-- the steps of a pointer, from the text before the first on: how many, the first, and the last two
pub record Steps : Type 0 where
  pub count : ℕ
  pub list : List ℕ
  pub before : List ℕ
  pub last : List ℕ

abbrev pub steps_of : List (List ℕ) → Steps
steps_of ps = record { count = length ps; list = part_at ps 1; before = part_at ps (length ps - 2); last = last_part ps }

-- an edit or a show
abbrev pub listed_object : List ℕ → Option LineObject
listed_object list = if bytes_eq list (codes "edits") then Some OfEdits else (if bytes_eq list (codes "shows") then Some OfShows else None)

-- the object whose key the last step is, if none but its keys may stand in it
abbrev pub object_of_key : Steps → Option LineObject
object_of_key s = if s.count == 2 then Some Whole else (if s.count == 4 then listed_object s.list else None)

-- whether that object has no such key
abbrev pub is_unknown : Steps → Bool
is_unknown s = option_map_or (λ o. not (is_known o s.last)) (object_of_key s) false

-- whether a line has a key that opens a session
abbrev pub opens_session : Steps → Bool
opens_session s = s.count == 2 && list_any (bytes_eq s.last) (codes "crates" ∷ codes "skipped" ∷ codes "edition" ∷ codes "start" ∷ [])

-- whether a step leads into a list
abbrev pub is_place : List ℕ → Bool
is_place [] = false
is_place (b ∷ bs) = nat_le 48 b && nat_le b 57

-- by the last step, or the one before where it leads into a list
abbrev pub steps_told_at : Steps → List ℕ
steps_told_at s = if is_place s.last then told_by_row lists s.before else (if nat_le s.count 4 then told_by_row line_keys s.last else told_by_row syntax_keys s.last)

-- what was expected, with a session open or not
abbrev pub expected_at : Bool → Steps → List ℕ
expected_at is_open s =
    if s.count == 1 then codes "an object"
    else (if is_unknown s then codes "no such key"
    else (if is_open && opens_session s then codes "nothing: the session is open" else steps_told_at s))

-- the same by the pointer
abbrev pub expected_words : Bool → List ℕ → List ℕ
expected_words is_open pointer = expected_at is_open (steps_of (parts_between 47 pointer))
