-- The shows of a line.
use Rattle.std.specs.Prelude.{ℕ, ◌^◌, ◌<◌, Bool, true, false, List, [], codes, if◌then◌else◌, Option, Some, None}
use Rattle.serde_json.specs.Data.{Data}
use Rattle.serde_json.specs.Written.{has_float}
use Rattle.hir_input.specs.declared.ids.Crate.{Crate}
use Rattle.hir_input.specs.declared.ids.HirFileId.{HirFileId}
use Rattle.line_index.specs.declared.Units.{Units}
use Rattle.hir_input_json.specs.Reading.{Reading, right, wrong, reading_map, here, under, ◌>>=◌}
use Rattle.hir_input_json.specs.Forms.{required_at, optional_at, by_form, wrong_at, on_word, number_form, number_below, text_form, object_members}
use Rattle.item_tree_db.specs.declared.place.Place.TheVariants.{File}
use Rattle.item_tree_request.specs.Named as request
use Rattle.item_tree_request.specs.Shows as request_shows
use Rattle.item_tree_request.specs.declared.request.show.Show.{Show}
use Rattle.item_tree_request.specs.declared.request.show.Show.TheVariants.{OfTree, Changed}
use Rattle.item_tree_request.specs.declared.request.show.ShowKind.{ShowKind}
use Rattle.item_tree_request.specs.declared.request.show.ShowKind.TheVariants.{Page, Tree, Imports}
use Rattle.item_tree_request.specs.declared.request.show.TreeShow.{TreeShow}
use Rattle.source_session.specs.declared.keys.LineObject.TheVariants.{OfShows}
use Rattle.source_session.specs.Keys.{none_at, only_known}
use Rattle.source_session.specs.declared.show.LineShow.{LineShow}
use Rattle.source_session.specs.declared.show.LineShow.TheVariants.{Table, Outline, TreeItems, ImportPlaces, Changes, Problems, Find, Search}
use Rattle.source_session.specs.Sought.{Searched, asked_path_in, asked_pattern, is_wide}
use Rattle.source_session.specs.Units.{members_asked, units_at, units_if}

-- one of this many crates, which are numbered from 0
abbrev pub crate_in : ℕ → Data → Reading Crate
crate_in count d = do
  number ← number_form (codes "crate") d
  known ← under (codes "crate") (here (number_below count number))
  right (record { 0 = known })

-- a file
abbrev pub file_named : Data → Reading HirFileId
file_named d = reading_map (λ number. record { 0 = number }) (number_form (codes "file") d)

-- a show of the items of a crate's tree of a file, by columns of some units, with members or without; it is answered in one way alone, as those that follow are
abbrev pub outline_show : ℕ → Data → Reading LineShow
outline_show count d = do
  krate ← crate_in count d
  file ← file_named d
  _ ← none_at (codes "as") d
  units ← units_at d
  has_members ← members_asked d
  right (Outline krate file units has_members)

-- of the places of imports of a file
abbrev pub import_places_show : ℕ → Data → Reading LineShow
import_places_show count d = do
  krate ← crate_in count d
  file ← file_named d
  _ ← none_at (codes "as") d
  units ← units_at d
  _ ← none_at (codes "members") d
  right (ImportPlaces krate (File file) units)

-- of what is wrong with the text of a file
abbrev pub problems_show : Data → Reading LineShow
problems_show d = do
  file ← file_named d
  _ ← none_at (codes "as") d
  units ← units_at d
  _ ← none_at (codes "members") d
  right (Problems file units)

-- of what is looked for, or of the items of the path that it is
abbrev pub find_by : Searched → Data → Reading LineShow
find_by s d = if is_wide s then right (Search s) else reading_map Find (asked_path_in d)

-- of the items that have a path, or of all that match a glob, also of members where these are asked for
abbrev pub find_show : Data → Reading LineShow
find_show d = do
  names ← required_at (codes "name") asked_pattern d
  units ← units_at d
  _ ← none_at (codes "as") d
  has_members ← members_asked d
  find_by (record { pattern = names; has_members = has_members; units = units }) d

-- ---- shows of a request

-- whether a word asks for values, and not for a text
abbrev pub values_by : List ℕ → Reading Bool
values_by word = on_word word (codes "json") (right true) (on_word word (codes "text") (right false) (wrong []))

abbrev pub wants_values : Data → Reading Bool
wants_values d = do
  word ← text_form d
  values_by word

-- whether a show is to be answered by values, by default by a text
abbrev pub as_values : Data → Reading Bool
as_values = optional_at false (codes "as") wants_values

-- whether columns are told: of values alone that are of a tree
abbrev pub tells_columns : Bool → Show → Bool
tells_columns false show = false
tells_columns true (OfTree show) = true
tells_columns true (Changed since) = false

-- what is answered by values, by columns of these units; a page has its text alone
abbrev pub tree_values : ShowKind → TreeShow → Units → Option LineShow
tree_values Page show units = None
tree_values Tree show units = Some (TreeItems show.krate show.place units)
tree_values Imports show units = Some (ImportPlaces show.krate show.place units)

abbrev pub answered_by : Bool → Show → Units → Option LineShow
answered_by false show units = Some (Table show)
answered_by true (OfTree show) units = tree_values show.kind show units
answered_by true (Changed since) units = Some (Changes since)

abbrev pub request_show : ℕ → Data → Reading LineShow
request_show count d = do
  show ← request_shows.show count d
  by_values ← as_values d
  units ← units_if (tells_columns by_values show) d
  _ ← none_at (codes "members") d
  by_form (answered_by by_values show units) right (wrong_at (codes "as"))

-- ---- shows

-- by the word for what is shown
abbrev pub line_show_by : ℕ → List ℕ → Data → Reading LineShow
line_show_by count word d =
    on_word word (codes "outline") (outline_show count d)
    (on_word word (codes "import_places") (import_places_show count d)
    (on_word word (codes "problems") (problems_show d)
    (on_word word (codes "find") (find_show d)
    (request_show count d))))

-- a show after edits of a table of this many crates, by its word
abbrev pub show_form : ℕ → Data → Reading LineShow
show_form count d = do
  _ ← object_members d
  _ ← only_known OfShows d
  word ← required_at (codes "show") text_form d
  line_show_by count word d

-- the same of a value without a float
abbrev pub line_show : ℕ → Data → Reading LineShow
line_show count d = if has_float d then wrong [] else show_form count d

-- ---- crates

-- the crate is one of this many
abbrev pub IsCrateOf : ℕ → Crate → Type 0
IsCrateOf count krate = (krate.0 < count) × (krate.0 < 2 ^ 32)

-- so is the one that a show names, if it names one
abbrev pub ShowNamesCrate : ℕ → LineShow → Type 0
ShowNamesCrate count (Table show) = request.NamesCrate count show
ShowNamesCrate count (Outline krate file units has_members) = IsCrateOf count krate
ShowNamesCrate count (TreeItems krate place units) = IsCrateOf count krate
ShowNamesCrate count (ImportPlaces krate place units) = IsCrateOf count krate
ShowNamesCrate count (Changes since) = Unit {0}
ShowNamesCrate count (Problems file units) = Unit {0}
ShowNamesCrate count (Find sought) = Unit {0}
ShowNamesCrate count (Search searched) = Unit {0}
