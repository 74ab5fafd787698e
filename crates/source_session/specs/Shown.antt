-- What is shown of a session.
use Rattle.std.specs.Prelude.{◌≡◌, ℕ, Bool, false, List, [], codes, if◌then◌else◌, is_some, map, option_and_then, Option, Some, None}
use Rattle.serde_json.specs.Data.{Data, string, array, object, Members, no_members, member}
use Rattle.serde_json.specs.View.{items_of}
use Rattle.hir_input.specs.declared.ids.Crate.{Crate}
use Rattle.hir_input.specs.declared.ids.HirFileId.{HirFileId}
use Rattle.line_index.specs.declared.Units.{Units}
use Rattle.item_tree.specs.Node.{Unfolding}
use Rattle.item_tree_db.specs.declared.place.Place.{Place}
use Rattle.item_tree_db.specs.declared.place.Place.TheVariants.{File, Block}
use Rattle.item_tree_db.specs.Since.{Change, IsSince}
use Rattle.item_tree_db.specs.State.{State, change_number, present, unfolding_at}
use Rattle.item_tree_request.specs.Outputs.{IsPrinted}
use Rattle.item_tree_request.specs.declared.request.show.Show.{Show}
use Rattle.item_tree_request.specs.declared.request.show.Show.TheVariants.{OfTree, Changed}
use Rattle.source_imports.specs.ImportObjects.{import_objects}
use Rattle.source_listing.specs.Lines.{Choice, Source}
use Rattle.list_forms.specs.Lines.{count_form}
use Rattle.source_listing.specs.Objects.{tree_objects, problem_objects}
use Rattle.source_session.specs.declared.show.LineShow.{LineShow}
use Rattle.source_session.specs.declared.show.LineShow.TheVariants.{Table, Outline, TreeItems, ImportPlaces, Changes, Problems, Find, Search}
use Rattle.source_session.specs.Found.{IsFound}
use Rattle.source_session.specs.Searches.{IsSearchValue}
use Rattle.text_session.specs.Sessions.{Session}
use Rattle.source_session.specs.ShownTexts.{member_options, places_of_text}
use Rattle.text_session.specs.SourceTexts.{text_bytes, text_places, text_problems, text_reading}
use Rattle.text_session.specs.Texts.{text_of_place, text_in}

-- ---- trees

-- a crate's tree of a place
abbrev pub shown_tree : Session → Crate → Place → Unfolding
shown_tree u krate place = unfolding_at u.table place krate.0

-- all items, at every depth, also those that a cfg disables
abbrev pub all_items : Choice
all_items = record { depth = None; only_active = false }

-- a file, of whose objects the path is no part
abbrev pub pathless_source : List ℕ → Source
pathless_source text = record { path = []; text = text }

-- the objects of the items of a place, by columns of these units, with members or without
abbrev pub item_objects : Session → Crate → Place → Units → Bool → List Data
item_objects u krate place units has_members =
    let t = text_of_place u.texts place in
    let s = pathless_source (text_bytes t) in
    let read = text_reading u.edition.0 (member_options u.table krate has_members) t in
    tree_objects units s read u.edition.1 (text_places t) all_items (shown_tree u krate place)

-- those of a file
abbrev pub outline_form : Session → Crate → HirFileId → Units → Bool → Data
outline_form u krate file units has_members = array (items_of (item_objects u krate (File file) units has_members))

-- the objects of the imports of a place
abbrev pub imports_form : Session → Crate → Place → Units → Data
imports_form u krate place units = let t = text_of_place u.texts place in array (items_of (import_objects units (text_bytes t) u.edition.1 (places_of_text t) (shown_tree u krate place).forest))

-- the objects of the problems of a file's text
abbrev pub problems_form : Session → HirFileId → Units → Data
problems_form u file units = let t = text_in u.texts file.0 in array (items_of (problem_objects units (text_bytes t) (text_problems t)))

-- ---- changes

-- a place and a crate with a change number, and then these members; all are in the order of their keys
abbrev pub change_with : Members → Change → Data
change_with more (File file, krate, n) = object (member (codes "change") (count_form n) (member (codes "crate") (count_form krate.0) (member (codes "file") (count_form file.0) more)))
change_with more (Block block, krate, n) = object (member (codes "block") (count_form block.0) (member (codes "change") (count_form n) (member (codes "crate") (count_form krate.0) more)))

-- the object of a change
abbrev pub change_form : Change → Data
change_form c = change_with no_members c

-- items as the last member of an object
abbrev pub items_member : List Data → Members
items_member items = member (codes "items") (array (items_of items)) no_members

-- the object of a crate's tree of a place: when it changed last, and its items
abbrev pub tree_form : Session → Crate → Place → Units → Data
tree_form u krate place units = change_with (items_member (item_objects u krate place units false)) (place, krate, change_number u.table place krate.0)

-- the objects of all changes since a number
abbrev pub AreChangeValues : State → ℕ → Data → Type 0
AreChangeValues s since d = (changes : List Change) × IsSince s since changes × (d ≡ array (items_of (map change_form changes)))

-- ---- shows

-- the text of a show of a request, under these reserved words
abbrev pub IsTextOf : List (List ℕ) → State → Show → Data → Type 0
IsTextOf reserved s show d = (text : List ℕ) × IsPrinted reserved s show text × (d ≡ string text)

-- the value of a show, if something is set at the place that it is of
abbrev pub IsPresentValue : Session → LineShow → Data → Type 0
IsPresentValue u (Table show) d = IsTextOf u.edition.1 u.table show d
IsPresentValue u (Outline krate file units has_members) d = d ≡ outline_form u krate file units has_members
IsPresentValue u (TreeItems krate place units) d = d ≡ tree_form u krate place units
IsPresentValue u (ImportPlaces krate place units) d = d ≡ imports_form u krate place units
IsPresentValue u (Changes since) d = AreChangeValues u.table since d
IsPresentValue u (Problems file units) d = d ≡ problems_form u file units
IsPresentValue u (Find sought) d = IsFound u sought d
IsPresentValue u (Search searched) d = IsSearchValue u searched d

-- ---- places at which nothing is set

-- the place that a show is of, if it is of one
abbrev pub place_shown : LineShow → Option Place
place_shown (Table (OfTree show)) = Some show.place
place_shown (Table (Changed since)) = None
place_shown (Outline krate file units has_members) = Some (File file)
place_shown (TreeItems krate place units) = Some place
place_shown (ImportPlaces krate place units) = Some place
place_shown (Changes since) = None
place_shown (Problems file units) = Some (File file)
place_shown (Find sought) = None
place_shown (Search searched) = None

-- a place, if nothing is set there
abbrev pub if_unset : State → Place → Option Place
if_unset s place = if is_some (present s place) then None else Some place

-- the place that a show is of, if nothing is set there
abbrev pub unset_place : State → LineShow → Option Place
unset_place s show = option_and_then (if_unset s) (place_shown show)

-- what tells so: an error with the number of the file or the block
abbrev pub unset_error : Place → Data
unset_error (File file) = object (member (codes "file") (count_form file.0) (member (codes "kind") (string (codes "not set")) no_members))
unset_error (Block block) = object (member (codes "block") (count_form block.0) (member (codes "kind") (string (codes "not set")) no_members))

-- as the one member of the value of a show
abbrev pub unset_form : Place → Data
unset_form place = object (member (codes "error") (unset_error place) no_members)

-- what is answered of a place at which nothing is set, and else of the show
abbrev pub IsValueUnless : Option Place → Session → LineShow → Data → Type 0
IsValueUnless None u show d = IsPresentValue u show d
IsValueUnless (Some place) u show d = d ≡ unset_form place

-- the value of a show
abbrev pub IsShowValue : Session → LineShow → Data → Type 0
IsShowValue u show d = IsValueUnless (unset_place u.table show) u show d
