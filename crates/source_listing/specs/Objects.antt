-- The objects of an outline, and of problems.
use Rattle.std.specs.Prelude.{ℕ, ◌+◌, Bool, if◌then◌else◌, List, [], ◌∷◌, ◌++◌, codes, filter, map, Option, Some, None, option_map}
use Rattle.serde_json.specs.Data.{Data, null, boolean, string, array, object, Items, no_items, item, no_members, member}
use Rattle.serde_json.specs.View.{items_of}
use Rattle.list_forms.specs.Lines as lines
use Rattle.list_forms.specs.Lines.{count_form}
use Rattle.hir_input.specs.Id.{shown_id}
use Rattle.hir_input.specs.Path.{shown_path}
use Rattle.item_tree.specs.declared.visibility.RawVisibility.{RawVisibility}
use Rattle.item_tree.specs.declared.visibility.RawVisibility.TheVariants.{Module, PubSelf, PubCrate, Public}
use Rattle.item_tree.specs.declared.visibility.VisibilityExplicitness.TheVariants.{Explicit, Implicit}
use Rattle.item_tree.specs.Node.{Node, leaf, parent, Forest, empty, more, Unfolding}
use Rattle.tree_walk.specs.Rows.{Subject, no_subject, used, called, is_file_enabled}
use Rattle.line_index.specs.declared.Position.{Position}
use Rattle.line_index.specs.declared.Units.{Units}
use Rattle.line_index.specs.declared.Units.TheVariants.{Characters}
use Rattle.line_index.specs.Positions.{position_in}
use Rattle.rust_paths.specs.declared.names.TextRange.{TextRange}
use Rattle.rust_items.specs.declared.log.Problem.{Problem}
use Rattle.rust_items.specs.declared.source_file.ItemPlace.{ItemPlace}
use Rattle.source_rows.specs.Listed.{Listed, MemberReading, header_of, members_of}
use Rattle.source_problems.specs.declared.problem.SourceProblemKind.{SourceProblemKind}
use Rattle.source_problems.specs.Problems.{told_kind}
use Rattle.source_rows.specs.declared.finder.Spot.{Spot}
use Rattle.source_listing.specs.Entries.{Entry, EntryKind, ItemView, of_item, of_member, of_import, entry_word, item_entry, item_in, member_entry}
use Rattle.source_listing.specs.ImportTexts.{import_text}
use Rattle.source_listing.specs.Lines.{Choice, Source, is_chosen, message, short_tree, visible_in}
use Rattle.source_rows.specs.Places.{place_of, spot_in}

-- a name, if there is one
abbrev pub name_form : Option (List ℕ) → Data
name_form None = null
name_form (Some name) = string name

-- ---- what is told

-- the header of an impl; other items have none
abbrev pub header_form : List ℕ → Data
header_form [] = null
header_form (b ∷ bs) = string (b ∷ bs)

-- what an item without a name is told by: a use tree in short, the path of a macro, or the header of an impl
abbrev pub subject_form : List (List ℕ) → List ℕ → Subject → Data
subject_form reserved header no_subject = header_form header
subject_form reserved header (used tree) = string (short_tree reserved tree)
subject_form reserved header (called path) = string (shown_path reserved path)

abbrev pub visibility_form : List (List ℕ) → Option RawVisibility → Data
visibility_form reserved None = null
visibility_form reserved (Some Public) = string (codes "pub")
visibility_form reserved (Some PubCrate) = string (codes "pub(crate)")
visibility_form reserved (Some (PubSelf Explicit)) = string (codes "pub(self)")
visibility_form reserved (Some (PubSelf Implicit)) = null
visibility_form reserved (Some (Module path e)) = string (visible_in reserved path)

abbrev pub line_form : Option Spot → Data
line_form None = null
line_form (Some spot) = count_form spot.position.line

abbrev pub column_form : Option Spot → Data
column_form None = null
column_form (Some spot) = count_form spot.position.column

-- bytes, from where to where
abbrev pub bytes_form : Option TextRange → Data
bytes_form None = null
bytes_form (Some range) = array (item (count_form range.start) (item (count_form range.end) no_items))

abbrev pub range_form : Option Spot → Data
range_form None = null
range_form (Some spot) = bytes_form (Some spot.range)

-- ---- objects

-- members and imports have no id in a tree
abbrev pub entry_id : EntryKind → Data
entry_id (of_item id _ _) = string (shown_id id)
entry_id _ = null

-- what an entry without a name is told by; an import is told as a use of it alone
abbrev pub entry_subject : List (List ℕ) → EntryKind → Data
entry_subject reserved (of_item id header subject) = subject_form reserved header subject
entry_subject reserved (of_member kind) = null
entry_subject reserved (of_import i) = string (import_text reserved i.kind i.path i.alias)

-- the object of an entry around others; the members of an object are in the order of their keys
abbrev pub entry_object : List (List ℕ) → Entry → Items → Data
entry_object reserved e inner =
    object
    (member (codes "active") (boolean e.is_active)
    (member (codes "children") (array inner)
    (member (codes "column") (column_form e.spot)
    (member (codes "id") (entry_id e.kind)
    (member (codes "kind") (string (entry_word e.kind))
    (member (codes "line") (line_form e.spot)
    (member (codes "name") (name_form e.name)
    (member (codes "path") (entry_subject reserved e.kind)
    (member (codes "range") (range_form e.spot)
    (member (codes "visibility") (visibility_form reserved e.visibility) no_members))))))))))

-- names, from the outermost on
abbrev pub names_form : List (List ℕ) → Data
names_form names = array (items_of (map string names))

-- the object of an entry that stands alone, in a file and in these names
abbrev pub flat_object : List ℕ → List (List ℕ) → List (List ℕ) → Entry → Data
flat_object path reserved scope e =
    object
    (member (codes "active") (boolean e.is_active)
    (member (codes "column") (column_form e.spot)
    (member (codes "file") (string path)
    (member (codes "id") (entry_id e.kind)
    (member (codes "kind") (string (entry_word e.kind))
    (member (codes "line") (line_form e.spot)
    (member (codes "name") (name_form e.name)
    (member (codes "path") (entry_subject reserved e.kind)
    (member (codes "range") (range_form e.spot)
    (member (codes "scope") (names_form scope)
    (member (codes "visibility") (visibility_form reserved e.visibility) no_members)))))))))))

-- where a member of a text stands, and its bytes
abbrev pub member_spot : Units → List ℕ → Listed → Spot
member_spot units text m = record { position = position_in units text m.at; range = m.range }

abbrev pub member_object : Units → List ℕ → List (List ℕ) → Listed → Data
member_object units text reserved m = entry_object reserved (member_entry (member_spot units text m) m) no_items

-- the objects of the listed members of an item in so many others
abbrev pub member_objects : Units → List ℕ → List (List ℕ) → Choice → ℕ → List Listed → List Data
member_objects units text reserved c level ms = map (member_object units text reserved) (filter (λ m. is_chosen c (level + 1) m.is_active) ms)

abbrev pub file_form : List ℕ → Items → Data
file_form path items = object (member (codes "items") (array items) (member (codes "path") (string path) no_members))

module _ (units : Units) (s : Source) (x : MemberReading) (reserved : List (List ℕ)) (places : List ItemPlace) (c : Choice) where
  -- the object of an item that stands there, around those of its listed members and then these
  abbrev pub whole_object : ℕ → ItemView → Option ItemPlace → List Data → Data
  whole_object level i place inner =
      entry_object reserved (item_entry (header_of x i.id.kind place) (option_map (spot_in units s.text) place) i)
      (items_of (member_objects units s.text reserved c level (members_of x place i.is_active) ++ inner))

  -- the same by its id, if it is listed; what stands in an item that is not listed is not listed either
  abbrev pub own_objects : ℕ → ItemView → List Data → List Data
  own_objects level i inner = if is_chosen c level i.is_active then whole_object level i (place_of i.id places) inner ∷ [] else []

  -- those of a node and of a forest
  abbrev mutual
    pub node_objects : ℕ → Bool → Node → List Data
    node_objects level is_active (leaf h l) = own_objects level (item_in is_active (leaf h l)) []
    node_objects level is_active (parent h t f) =
        own_objects level (item_in is_active (parent h t f)) (listed_objects (level + 1) (item_in is_active (parent h t f)).is_active f)

    pub listed_objects : ℕ → Bool → Forest → List Data
    listed_objects level is_active empty = []
    listed_objects level is_active (more n f) = node_objects level is_active n ++ listed_objects level is_active f

  -- those of a whole tree
  abbrev pub tree_objects : Unfolding → List Data
  tree_objects u = listed_objects 0 (is_file_enabled u) u.forest

-- the object of a file, on one line, by columns of characters
abbrev pub json_line : Source → MemberReading → List (List ℕ) → List ItemPlace → Choice → Unfolding → List ℕ
json_line s x reserved places c u = lines.value_line (file_form s.path (items_of (tree_objects Characters s x reserved places c u)))

-- ---- problems

-- what is wrong at a line and a column
abbrev pub problem_at : Position → SourceProblemKind → Data
problem_at at kind =
    object
    (member (codes "column") (count_form at.column)
    (member (codes "line") (count_form at.line)
    (member (codes "message") (string (message kind)) no_members)))

-- the object of what the reader of items tells of a text
abbrev pub problem_form : Units → List ℕ → Problem → Data
problem_form units text p = problem_at (position_in units text p.at) (told_kind p.kind)

-- the objects of problems
abbrev pub problem_objects : Units → List ℕ → List Problem → List Data
problem_objects units text ps = map (problem_form units text) ps
