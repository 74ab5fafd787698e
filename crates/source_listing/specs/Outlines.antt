-- Outlines: a line of text or a flat object for each entry.
use Rattle.std.specs.Prelude.{ℕ, Bool, ◌+◌, ◌&&◌, if◌then◌else◌, List, [], ◌∷◌, ◌++◌, codes, filter, Option, Some, None, option_map, option_to_list, flat_map}
use Rattle.hir_input.specs.Name.{shown_name}
use Rattle.item_tree.specs.Imports.{Import, imports}
use Rattle.item_tree.specs.Tree.{Tree, prefixed}
use Rattle.line_index.specs.declared.Units.TheVariants.{Characters}
use Rattle.tree_walk.specs.Rows.{RowView, Subject, used}
use Rattle.rust_items.specs.declared.source_file.ItemPlace.{ItemPlace}
use Rattle.source_rows.specs.Listed.{Listed, MemberReading, header_of, members_of}
use Rattle.source_rows.specs.Places.{item_place, place_of, spot_in}
use Rattle.list_forms.specs.Colors.{bold_code, colored_text, cyan_code, faint_code}
use Rattle.list_forms.specs.Lines.{value_line}
use Rattle.list_forms.specs.declared.lines.Form.{Form}
use Rattle.list_forms.specs.declared.lines.Form.TheVariants.{Json, Line}
use Rattle.source_listing.specs.Entries.{Entry, EntryKind, of_item, of_member, of_import, entry_word, import_entry, item_entry, item_in_row, member_entry}
use Rattle.source_listing.specs.ImportTexts.{import_text}
use Rattle.source_listing.specs.Lines.{Choice, Source, indent, is_chosen, is_listed, line_end, subject_text, visibility_text}
use Rattle.source_listing.specs.Objects.{flat_object, member_spot}
use Rattle.source_listing.specs.Search.{holder}
use Rattle.source_listing.specs.Uses.{FilePlaces, Trees, tree_spots, use_trees_at}

-- which entries are told, in which form, whether lines have the names of what is around an entry in place of blanks at the beginning, and whether the imports of uses are told
pub record Look : Type 0 where
  pub choice : Choice
  pub form : Form
  pub is_flat : Bool
  pub has_imports : Bool

-- ---- lines

-- how deep a line is told to be
abbrev pub shown_level : Bool → ℕ → ℕ
shown_level is_flat level = if is_flat then 0 else level

-- what a name is told to be in
abbrev pub shown_scope : Bool → List (List ℕ) → List (List ℕ)
shown_scope is_flat scope = if is_flat then scope else []

abbrev pub name_around : List ℕ → List ℕ
name_around name = name ++ codes "::"

-- a blank, the names around a name, and it, if there is one
abbrev pub scoped_name : List (List ℕ) → List (List ℕ) → Option (List ℕ) → List ℕ
scoped_name reserved scope None = []
scoped_name reserved scope (Some name) = codes " " ++ flat_map name_around scope ++ shown_name reserved name

-- the header of an impl, behind a blank
abbrev pub header_text : List ℕ → List ℕ
header_text [] = []
header_text (b ∷ bs) = codes " " ++ b ∷ bs

abbrev pub title_front : EntryKind → List ℕ
title_front (of_item _ header _) = header_text header
title_front _ = []

-- what an entry without a name is told by; an import is told as a use of it alone
abbrev pub title_end : List (List ℕ) → EntryKind → List ℕ
title_end reserved (of_item id header subject) = subject_text reserved subject
title_end reserved (of_member kind) = []
title_end reserved (of_import i) = codes " " ++ import_text reserved i.kind i.path i.alias

-- what the word of a kind is followed by: the header of an impl, a name in these, or what else an entry is told by
abbrev pub title : List (List ℕ) → List (List ℕ) → Entry → List ℕ
title reserved scope e = title_front e.kind ++ scoped_name reserved scope e.name ++ title_end reserved e.kind

-- members and imports are one level deeper than their item
abbrev pub own_level : EntryKind → ℕ
own_level (of_item _ _ _) = 0
own_level _ = 1

-- the line of an entry whose item is in so many others: its place, four blanks for each level, its visibility, the word of its kind, its title, and whether a cfg disables it
abbrev pub entry_line : List ℕ → List (List ℕ) → (is_colored is_flat : Bool) → ℕ → List (List ℕ) → Entry → List ℕ
entry_line path reserved is_colored is_flat level scope e =
    colored_text is_colored faint_code (item_place path e.spot) ++ (indent (shown_level is_flat level) ++ indent (shown_level is_flat (own_level e.kind))) ++ visibility_text reserved e.visibility
    ++ colored_text is_colored cyan_code (entry_word e.kind) ++ colored_text is_colored bold_code (title reserved (shown_scope is_flat scope) e) ++ line_end e.is_active

-- ---- objects

-- the object of an entry in these names, on a line
unfoldable pub object_line : List ℕ → List (List ℕ) → List (List ℕ) → Entry → List ℕ
object_line path reserved scope e = value_line (flat_object path reserved scope e)

-- ---- entries of a tree

-- an entry whose item is in so many others, told to be in these names
abbrev pub entry_text : List ℕ → List (List ℕ) → Form → Bool → ℕ → List (List ℕ) → Entry → List ℕ
entry_text path reserved (Line is_colored) is_flat level scope e = entry_line path reserved is_colored is_flat level scope e
entry_text path reserved Json is_flat level scope e = object_line path reserved scope e

-- what the members of an item that stands there are in: the modules around it, and it, or the type of an impl
abbrev pub names_around_members : MemberReading → RowView → Option ItemPlace → List (List ℕ)
names_around_members x r place = r.scope ++ option_to_list (holder x r place)

-- the imports of a use that has a list
abbrev pub opened_tree : Tree → List Import
opened_tree (prefixed path trees) = imports (prefixed path trees)
opened_tree _ = []

-- of what an item is told by
abbrev pub opened_imports : Subject → List Import
opened_imports (used tree) = opened_tree tree
opened_imports _ = []

-- imports are listed as members are
abbrev pub is_opened : Look → RowView → Bool
is_opened k r = k.has_imports && is_chosen k.choice (r.level + 1) r.is_active

module _ (s : Source) (reserved : List (List ℕ)) (k : Look) where
  -- an item in a row, which stands there
  abbrev pub item_text : MemberReading → RowView → Option ItemPlace → List ℕ
  item_text x r place = entry_text s.path reserved k.form k.is_flat r.level r.scope (item_entry (header_of x r.id.kind place) (option_map (spot_in Characters s.text) place) (item_in_row r))

  -- a member of an item in so many others, in these names
  abbrev pub member_text : ℕ → List (List ℕ) → Listed → List ℕ
  member_text level scope m = entry_text s.path reserved k.form k.is_flat level scope (member_entry (member_spot Characters s.text m) m)

  -- the listed members of an item
  abbrev pub member_texts : MemberReading → RowView → Option ItemPlace → List ℕ
  member_texts x r place = flat_map (member_text r.level (names_around_members x r place)) (filter (λ m. is_chosen k.choice (r.level + 1) m.is_active) (members_of x place r.is_active))

  -- an import of a use, at the place of its use tree
  abbrev pub opened_text : RowView → Option Trees → Import → List ℕ
  opened_text r trees i = entry_text s.path reserved k.form k.is_flat r.level r.scope (import_entry (tree_spots s.text trees i.index) r i)

  -- the listed imports of an item, which a use with a list alone has
  abbrev pub opened_texts : List ℕ → RowView → Option ItemPlace → List ℕ
  opened_texts use_trees r place = if is_opened k r then flat_map (opened_text r (option_map (use_trees_at use_trees) place)) (opened_imports r.subject) else []

  -- an item, and behind it its members and imports
  abbrev pub placed_outline : MemberReading → List ℕ → RowView → Option ItemPlace → List ℕ
  placed_outline x use_trees r place = item_text x r place ++ member_texts x r place ++ opened_texts use_trees r place

  -- the same of an item that is found by its id
  abbrev pub row_outline : MemberReading → FilePlaces → RowView → List ℕ
  row_outline x places r = placed_outline x places.use_trees r (place_of r.id places.items)

  -- the outline of a tree, of its rows: those that are listed, each with its listed members and imports
  abbrev pub outline_text : MemberReading → FilePlaces → List RowView → List ℕ
  outline_text x places rs = flat_map (row_outline x places) (filter (is_listed k.choice) rs)
