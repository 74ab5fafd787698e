-- For the crate's own functions.
use Rattle.std.specs.Prelude.{◌≡◌, ℕ, Bool, List, [], ◌∷◌, codes, Option, option_copied, string_bytes}
use Rattle.serde_json.specs.Data.{Data, string, Members, no_members, member, put}
use Rattle.hir_input.specs.declared.edition.Edition.{Edition}
use Rattle.line_index.specs.declared.Units.{Units}
use Rattle.item_tree.specs.Node.{Unfolding}
use Rattle.item_tree.specs.Walk.{of_id}
use Rattle.tree_walk.specs.Listed.{listed_import}
use Rattle.tree_walk.specs.Views.{subject_view}
use Rattle.rust_items.specs.declared.source_file.ItemPlace.{ItemPlace}
use Rattle.source_rows.specs.Listed.{MemberReading}
use Rattle.source_listing.specs.declared.entries.Entry as code_entry
use Rattle.source_listing.specs.declared.entries.EntryKind as code_kind
use Rattle.source_listing.specs.declared.entries.EntryKind.TheVariants.{Import, Item, Member}
use Rattle.source_listing.specs.declared.printer.Printer.{Printer}
use Rattle.source_listing.specs.declared.sought.Split as code_split
use Rattle.source_rows.specs.declared.finder.Spot.{Spot}
use Rattle.source_listing.specs.Entries.{Entry, EntryKind, of_item, of_member, of_import, entry_word}
use Rattle.source_listing.specs.Lines.{Choice, Source}
use Rattle.source_listing.specs.Objects.{column_form, entry_id, line_form, name_form, node_objects, entry_subject, range_form, visibility_form}
use Rattle.source_listing.specs.Sought.{Split}
use Rattle.source_listing.specs.Uses.{FilePlaces, with_places}

-- ---- printers, and what finds places for them

abbrev pub file_of : Printer → Source
file_of p = record { path = p.path.now; text = p.finder.text }

abbrev pub places_of : Printer → FilePlaces
places_of p = p.finder.places

abbrev pub reserved_of : Printer → List (List ℕ)
reserved_of p = p.edition.now.reserved.items

abbrev pub IsPrinterOf : Source → FilePlaces → Edition → Printer → Type 0
IsPrinterOf s places edition p = (p.path.now ≡ s.path) × (p.edition.now ≡ edition) × (p.finder ≡ with_places s.text places)

-- nothing of the file is another
abbrev pub IsSameFile : Printer → Printer → Type 0
IsSameFile old new = (new.path ≡ old.path) × (new.edition ≡ old.edition) × (new.finder ≡ old.finder)

-- ---- what is looked for

abbrev pub split_view : code_split.Split → Split
split_view s = record { scope = string_bytes s.scope; last = s.last.now }

-- ---- objects by the ids of items

-- the objects of the item of an id
abbrev pub objects_at : Units → Source → MemberReading → List (List ℕ) → List ItemPlace → Choice → Unfolding → ℕ → Bool → ℕ → List Data
objects_at units s x reserved places c u level is_active i = of_id u [] (node_objects units s x reserved places c level is_active) i

-- ---- entries

abbrev pub kind_view : code_kind.EntryKind → EntryKind
kind_view (Item id header subject) = of_item id header.now (subject_view subject)
kind_view (Member kind) = of_member kind
kind_view (Import i) = of_import (listed_import i.now)

abbrev pub entry_view : code_entry.Entry → Entry
entry_view e = record { kind = kind_view e.kind; name = option_copied e.name; visibility = option_copied e.visibility; is_active = e.is_active; spot = e.spot }

-- the members of an object that tell what an entry is
abbrev pub entry_members : List (List ℕ) → Entry → Members
entry_members reserved e =
    member (codes "id") (entry_id e.kind) (member (codes "kind") (string (entry_word e.kind)) (member (codes "name") (name_form e.name)
    (member (codes "path") (entry_subject reserved e.kind) (member (codes "visibility") (visibility_form reserved e.visibility) no_members))))

-- those that tell where it stands
abbrev pub stand_members : Option Spot → Members → Members
stand_members spot ms =
    put (codes "column") (column_form spot) (put (codes "line") (line_form spot) (put (codes "range") (range_form spot) ms))
