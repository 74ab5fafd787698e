-- The objects of what is found.
use Rattle.std.specs.Prelude.{◌≡◌, ℕ, List, codes, filter, map, Option, Some, None, option_map}
use Rattle.std.specs.Option.{option_and_then, option_map_or}
use Rattle.serde_json.specs.Data.{Data, null, string, array, object, no_items, item, no_members, member}
use Rattle.serde_json.specs.View.{items_of}
use Rattle.hir_input.specs.declared.ids.BlockId.{BlockId}
use Rattle.hir_input.specs.declared.ids.Crate.{Crate}
use Rattle.hir_input.specs.declared.ids.FileAstId.{FileAstId}
use Rattle.hir_input.specs.declared.ids.HirFileId.{HirFileId}
use Rattle.hir_input.specs.Id.{shown_id}
use Rattle.item_tree.specs.Layout.{node_at}
use Rattle.item_tree.specs.Node.{node_ast}
use Rattle.item_tree_db.specs.declared.place.Place.{Place}
use Rattle.item_tree_db.specs.declared.place.Place.TheVariants.{File, Block}
use Rattle.item_tree_db.specs.State.{State, unfolding_at}
use Rattle.line_index.specs.declared.Position.{Position}
use Rattle.line_index.specs.declared.Units.{Units}
use Rattle.line_index.specs.Positions.{position_in}
use Rattle.decl_index.specs.declared.entry.Entry.{Entry}
use Rattle.decl_index.specs.Entries.{IsListing}
use Rattle.rust_items.specs.declared.source_file.ItemPlace.{ItemPlace}
use Rattle.list_forms.specs.Lines.{count_form}
use Rattle.source_rows.specs.Places.{place_of, stands_at}
use Rattle.text_session.specs.declared.texts.SourceText.{SourceText}
use Rattle.text_session.specs.SourceTexts.{text_bytes, text_places}
use Rattle.source_session.specs.Sought.{SoughtItem, is_sought}
use Rattle.text_session.specs.Sessions.{Session}
use Rattle.text_session.specs.Texts.{Texts, text_in}

-- the id of an entry's item in its file
abbrev pub ast_of : State → Entry → Option FileAstId
ast_of s e = option_map node_ast (node_at (unfolding_at s e.place e.krate.0).forest e.id)

-- an id as it is displayed
abbrev pub id_form : Option FileAstId → Data
id_form id = option_map_or (λ a. string (shown_id a)) id null

-- where the item of an id stands in a text
abbrev pub place_by_id : Option SourceText → Option FileAstId → Option ItemPlace
place_by_id t id = option_and_then (λ a. place_of a (text_places t)) id

-- an item of a file at a line and a column, with its bytes; the members of all objects are in the order of their keys
abbrev pub placed_form : HirFileId → Crate → Data → Position → ItemPlace → Data
placed_form file krate id at place =
    object
    (member (codes "column") (count_form at.column)
    (member (codes "crate") (count_form krate.0)
    (member (codes "file") (count_form file.0)
    (member (codes "id") id
    (member (codes "line") (count_form at.line)
    (member (codes "range") (array (item (count_form place.range.start) (item (count_form place.range.end) no_items))) no_members))))))

-- an item of a file, with its place where that is known, by columns of these units
abbrev pub in_file : Units → HirFileId → Crate → Data → List ℕ → Option ItemPlace → Data
in_file units file krate id text None = object (member (codes "crate") (count_form krate.0) (member (codes "file") (count_form file.0) (member (codes "id") id no_members)))
in_file units file krate id text (Some place) = placed_form file krate id (position_in units text (stands_at place)) place

-- an item of a block
abbrev pub in_block : BlockId → Crate → Data → Data
in_block block krate id = object (member (codes "block") (count_form block.0) (member (codes "crate") (count_form krate.0) (member (codes "id") id no_members)))

-- an item of the tree of a place
abbrev pub found_value : Units → Texts → Place → Crate → Option FileAstId → Data
found_value units texts (File file) krate id = let t = text_in texts file.0 in in_file units file krate (id_form id) (text_bytes t) (place_by_id t id)
found_value units texts (Block block) krate id = in_block block krate (id_form id)

-- the object of an entry
abbrev pub found_form : Units → Session → Entry → Data
found_form units u e = found_value units u.texts e.place e.krate (ast_of u.table e)

-- the objects of the entries of the table that are looked for
abbrev pub IsFound : Session → SoughtItem → Data → Type 0
IsFound u q d = (entries : List Entry) × IsListing u.table entries × (d ≡ array (items_of (map (found_form q.units u) (filter (is_sought u.table q) entries))))
