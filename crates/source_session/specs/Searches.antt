-- What a search finds: items and members whose names match.
use Rattle.std.specs.Prelude.{◌≡◌, ℕ, false, List, [], codes, Option, Some, None, flat_map, map}
use Rattle.serde_json.specs.Data.{Data, string, array, object, no_items, item, no_members, member}
use Rattle.serde_json.specs.View.{items_of}
use Rattle.hir_input.specs.declared.ids.BlockId.{BlockId}
use Rattle.hir_input.specs.declared.ids.Crate.{Crate}
use Rattle.hir_input.specs.declared.ids.HirFileId.{HirFileId}
use Rattle.item_tree_db.specs.declared.place.Place.{Place}
use Rattle.item_tree_db.specs.declared.place.Place.TheVariants.{File, Block}
use Rattle.item_tree_db.specs.Since.{Change, IsSince}
use Rattle.item_tree_db.specs.State.{unfolding_at}
use Rattle.line_index.specs.declared.Units.{Units}
use Rattle.line_index.specs.Positions.{position_in}
use Rattle.tree_walk.specs.Rows.{rows}
use Rattle.rust_paths.specs.declared.names.TextRange.{TextRange}
use Rattle.source_rows.specs.declared.finder.Spot.{Spot}
use Rattle.list_forms.specs.declared.lines.Form.TheVariants.{Json}
use Rattle.list_forms.specs.Lines.{count_form}
use Rattle.source_listing.specs.Patterns.{Pattern}
use Rattle.source_listing.specs.Search.{Candidate, Query, found_in_rows, joined_scope}
use Rattle.source_session.specs.Found.{id_form}
use Rattle.text_session.specs.Sessions.{Session}
use Rattle.source_session.specs.Sought.{Searched}
use Rattle.source_session.specs.ShownTexts.{member_options}
use Rattle.text_session.specs.SourceTexts.{text_bytes, text_places, text_reading}
use Rattle.text_session.specs.Texts.{text_of_place}

-- as the command looks for it: letters of two cases are two, and all kinds count, and what a cfg disables
abbrev pub query_of : Pattern → Query
query_of p = record { scope = p.scope; name = p.name; is_anywhere = p.is_anywhere; ignores_case = false; kinds = []; only_active = false; form = Json }

-- ---- objects, the members of each in the order of their keys

-- what is found in a block
abbrev pub match_in_block : BlockId → Crate → Candidate → Data
match_in_block block krate c =
    object
    (member (codes "block") (count_form block.0)
    (member (codes "crate") (count_form krate.0)
    (member (codes "id") (id_form c.id)
    (member (codes "kind") (string c.word)
    (member (codes "name") (string c.name)
    (member (codes "scope") (string (joined_scope c.scope)) no_members))))))

-- what is found in a file, with its place where that is known
abbrev pub match_in_file : HirFileId → Crate → Option Spot → Candidate → Data
match_in_file file krate None c =
    object
    (member (codes "crate") (count_form krate.0)
    (member (codes "file") (count_form file.0)
    (member (codes "id") (id_form c.id)
    (member (codes "kind") (string c.word)
    (member (codes "name") (string c.name)
    (member (codes "scope") (string (joined_scope c.scope)) no_members))))))
match_in_file file krate (Some spot) c =
    object
    (member (codes "column") (count_form spot.position.column)
    (member (codes "crate") (count_form krate.0)
    (member (codes "file") (count_form file.0)
    (member (codes "id") (id_form c.id)
    (member (codes "kind") (string c.word)
    (member (codes "line") (count_form spot.position.line)
    (member (codes "name") (string c.name)
    (member (codes "range") (array (item (count_form spot.range.start) (item (count_form spot.range.end) no_items)))
    (member (codes "scope") (string (joined_scope c.scope)) no_members)))))))))

-- what is found in a tree of a place
abbrev pub match_form : Place → Crate → Option Spot → Candidate → Data
match_form (File file) krate spot c = match_in_file file krate spot c
match_form (Block block) krate spot c = match_in_block block krate c

-- where something stands in a text, if that is known
abbrev pub match_spot : Units → List ℕ → Option ℕ → Option TextRange → Option Spot
match_spot units text (Some at) (Some range) = Some (record { position = position_in units text at; range = range })
match_spot units text _ _ = None

-- the same with its place in this text, by columns of these units
abbrev pub match_at : Units → List ℕ → Place → Crate → Candidate → Data
match_at units text place krate c = match_form place krate (match_spot units text c.at c.range) c

-- ---- all trees

-- what is found in a crate's tree of a place
abbrev pub place_matches : Session → Searched → Place → Crate → List Data
place_matches u q place krate =
    let t = text_of_place u.texts place in
    let x = text_reading u.edition.0 (member_options u.table krate q.has_members) t in
    map (match_at q.units (text_bytes t) place krate) (found_in_rows x (text_places t) (query_of q.pattern) (rows (unfolding_at u.table place krate.0)))

-- the same of a tree that changed
abbrev pub change_matches : Session → Searched → Change → List Data
change_matches u q c = place_matches u q c.0 c.1

-- the objects of all that is looked for, in the order of places, of crates, and as it is written; a tree that never changed is empty
abbrev pub IsSearchValue : Session → Searched → Data → Type 0
IsSearchValue u q d = (changes : List Change) × IsSince u.table 0 changes × (d ≡ array (items_of (flat_map (change_matches u q) changes)))
