-- What private contracts alone cite of finding items by their ids.
use Rattle.std.specs.Prelude.{◌≡◌, ◌≢◌, ℕ, List, [], ◌∷◌, map, Option, Some, None, IfSome, option_map, AllPairs, option_and_then}
use Rattle.serde_json.specs.Data.{Data}
use Rattle.hir_input.specs.declared.ids.Crate.{Crate}
use Rattle.hir_input.specs.declared.ids.FileAstId.{FileAstId}
use Rattle.line_index.specs.declared.Units.{Units}
use Rattle.item_tree.specs.Layout.{node_at}
use Rattle.item_tree.specs.Node.{Unfolding, node_ast}
use Rattle.item_tree_db.specs.declared.place.Place.{Place}
use Rattle.item_tree_db.specs.declared.place.Place.TheVariants.{File, Block}
use Rattle.item_tree_db.specs.State.{unfolding_at}
use Rattle.tree_walk.specs.Declarations.{declared_at}
use Rattle.tree_walk.specs.DeclarationView.{declaration_id}
use Rattle.tree_walk.specs.declared.collector.Declaration as code
use Rattle.rust_items.specs.declared.source_file.ItemPlace.{ItemPlace}
use Rattle.source_rows.specs.Places.{AreDistinct, place_of}
use Rattle.source_session.specs.declared.scopes.Scopes.{Scopes}
use Rattle.source_session.specs.declared.found.EntryFinder.{EntryFinder}
use Rattle.source_session.specs.Found.{id_form, in_block, in_file}
use Rattle.source_session.specs.Sought.{own_scope}
use Rattle.text_session.specs.SourceTexts.{text_bytes, text_places}
use Rattle.text_session.specs.Sessions.{Session}
use Rattle.text_session.specs.Texts.{text_of_place}

-- ---- what is around items

-- the id of a declared item, and the names of the modules around it
abbrev pub declared_scope : code.Declaration → ℕ × List (List ℕ)
declared_scope d = (d.id, map (λ name. name.now) d.path.value.items)

-- the names around the first of some declarations
abbrev pub head_scope : List code.Declaration → Option (List (List ℕ))
head_scope [] = None
head_scope (d ∷ ds) = Some (map (λ name. name.now) d.path.value.items)

-- what is around each item of a tree is known, once
pub record KnowsScopes (u : Unfolding) (x : Scopes) : Type 0 where
  pub all : map declared_scope x.declarations.items ≡ map own_scope (declared_at u)
  pub once : AllPairs (λ i j. i ≢ j) (map declaration_id x.declarations.items)

-- ---- and where they stand

-- what finds items finds those of a crate's tree of a place
pub record FindsIn (u : Session) (at : Place) (of : Crate) (f : EntryFinder) : Type 0 where
  pub place : f.place ≡ at
  pub krate : f.krate ≡ of
  pub tree : f.tree.now ≡ unfolding_at u.table at of.0
  pub scopes : IfSome f.scopes (KnowsScopes f.tree.now)
  pub lines : f.spots.lines ≡ text_bytes (text_of_place u.texts at)
  pub places : f.spots.places ≡ text_places (text_of_place u.texts at)
  pub distinct : AreDistinct f.spots.places

-- those of some place
abbrev pub IsFinder : Session → EntryFinder → Type 0
IsFinder u f = FindsIn u f.place f.krate f

-- the id of an item in its file
abbrev pub ast_in : Unfolding → ℕ → Option FileAstId
ast_in u i = option_map node_ast (node_at u.forest i)

-- the object of an item of a place with this text
abbrev pub found_with : Units → List ℕ → List ItemPlace → Place → Crate → Option FileAstId → Data
found_with units text places (File file) krate id = in_file units file krate (id_form id) text (option_and_then (λ a. place_of a places) id)
found_with units text places (Block block) krate id = in_block block krate (id_form id)
