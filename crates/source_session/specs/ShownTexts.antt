-- What is shown of the text of a file.
use Rattle.std.specs.Prelude.{Bool, if◌then◌else◌, List, Option, None}
use Rattle.hir_input.specs.declared.ids.Crate.{Crate}
use Rattle.hir_input.specs.Cfg.{AtomView}
use Rattle.item_tree_db.specs.State.{State, options}
use Rattle.source_listing.specs.Uses.{FilePlaces, file_places}
use Rattle.text_session.specs.declared.texts.SourceText.{SourceText}
use Rattle.text_session.specs.SourceTexts.{text_places, text_use_trees}

-- the places of the items and of the use trees
abbrev pub places_of_text : Option SourceText → FilePlaces
places_of_text t = file_places (text_places t) (text_use_trees t)

-- the options of a crate, where members are asked for
abbrev pub member_options : State → Crate → Bool → Option (List AtomView)
member_options s krate has_members = if has_members then options s krate else None
