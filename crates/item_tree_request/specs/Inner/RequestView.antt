-- What a read request is seen as, and the crates that it names.
use Rattle.std.specs.Prelude.{length, map, All}
use Rattle.hir_input.specs.Edition.{edition_view}
use Rattle.item_tree.specs.CrateView.{crate_view}
use Rattle.item_tree_db.specs.Edits.{edit_view}
use Rattle.item_tree_request.specs.declared.request.Request as read
use Rattle.item_tree_request.specs.Named.{NamesCrate, EditNamesCrate}
use Rattle.item_tree_request.specs.Requests.{Request}

abbrev pub request_view : read.Request → Request
request_view r = record { start = r.settings.start; edition = edition_view r.settings.edition; skipped = r.settings.skipped.items; crates = map crate_view r.crates.items; edits = map edit_view r.edits.items; shows = r.shows.items }

-- the edits and the shows of the request name its crates
pub record NamesOwnCrates (r : read.Request) : Type 0 where
  pub edits : All (EditNamesCrate (length r.crates.items)) r.edits.items
  pub shows : All (NamesCrate (length r.crates.items)) r.shows.items
