-- What was read of a line, as plain data.
use Rattle.std.specs.Prelude.{ℕ, map, All}
use Rattle.hir_input.specs.Edition.{edition_view}
use Rattle.item_tree.specs.CrateView.{crate_view}
use Rattle.source_session.specs.declared.line.Asked as code_asked
use Rattle.source_session.specs.declared.line.First.{First}
use Rattle.source_session.specs.declared.line.Settings as code_settings
use Rattle.source_session.specs.Edits.{IsUsable}
use Rattle.text_session.specs.Edits.{text_edit_view}
use Rattle.source_session.specs.Lines.{Asked, Settings}
use Rattle.source_session.specs.Shows.{ShowNamesCrate}

abbrev pub settings_view : code_settings.Settings → Settings
settings_view s = record { crates = map crate_view s.crates.items; skipped = s.skipped.items; edition = edition_view s.edition; start = s.start }

abbrev pub asked_view : code_asked.Asked → Asked
asked_view a = record { edits = map text_edit_view a.edits.items; shows = a.shows.items }

abbrev pub first_view : First → Settings × Asked
first_view f = (settings_view f.settings, asked_view f.asked)

-- the crates that it names are of this many, and its texts are short
pub record IsOwn (count : ℕ) (a : code_asked.Asked) : Type 0 where
  pub edits : All (IsUsable count) a.edits.items
  pub shows : All (ShowNamesCrate count) a.shows.items
