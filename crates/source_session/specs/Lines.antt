-- How a line is read.
use Rattle.std.specs.Prelude.{ℕ, ◌^◌, List, [], ◌∷◌, length, codes}
use Rattle.serde_json.specs.Data.{Data}
use Rattle.item_tree.specs.CrateView.{CrateView}
use Rattle.hir_input_json.specs.Reading.{Reading, right, ◌>>=◌}
use Rattle.hir_input_json.specs.Editions.{EditionView, edition_at}
use Rattle.hir_input_json.specs.Forms.{field, optional_at, by_form, whole_form, identifier_form, list_at}
use Rattle.item_tree_request.specs.Edits.{crate_data}
use Rattle.source_session.specs.declared.keys.LineObject.TheVariants.{Whole}
use Rattle.source_session.specs.Keys.{none_at, only_known}
use Rattle.source_session.specs.declared.show.LineShow.{LineShow}
use Rattle.source_session.specs.Edits.{line_edit}
use Rattle.text_session.specs.Edits.{TextEdit}
use Rattle.source_session.specs.Shows.{line_show}

-- what opens a session
pub record Settings : Type 0 where
  pub crates : List CrateView
  -- the names of attributes that no tree has
  pub skipped : List (List ℕ)
  pub edition : EditionView
  -- the number before the first edit
  pub start : ℕ

-- the attributes that are left out of trees where a line names none: documentation, and what else rust-analyzer leaves out
abbrev pub usual_skipped : List (List ℕ)
usual_skipped =
    codes "doc" ∷ codes "stable" ∷ codes "unstable" ∷ codes "target_feature" ∷ codes "allow" ∷ codes "expect" ∷ codes "warn" ∷ codes "deny" ∷ codes "forbid" ∷ codes "repr" ∷ codes "inline" ∷ codes "track_caller" ∷ codes "must_use" ∷ []

abbrev pub skipped_at : Data → Reading (List (List ℕ))
skipped_at d = by_form (field (codes "skipped") d) (λ _. list_at identifier_form (codes "skipped") d) (right usual_skipped)

-- each by its form, in this order
abbrev pub settings : Data → Reading Settings
settings d = do
  crates ← list_at crate_data (codes "crates") d
  skipped ← skipped_at d
  language ← edition_at d
  start ← optional_at 0 (codes "start") (whole_form (2 ^ 64)) d
  right (record { crates = crates; skipped = skipped; edition = language; start = start })

-- what is asked of a session
pub record Asked : Type 0 where
  pub edits : List TextEdit
  pub shows : List LineShow

-- of one with this many crates
abbrev pub line_asked : ℕ → Data → Reading Asked
line_asked count d = do
  edits ← list_at (line_edit count) (codes "edits") d
  shows ← list_at (line_show count) (codes "shows") d
  right (record { edits = edits; shows = shows })

-- nothing that opens a session
abbrev pub no_settings : Data → Reading (Unit {0})
no_settings d = do
  _ ← none_at (codes "crates") d
  _ ← none_at (codes "skipped") d
  _ ← none_at (codes "edition") d
  none_at (codes "start") d

-- the line that opens a session
abbrev pub first_line : Data → Reading (Settings × Asked)
first_line d = do
  _ ← only_known Whole d
  opened ← settings d
  rest ← line_asked (length opened.crates) d
  right (opened, rest)

-- a line of a session with this many crates
abbrev pub later_line : ℕ → Data → Reading Asked
later_line count d = do
  _ ← only_known Whole d
  _ ← no_settings d
  line_asked count d
