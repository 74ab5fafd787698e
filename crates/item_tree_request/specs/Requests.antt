-- The reading of a request.
use Rattle.std.specs.Prelude.{◌≡◌, ℕ, ◌^◌, List, [], length, codes, IsUtf8, if◌then◌else◌, Some}
use Rattle.serde_json.specs.Data.{Data}
use Rattle.serde_json.specs.Read.{read}
use Rattle.serde_json.specs.Written.{has_float}
use Rattle.item_tree.specs.CrateView.{CrateView}
use Rattle.item_tree_db.specs.Edits.{EditView}
use Rattle.item_tree_request.specs.declared.request.show.Show.{Show}
use Rattle.hir_input_json.specs.Reading.{Reading, right, wrong, ◌>>=◌}
use Rattle.hir_input_json.specs.Editions.{EditionView, edition_at}
use Rattle.item_tree_request.specs.Edits.{crate_data, edit}
use Rattle.hir_input_json.specs.Forms.{optional_at, whole_form, identifier_form, object_members, list_at}
use Rattle.item_tree_request.specs.Shows.{show}

-- what is asked for
pub record Request : Type 0 where
  -- the number before the first edit
  pub start : ℕ
  -- the names of attributes that no tree has
  pub skipped : List (List ℕ)
  pub edition : EditionView
  pub crates : List CrateView
  pub edits : List EditView
  pub shows : List Show

-- each member by its form
abbrev pub request_parts : Data → Reading Request
request_parts d = do
  _ ← object_members d
  start ← optional_at 0 (codes "start") (whole_form (2 ^ 64)) d
  skipped ← list_at identifier_form (codes "skipped") d
  language ← edition_at d
  crates ← list_at crate_data (codes "crates") d
  edits ← list_at (edit (length crates)) (codes "edits") d
  shows ← list_at (show (length crates)) (codes "shows") d
  right (record { start = start; skipped = skipped; edition = language; crates = crates; edits = edits; shows = shows })

-- A request: an object without a float, each of whose members has its form.
unfoldable pub request : Data → Reading Request
request d = if has_float d then wrong [] else request_parts d

-- the bytes are a JSON text of this value, nested to 127 at most
abbrev pub IsJsonText : List ℕ → Data → Type 0
IsJsonText bytes d = IsUtf8 bytes × (read bytes ≡ Some d)

-- the bytes are a JSON text of this request
abbrev pub IsRequest : List ℕ → Request → Type 0
IsRequest bytes q = (d : Data) × IsJsonText bytes d × (request d ≡ right q)
