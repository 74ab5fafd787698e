-- The request that is asked for.
use Rattle.std.specs.Prelude.{ℕ, ◌+◌, List, [], ◌∷◌, Bool}
use Rattle.hir_input.specs.Cfg.{AtomView}
use Rattle.hir_input.specs.Syntax.{SyntaxView}
use Rattle.hir_input_json.specs.Editions.{EditionView}
use Rattle.hir_input_json.specs.Writing.Laws.{kept_bodies}
use Rattle.item_tree_db.specs.declared.place.Place.TheVariants.{File}
use Rattle.item_tree_db.specs.Edits.{EditView, set}
use Rattle.item_tree_request.specs.declared.request.show.Show.{Show}
use Rattle.item_tree_request.specs.Requests.{Request}

-- files set to syntaxes, numbered on from this
abbrev pub files_set : Bool → ℕ → List SyntaxView → List EditView
files_set bodies n [] = []
files_set bodies n (s ∷ ss) = set (File (record { 0 = n })) (kept_bodies bodies s) ∷ files_set bodies (n + 1) ss

-- one crate with these options, whose root is file 0, and each file set to its syntax, numbered from 0
abbrev pub meant_request : Bool → List (List ℕ) → EditionView → List AtomView → List SyntaxView → List Show → Request
meant_request bodies skipped edition options files shows = record {
  start = 0;
  skipped = skipped;
  edition = edition;
  crates = record { root = record { 0 = 0 }; options = options; attrs = [] } ∷ [];
  edits = files_set bodies 0 files;
  shows = shows;
}
