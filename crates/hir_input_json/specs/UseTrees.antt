-- The reading of a rename and of a use tree.
use Rattle.std.specs.Prelude.{ℕ, List, codes, false, Some, None}
use Rattle.serde_json.specs.Data.{Data}
use Rattle.hir_input.specs.declared.ast.Rename.{Rename}
use Rattle.hir_input.specs.UseTreeView.{UseTreeView, tree_from}
use Rattle.hir_input_json.specs.Reading.{Reading, right, reading_map, here, ◌>>=◌}
use Rattle.hir_input.specs.Name.{name_in}
use Rattle.hir_input_json.specs.Forms.{optional_at, maybe_at, on_word, text_form, flag, object_members, list_of}
use Rattle.hir_input_json.specs.Nested.{nested_reading}
use Rattle.hir_input_json.specs.Paths.{path_at}

-- the text `_` for a rename without a name, any other name for that name
abbrev pub rename_in : List ℕ → Reading Rename
rename_in word = on_word word (codes "_") (right (record { name = None })) (reading_map (λ n. record { name = Some n }) (here (name_in word)))

-- a rename
abbrev pub rename_form : Data → Reading Rename
rename_form d = do
  word ← text_form d
  rename_in word

-- a use tree, over the reading of those inside: an object with a path, a star, a rename and a list, each of which may be absent
abbrev pub use_tree_with : (Data → Reading UseTreeView) → Data → Reading UseTreeView
use_tree_with tree d = do
  _ ← object_members d
  p ← path_at d
  star ← optional_at false (codes "star") flag d
  renamed ← maybe_at (codes "rename") rename_form d
  list ← maybe_at (codes "list") (list_of tree) d
  right (tree_from (record { path = p; star = star; rename = renamed }) list)

-- a use tree, with those inside it
abbrev pub use_tree_form : Data → Reading UseTreeView
use_tree_form = nested_reading use_tree_with
