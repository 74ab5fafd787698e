-- The reading of a show.
use Rattle.std.specs.Prelude.{ℕ, ◌^◌, List, codes}
use Rattle.serde_json.specs.Data.{Data}
use Rattle.item_tree_db.specs.declared.place.Place.{Place}
use Rattle.item_tree_db.specs.declared.place.Place.TheVariants.{File, Block}
use Rattle.item_tree_request.specs.declared.request.show.Show.{Show}
use Rattle.item_tree_request.specs.declared.request.show.Show.TheVariants.{OfTree, Changed}
use Rattle.item_tree_request.specs.declared.request.show.ShowKind.{ShowKind}
use Rattle.item_tree_request.specs.declared.request.show.ShowKind.TheVariants.{Page, Tree, Imports}
use Rattle.hir_input_json.specs.Reading.{Reading, right, reading_map, here, under, ◌>>=◌}
use Rattle.hir_input_json.specs.Forms.{field, required_at, by_form, on_word, wrong_at, whole_form, text_form, number_form, number_below, object_members}

-- the word for what is shown of a tree
abbrev pub show_word : ShowKind → List ℕ
show_word Page = codes "page"
show_word Tree = codes "tree"
show_word Imports = codes "imports"

-- a place: the file, where one stands there, or else the block
abbrev pub place_form : Data → Reading Place
place_form d =
    by_form (field (codes "file") d) (λ _. reading_map (λ file. File (record { 0 = file })) (number_form (codes "file") d))
    (reading_map (λ number. Block (record { 0 = number })) (number_form (codes "block") d))

-- a show of a tree of one of this many crates, which are numbered from 0
abbrev pub tree_show : ℕ → ShowKind → Data → Reading Show
tree_show count kind d = do
  number ← number_form (codes "crate") d
  known ← under (codes "crate") (here (number_below count number))
  place ← place_form d
  right (OfTree (record { kind = kind; krate = record { 0 = known }; place = place }))

-- the changes since a number
abbrev pub changed_show : Data → Reading Show
changed_show d = do
  since ← required_at (codes "since") (whole_form (2 ^ 64)) d
  right (Changed since)

-- by the word for what is shown
abbrev pub show_by : ℕ → List ℕ → Data → Reading Show
show_by count word d =
    on_word word (codes "page") (tree_show count Page d)
    (on_word word (codes "tree") (tree_show count Tree d)
    (on_word word (codes "imports") (tree_show count Imports d)
    (on_word word (codes "changed") (changed_show d)
    (wrong_at (codes "show")))))

-- a show after edits of a table of this many crates, by its word
abbrev pub show : ℕ → Data → Reading Show
show count d = do
  _ ← object_members d
  word ← required_at (codes "show") text_form d
  show_by count word d
