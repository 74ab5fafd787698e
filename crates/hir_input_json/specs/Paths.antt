-- The reading of a path and of a visibility.
use Rattle.std.specs.Prelude.{ℕ, ◌^◌, List, [], codes, decimal, Option, Some, None}
use Rattle.serde_json.specs.Data.{Data, Items, no_items, item}
use Rattle.serde_json.specs.Find.{as_str}
use Rattle.hir_input.specs.declared.mod_path.PathKind.{PathKind}
use Rattle.hir_input.specs.declared.mod_path.PathKind.TheVariants.{Plain, Super, Crate, Abs, DollarCrate}
use Rattle.hir_input.specs.declared.ast.PathNode.{PathNode}
use Rattle.hir_input.specs.declared.ast.PathNode.TheVariants.{Readable, Unreadable}
use Rattle.hir_input.specs.declared.ast.Visibility.{Visibility}
use Rattle.hir_input.specs.declared.ast.Visibility.TheVariants.{Pub, PubCrate, PubSuper, PubSelf, InPath}
use Rattle.hir_input_json.specs.Reading.{Reading, right, wrong, reading_map, here, under, ◌>>=◌}
use Rattle.hir_input_json.specs.Forms.{required_at, maybe_at, by_form, on_word, wrong_at, whole_form, text_form, identifier_form, object_members, array_items, each_from}

-- a path of a kind with these names; a plain path has a name
abbrev pub path_from : PathKind → List (List ℕ) → Option PathNode
path_from Plain [] = None
path_from kind names = Some (Readable (record { kind = kind; names = names }))

-- a path of a kind with each of the items for a name, the first one with this number
abbrev pub names_behind : ℕ → PathKind → Items → Reading PathNode
names_behind n kind ds = do
  names ← each_from n identifier_form ds
  here (path_from kind names)

-- behind `super`: how many, and the names
abbrev pub super_path : Items → Reading PathNode
super_path no_items = wrong []
super_path (item d ds) = do
  n ← under (decimal 1) (whole_form (2 ^ 32) d)
  names_behind 2 (Super n) ds

-- behind `dollar`: the crate, and the names
abbrev pub dollar_path : Items → Reading PathNode
dollar_path no_items = wrong []
dollar_path (item d ds) = do
  c ← under (decimal 1) (whole_form (2 ^ 32) d)
  names_behind 2 (DollarCrate (record { 0 = c })) ds

-- behind the word of a kind
abbrev pub path_by : List ℕ → Items → Reading PathNode
path_by word ds =
    on_word word (codes "plain") (names_behind 1 Plain ds)
    (on_word word (codes "super") (super_path ds)
    (on_word word (codes "crate") (names_behind 1 Crate ds)
    (on_word word (codes "abs") (names_behind 1 Abs ds)
    (on_word word (codes "dollar") (dollar_path ds)
    (wrong_at (decimal 0))))))

-- a list, whose first member is the kind
abbrev pub listed_path : Items → Reading PathNode
listed_path no_items = wrong []
listed_path (item d ds) = do
  word ← under (decimal 0) (text_form d)
  path_by word ds

-- a path that cannot be read
abbrev pub path_word : List ℕ → Reading PathNode
path_word word = on_word word (codes "unreadable") (right Unreadable) (wrong [])

-- a path: a text or a list
abbrev pub path_node_form : Data → Reading PathNode
path_node_form d =
    by_form (as_str d) path_word
    (do
      ds ← array_items d
      listed_path ds)

-- the path of a meta or of a use tree, which may be absent
abbrev pub path_at : Data → Reading (Option PathNode)
path_at = maybe_at (codes "path") path_node_form

-- the words for a visibility
abbrev pub visibility_word : List ℕ → Reading Visibility
visibility_word word =
    on_word word (codes "pub") (right Pub)
    (on_word word (codes "crate") (right PubCrate)
    (on_word word (codes "super") (right PubSuper)
    (on_word word (codes "self") (right PubSelf)
    (wrong []))))

-- a visibility: a text, or an object with a path
abbrev pub vis_form : Data → Reading Visibility
vis_form d =
    by_form (as_str d) visibility_word
    (do
      _ ← object_members d
      reading_map InPath (required_at (codes "in") path_node_form d))
