-- The data of a path and of a visibility.
use Rattle.std.specs.Prelude.{ℕ, ◌^◌, List, codes, Option, Some, None, option_map}
use Rattle.serde_json.specs.Data.{Data, string, array, object, Items, no_items, item, no_members, member}
use Rattle.hir_input.specs.declared.mod_path.PathKind.{PathKind}
use Rattle.hir_input.specs.declared.mod_path.PathKind.TheVariants.{Plain, Super, Crate, Abs, DollarCrate}
use Rattle.hir_input.specs.declared.ast.PathNode.{PathNode}
use Rattle.hir_input.specs.declared.ast.PathNode.TheVariants.{Readable, Unreadable}
use Rattle.hir_input.specs.declared.ast.Visibility.{Visibility}
use Rattle.hir_input.specs.declared.ast.Visibility.TheVariants.{Pub, PubCrate, PubSuper, PubSelf, InPath}
use Rattle.hir_input.specs.Path.{Path}
use Rattle.hir_input_json.specs.Writing.Parts.{each_data, name_data, whole_data, ◌>>=◌}

-- a word, a number where there is one, and names
abbrev pub word_and_names : List ℕ → Option ℕ → Items → Option Data
word_and_names word None names = Some (array (item (string word) names))
word_and_names word (Some n) names = option_map (λ d. array (item (string word) (item d names))) (whole_data (2 ^ 32) n)

-- behind the word of a kind; a plain path has a name
abbrev pub kind_data : PathKind → Items → Option Data
kind_data Plain no_items = None
kind_data Plain (item d ds) = word_and_names (codes "plain") None (item d ds)
kind_data (Super n) names = word_and_names (codes "super") (Some n) names
kind_data Crate names = word_and_names (codes "crate") None names
kind_data Abs names = word_and_names (codes "abs") None names
kind_data (DollarCrate c) names = word_and_names (codes "dollar") (Some c.0) names

abbrev pub mod_path_data : Path → Option Data
mod_path_data p = do
  names ← each_data name_data p.names
  kind_data p.kind names

-- a path
abbrev pub path_data : PathNode → Option Data
path_data (Readable p) = mod_path_data p
path_data Unreadable = Some (string (codes "unreadable"))

-- a visibility
abbrev pub visibility_data : Visibility → Option Data
visibility_data Pub = Some (string (codes "pub"))
visibility_data PubCrate = Some (string (codes "crate"))
visibility_data PubSuper = Some (string (codes "super"))
visibility_data PubSelf = Some (string (codes "self"))
visibility_data (InPath p) = option_map (λ d. object (member (codes "in") d no_members)) (path_data p)
