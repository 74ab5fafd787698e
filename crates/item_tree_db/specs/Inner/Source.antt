-- What is set at a place.
use Rattle.hir_input.specs.Syntax.{SyntaxView, syntax_view, block_view}
use Rattle.item_tree_db.specs.declared.edit.Edit.{Edit}
use Rattle.item_tree_db.specs.declared.edit.Edit.TheVariants as edit
use Rattle.item_tree_db.specs.declared.place.Place.{Place}
use Rattle.item_tree_db.specs.declared.place.Place.TheVariants as place
use Rattle.item_tree_db.specs.declared.source.Source.{Source}
use Rattle.item_tree_db.specs.declared.source.Source.TheVariants.{File, Block}

abbrev pub source_place : Source → Place
source_place (File file syntax) = place.File file
source_place (Block block syntax) = place.Block block

abbrev pub source_syntax : Source → SyntaxView
source_syntax (File file syntax) = syntax_view syntax
source_syntax (Block block syntax) = block_view syntax

-- the edit that sets it
abbrev pub edit_of : Source → Edit
edit_of (File file syntax) = edit.SetFile file syntax
edit_of (Block block syntax) = edit.SetBlock block syntax
