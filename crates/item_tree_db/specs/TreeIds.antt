-- Ids of trees.
use Rattle.std.specs.Prelude.{Option, None, Some}
use Rattle.hir_input.specs.declared.ids.HirFileId.{HirFileId}
use Rattle.hir_input.specs.declared.ids.BlockId.{BlockId}
use Rattle.item_tree_db.specs.declared.place.Place.{Place}
use Rattle.item_tree_db.specs.declared.place.Place.TheVariants.{File, Block}

-- a file, and the block in it whose tree is meant, if it is not the file's own
abbrev pub TreeIdView : Type 0
TreeIdView = HirFileId × Option BlockId

-- the place that has the tree
abbrev pub tree_place : TreeIdView → Place
tree_place (file, None) = File file
tree_place (file, Some block) = Block block
