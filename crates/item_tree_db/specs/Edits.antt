-- Edits as plain data.
use Rattle.std.specs.Prelude.{ℕ, List, map, take, Contains}
use Rattle.hir_input.specs.Cfg.{AtomView}
use Rattle.hir_input.specs.Syntax.{SyntaxView, syntax_view, block_view}
use Rattle.item_tree_db.specs.declared.edit.Edit.{Edit}
use Rattle.item_tree_db.specs.declared.edit.Edit.TheVariants.{SetFile, RemoveFile, SetBlock, RemoveBlock, SetCfg}
use Rattle.item_tree_db.specs.declared.edit.AllRefused.{AllRefused}
use Rattle.item_tree_db.specs.declared.place.Place.{Place}
use Rattle.item_tree_db.specs.declared.place.Place.TheVariants.{File, Block}

-- an edit sets the syntax of a place, or removes it, or gives options to the crate with a number
pub data EditView : Type 0 where
  set : Place → SyntaxView → EditView
  remove : Place → EditView
  set_cfg : ℕ → List AtomView → EditView

-- an edit as plain data
abbrev pub edit_view : Edit → EditView
edit_view (SetFile file syntax) = set (File file) (syntax_view syntax)
edit_view (RemoveFile file) = remove (File file)
edit_view (SetBlock block syntax) = set (Block block) (block_view syntax)
edit_view (RemoveBlock block) = remove (Block block)
edit_view (SetCfg krate options) = set_cfg krate.0 options

-- it sets or removes one of these places, and gives no options
abbrev pub NamesPlaceOf : List Place → EditView → Type 0
NamesPlaceOf places (set place syntax) = Contains places place
NamesPlaceOf places (remove place) = Contains places place
NamesPlaceOf places (set_cfg i options) = ⊥

-- those of a list before its refused one
abbrev pub edits_before : AllRefused → List Edit → List EditView
edits_before all edits = take all.place (map edit_view edits)
