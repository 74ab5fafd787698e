-- A place set again to the syntax that it has.
use Rattle.std.specs.Prelude.{◌≡◌, [], ◌∷◌, Some}
use Rattle.hir_input.specs.Syntax.{SyntaxView}
use Rattle.item_tree_db.specs.declared.place.Place.{Place}
use Rattle.item_tree_db.specs.State.{State, present}
use Rattle.item_tree_db.specs.Edits.{set}
use Rattle.item_tree_db.specs.History.{IsAfter, IgnoresBodies}
use Rattle.item_tree_db.specs.Refusal.{FitsAfter}

-- the edit that sets the place to the syntax that it has leads from the table s to u, and fits
pub record IsSetAgain (s : State) (place : Place) (u : State) : Type 0 where
  pub syntax : SyntaxView
  pub had : present s place ≡ Some syntax
  pub after : IsAfter s (set place syntax ∷ []) u
  pub bodies : IgnoresBodies s (set place syntax ∷ []) u
  pub fits : FitsAfter s [] (set place syntax)
