-- What making the edits of a request and serving it leads to.
use Rattle.std.specs.Prelude.{ℕ, List, length}
use Rattle.item_tree.specs.declared.fault.EditFault.{EditFault}
use Rattle.item_tree.specs.declared.fault.EditFault.TheVariants.{Lower}
use Rattle.item_tree.specs.declared.fault.LowerError.TheVariants as lowering
use Rattle.item_tree_db.specs.State.{State}
use Rattle.item_tree_db.specs.Edits.{EditView}
use Rattle.item_tree_db.specs.History.{IsAfter}
use Rattle.item_tree_request.specs.declared.error.RunError.{RunError}
use Rattle.item_tree_request.specs.declared.error.RunError.TheVariants.{NotJson, NotRequest, Refused, OutOfMemory, Read, Write}
use Rattle.item_tree_request.specs.Outputs.{ShowText, first_table, IsOutput, NonePasses, PassesAt}
use Rattle.item_tree_request.specs.Requests.{Request}

-- the edits lead from s to u, and none passes a size
pub record IsMade (s : State) (edits : List EditView) (u : State) : Type 0 where
  pub after : IsAfter s edits u
  pub none_passes : NonePasses s edits (length edits)

-- no edit of the request passes a size, and the text is its output
pub record IsRequestServed (IsText : ShowText) (q : Request) (text : List ℕ) : Type 0 where
  pub none_passes : NonePasses (first_table q) q.edits (length q.edits)
  pub is_output : IsOutput IsText q text

-- the edit at the place is the first that passes a size, or memory runs out
abbrev pub IsUnmade : State → List EditView → RunError → Type 0
IsUnmade s edits (Refused place cause) = NonePasses s edits place × PassesAt s edits place cause
IsUnmade s edits OutOfMemory = Unit {0}
IsUnmade s edits NotJson = ⊥
IsUnmade s edits NotRequest = ⊥
IsUnmade s edits Read = ⊥
IsUnmade s edits Write = ⊥

-- memory that runs out in an edit is out of memory; all else refuses the edit
abbrev pub refusal_of : ℕ → EditFault → RunError
refusal_of place (Lower lowering.OutOfMemory) = OutOfMemory
refusal_of place cause = Refused place cause
