-- What refused edits of the table are told as.
use Rattle.std.specs.Prelude.{ℕ, Result, Ok, Err}
use Rattle.item_tree.specs.declared.fault.EditFault.{EditFault}
use Rattle.item_tree.specs.declared.fault.EditFault.TheVariants.{Lower}
use Rattle.item_tree.specs.declared.fault.LowerError.TheVariants as lowering
use Rattle.item_tree_db.specs.declared.edit.AllRefused.{AllRefused}
use Rattle.text_session.specs.declared.error.EditError.{EditError}
use Rattle.text_session.specs.declared.error.EditError.TheVariants.{Refused, OutOfMemory}

-- memory that runs out in an edit is out of memory; all else refuses the edit
abbrev pub edit_refusal : ℕ → EditFault → EditError
edit_refusal place (Lower lowering.OutOfMemory) = OutOfMemory
edit_refusal place cause = Refused place cause

-- how many edits of the table were made, of so many
abbrev pub made_count : ℕ → Result ℕ AllRefused → ℕ
made_count count (Ok number) = count
made_count count (Err all) = all.place

-- why not all of them were made
abbrev pub outcome_of : Result ℕ AllRefused → Result (Unit {0}) EditError
outcome_of (Ok number) = Ok tt
outcome_of (Err all) = Err (edit_refusal all.place all.refused.cause)
