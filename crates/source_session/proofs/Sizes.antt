-- What a session tells of sizes, in the words of requests.
use Rattle.std.proofs.Common.{◌≢◌, ℕ, List, length, refl, arith}
use Rattle.source_session.proofs.Common.{EditView, IsEdited, IsRefused, Session, State, TextEdit}
use Rattle.item_tree.specs.declared.fault.EditFault.{EditFault}
use Rattle.item_tree.specs.declared.fault.EditFault.TheVariants.{TooManyEdits, Lower}
use Rattle.item_tree.specs.declared.fault.LowerError.TheVariants.{TooManyItems, TooManyVisibilities, TooManyUseTrees, TooManyAttributes, TooManySupers, OutOfMemory}
use Rattle.item_tree_request.proofs.EditOutcomes.{is_unmade}
use Rattle.item_tree_request.specs.Inner.Made.{IsUnmade, refusal_of}
use Rattle.item_tree_request.specs.Outputs.{NonePasses, PassesAt}

-- no edit passes a size where all are made
pub edited_sizes : (s u : Session) (asked : List TextEdit) (e : IsEdited s asked u) → NonePasses s.table e.edits (length e.edits)
edited_sizes s u asked e = record { numbers = omega (arith, e.in_range, e.made.table.number); trees = e.fits }

size_told : (s : State) (edits : List EditView) (place : ℕ) (cause : EditFault) → cause ≢ Lower OutOfMemory → IsUnmade s edits (refusal_of place cause) → NonePasses s edits place × PassesAt s edits place cause
size_told s edits place TooManyEdits size h = h
size_told s edits place (Lower TooManyItems) size h = h
size_told s edits place (Lower TooManyVisibilities) size h = h
size_told s edits place (Lower TooManyUseTrees) size h = h
size_told s edits place (Lower TooManyAttributes) size h = h
size_told s edits place (Lower TooManySupers) size h = h
size_told s edits place (Lower OutOfMemory) size h = absurd (size refl)

-- and where one is refused, it is the first that does
pub refused_sizes : (s u : Session) (asked : List TextEdit) (place : ℕ) (cause : EditFault) (r : IsRefused s asked u place cause) → NonePasses s.table r.edits place × PassesAt s.table r.edits place cause
refused_sizes s u asked place cause r =
    size_told s.table r.edits place cause r.size (is_unmade s.table u.table r.edits place r.edit cause r.found r.made.table r.in_range r.fits r.refused r.full)
