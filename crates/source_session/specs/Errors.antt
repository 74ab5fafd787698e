-- The objects of errors.
use Rattle.std.specs.Prelude.{ℕ, Bool, List, codes}
use Rattle.serde_json.specs.Data.{Data, string, object, no_members, member}
use Rattle.hir_input_json.specs.declared.fault.Fault.{Fault}
use Rattle.hir_input_json.specs.declared.fault.Fault.TheVariants.{WrongForm}
use Rattle.hir_input_json.specs.declared.fault.Fault.TheVariants as fault
use Rattle.item_tree.specs.declared.fault.EditFault.{EditFault}
use Rattle.item_tree.specs.declared.fault.EditFault.TheVariants.{TooManyEdits, Lower}
use Rattle.item_tree.specs.declared.fault.LowerError.TheVariants as lowering
use Rattle.list_forms.specs.Lines.{count_form}
use Rattle.source_session.specs.Expected.{expected_words}
use Rattle.source_session.specs.declared.error.LineError.{LineError}
use Rattle.text_session.specs.declared.error.EditError.{EditError}
use Rattle.text_session.specs.declared.error.EditError.TheVariants as edits
use Rattle.text_session.specs.declared.splice.ChangeFault.{ChangeFault}
use Rattle.text_session.specs.declared.splice.ChangeFault.TheVariants as change
use Rattle.source_session.specs.declared.error.LineError.TheVariants.{NotJson, NotRequest, NotChanged, Refused, TooLong, OutOfMemory}

-- the size that an edit passes, in words
abbrev pub cause_text : EditFault → List ℕ
cause_text TooManyEdits = codes "too many edits"
cause_text (Lower lowering.TooManyItems) = codes "too many items"
cause_text (Lower lowering.TooManyVisibilities) = codes "too many visibilities"
cause_text (Lower lowering.TooManyUseTrees) = codes "too many use trees"
cause_text (Lower lowering.TooManyAttributes) = codes "too many attributes"
cause_text (Lower lowering.TooManySupers) = codes "too many supers"
cause_text (Lower lowering.OutOfMemory) = codes "out of memory"

-- why a text cannot be changed, in words
abbrev pub fault_text : ChangeFault → List ℕ
fault_text change.NoText = codes "no text"
fault_text (change.OutsideText length) = codes "range not in the text"
fault_text change.CutsCharacter = codes "range cuts a character"
fault_text change.TooLong = codes "text too long"

-- an object of one kind of error
abbrev pub kind_form : List ℕ → Data
kind_form kind = object (member (codes "kind") (string kind) no_members)

-- what a fault of a line is told as
abbrev pub line_error : Fault → LineError
line_error (WrongForm pointer) = NotRequest pointer
line_error fault.OutOfMemory = OutOfMemory

-- what an error of edits is told as
abbrev pub edit_error : EditError → LineError
edit_error (edits.NotChanged place cause) = NotChanged place cause
edit_error (edits.Refused place cause) = Refused place cause
edit_error edits.OutOfMemory = OutOfMemory

-- the object of an edit that changes no text
abbrev pub unchanged_form : ℕ → ChangeFault → Data
unchanged_form place (change.OutsideText length) =
    object (member (codes "cause") (string (fault_text (change.OutsideText length))) (member (codes "kind") (string (codes "text not changed")) (member (codes "length") (count_form length) (member (codes "place") (count_form place) no_members))))
unchanged_form place cause = object (member (codes "cause") (string (fault_text cause)) (member (codes "kind") (string (codes "text not changed")) (member (codes "place") (count_form place) no_members)))

-- the object of an error, with a session open or not; its members are in the order of their keys
abbrev pub error_form : Bool → LineError → Data
error_form is_open (NotJson column) = object (member (codes "column") (count_form column) (member (codes "kind") (string (codes "not JSON")) no_members))
error_form is_open (NotRequest pointer) = object (member (codes "expected") (string (expected_words is_open pointer)) (member (codes "kind") (string (codes "not a request")) (member (codes "pointer") (string pointer) no_members)))
error_form is_open (NotChanged place cause) = unchanged_form place cause
error_form is_open (Refused place cause) = object (member (codes "cause") (string (cause_text cause)) (member (codes "kind") (string (codes "edit refused")) (member (codes "place") (count_form place) no_members)))
error_form is_open TooLong = kind_form (codes "line too long")
error_form is_open OutOfMemory = kind_form (codes "out of memory")
