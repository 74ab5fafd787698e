-- What a line is answered with, and what it leaves of a session.
use Rattle.std.specs.Prelude.{◌≡◌, ◌⊎◌, ℕ, ◌++◌, List, [], length, codes, decimal, Bool, true, false, Option, Some, None, is_some, Result, Ok, Err, unwrap_or}
use Rattle.std.specs.List.{AllZip}
use Rattle.serde_json.specs.Data.{Data, Members, null, array}
use Rattle.serde_json.specs.Find.{as_object}
use Rattle.serde_json.specs.View.{items_of}
use Rattle.serde_json.specs.Written.{compact_text, has_float}
use Rattle.hir_input_json.specs.Reading.{Reading, right, wrong, pointer_behind, ◌>>=◌}
use Rattle.hir_input_json.specs.Forms.{field}
use Rattle.item_tree_request.specs.Requests.{IsJsonText}
use Rattle.message_stream.specs.Answers.{Conduct, IsStill, OneEach}
use Rattle.message_stream.specs.Messages.{Told, whole, too_long, no_memory}
use Rattle.source_session.specs.declared.error.LineError.{LineError}
use Rattle.source_session.specs.declared.error.LineError.TheVariants.{NotJson, NotRequest, TooLong, OutOfMemory}
use Rattle.source_session.specs.Errors.{edit_error, error_form}
use Rattle.source_session.specs.Lines.{Settings, Asked, first_line, later_line}
use Rattle.text_session.specs.declared.error.EditError.{EditError}
use Rattle.text_session.specs.Sessions.{Session, new_session, IsEdited, IsUnedited}
use Rattle.source_session.specs.Shown.{IsShowValue}

-- ---- texts

-- the values of the shows of a line, or why it has none
abbrev pub Outcome : Type 0
Outcome = Result (List Data) LineError

-- an outcome as the last member of an answer, with a session open or not
abbrev pub outcome_text : Bool → Outcome → List ℕ
outcome_text is_open (Ok values) = codes "\"shows\":" ++ compact_text (array (items_of values))
outcome_text is_open (Err e) = codes "\"error\":" ++ compact_text (error_form is_open e)

-- the number of the last edit, if a session is open
abbrev pub number_text : Option ℕ → List ℕ
number_text None = codes "null"
number_text (Some n) = decimal n

-- an answer
abbrev pub reply_text : Data → Option ℕ → Outcome → List ℕ
reply_text id number outcome = codes "{\"id\":" ++ compact_text id ++ codes ",\"number\":" ++ number_text number ++ codes "," ++ outcome_text (is_some number) outcome ++ codes "}"

-- where there is no memory for an answer
abbrev pub out_of_memory : List ℕ
out_of_memory = codes "{\"id\":null,\"number\":null,\"error\":{\"kind\":\"out of memory\"}}"

-- ---- what a line does

-- a session, if one is open
abbrev pub Open : Type 0
Open = Option Session

-- the number of its last edit
abbrev pub reply_number : Open → Option ℕ
reply_number None = None
reply_number (Some u) = Some u.table.number

-- how many crates the table has
abbrev pub crate_count : Session → ℕ
crate_count s = length s.table.crates

-- the session that a line opens
abbrev pub opened_session : Settings → Session
opened_session s = new_session s.crates s.skipped s.edition s.start

-- what is asked of a session
abbrev pub of_session : Session → Reading Asked → Reading (Session × Asked)
of_session s reading = do
  rest ← reading
  right (s, rest)

-- the session that a line opens, and what is asked of it
abbrev pub of_opened : Reading (Settings × Asked) → Reading (Session × Asked)
of_opened reading = do
  first ← reading
  right (opened_session first.0, first.1)

-- what is asked, and of which session: the open one, or the one that the line opens
abbrev pub asked_of : Open → Data → Reading (Session × Asked)
asked_of None d = of_opened (first_line d)
asked_of (Some s) d = of_session s (later_line (crate_count s) d)

-- the edits are not all made, and it is told why
abbrev pub IsUndone : Session → Asked → Session → LineError → Type 0
IsUndone s a u e = (why : EditError) × (e ≡ edit_error why) × IsUnedited s a.edits u why

-- all are made, and there is no memory for the values
abbrev pub IsUnshown : Session → Asked → Session → LineError → Type 0
IsUnshown s a u e = IsEdited s a.edits u × (e ≡ OutOfMemory)

-- the edits are made, and the values are those of the shows; or it is told why they are not, or why there are no values
abbrev pub IsCarriedOut : Session → Asked → Session → Outcome → Type 0
IsCarriedOut s a u (Ok values) = IsEdited s a.edits u × AllZip (IsShowValue u) a.shows values
IsCarriedOut s a u (Err e) = IsUndone s a u e ⊎ IsUnshown s a u e

-- what is asked is done, or a line of wrong form changes nothing
abbrev pub IsOutcome : Open → Reading (Session × Asked) → Open → Outcome → Type 0
IsOutcome old (wrong pointer) new outcome = (new ≡ old) × (outcome ≡ Err (NotRequest pointer))
IsOutcome old (right (s, a)) new outcome = (u : Session) × (new ≡ Some u) × IsCarriedOut s a u outcome

-- nothing changes, and memory runs out
abbrev pub IsWanting : Open → Open → Outcome → Type 0
IsWanting old new outcome = (new ≡ old) × (outcome ≡ Err OutOfMemory)

-- the id that an object gives
abbrev pub id_value : Data → Data
id_value d = unwrap_or (field (codes "id") d) null

-- ---- replies

-- the id that a line gave, and its outcome
pub record Reply : Type 0 where
  pub id : Data
  pub outcome : Outcome

-- a line is refused as a whole, and changes nothing
abbrev pub IsRefusedAs : LineError → Open → Open → Reply → Type 0
IsRefusedAs e old new r = (new ≡ old) × (r ≡ record { id = null; outcome = Err e })

-- an object is answered under its id, unless that holds a float
abbrev pub IsReplyUnless : Bool → Open → Data → Open → Reply → Type 0
IsReplyUnless true old d new r = IsRefusedAs OutOfMemory old new r ⊎ IsRefusedAs (NotRequest (pointer_behind (codes "id") [])) old new r
IsReplyUnless false old d new r = (r.id ≡ id_value d) × (IsWanting old new r.outcome ⊎ IsOutcome old (asked_of old d) new r.outcome)

-- the same, by the id that it gives
abbrev pub IsReplyTo : Open → Data → Open → Reply → Type 0
IsReplyTo old d new r = IsReplyUnless (has_float (id_value d)) old d new r

-- a value that is no object is no request
abbrev pub IsReplyOf : Option Members → Open → Data → Open → Reply → Type 0
IsReplyOf None old d new r = IsRefusedAs (NotRequest []) old new r
IsReplyOf (Some ms) old d new r = IsReplyTo old d new r

-- the same of any value
abbrev pub IsValueReply : Open → Data → Open → Reply → Type 0
IsValueReply old d new r = IsReplyOf (as_object d) old d new r

-- the bytes are no JSON text; the column is the one that serde_json tells
pub record IsNotJson (bytes : List ℕ) (old new : Open) (r : Reply) : Type 0 where
  pub column : ℕ
  pub refused : IsRefusedAs (NotJson column) old new r
  pub none : (d : Data) → ¬ IsJsonText bytes d

-- the bytes are the JSON text of a value, which is answered
pub record IsAnswered (bytes : List ℕ) (old new : Open) (r : Reply) : Type 0 where
  pub value : Data
  pub text : IsJsonText bytes value
  pub reply : IsValueReply old value new r

-- what is told of a line is answered
abbrev pub IsReply : Open → Told → Open → Reply → Type 0
IsReply old (whole bytes) new r = IsRefusedAs OutOfMemory old new r ⊎ (IsNotJson bytes old new r ⊎ IsAnswered bytes old new r)
IsReply old too_long new r = IsRefusedAs TooLong old new r
IsReply old no_memory new r = IsRefusedAs OutOfMemory old new r

-- the answers of a conversation: the text of a reply, or the text for out of memory
abbrev pub Replies : Open → Told → Open → List ℕ → Type 0
Replies old told new text = (r : Reply) × IsReply old told new r × ((text ≡ reply_text r.id (reply_number new) r.outcome) ⊎ (text ≡ out_of_memory))

-- what a conversation does: it answers each line by `Replies`, and has nothing to tell at rests
abbrev pub session_conduct : Conduct Open
session_conduct = record { Answers = OneEach Replies; Rests = IsStill; is_rested = λ _. true; is_over = λ _. false }
