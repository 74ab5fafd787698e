-- Whole conversations: where they lead, by the edits that stand after each answer.
use Rattle.std.specs.Prelude.{◌≡◌, ◌⊎◌, ℕ, List, [], ◌∷◌, ◌++◌, map, take, Option, Some, None, Ok, Err, flat_map}
use Rattle.serde_json.specs.Data.{Data}
use Rattle.hir_input.specs.declared.edition.EditionYear.{EditionYear}
use Rattle.hir_input_json.specs.Reading.{right}
use Rattle.item_tree_db.specs.Edits.{EditView}
use Rattle.item_tree_request.specs.Requests.{IsJsonText}
use Rattle.source_session.specs.declared.error.LineError.TheVariants.{NotJson, NotRequest, NotChanged, Refused, TooLong, OutOfMemory}
use Rattle.source_session.specs.Lines.{Settings, Asked, first_line, later_line}
use Rattle.source_session.specs.Replies.{Open, Outcome, crate_count, opened_session, reply_text, out_of_memory}
use Rattle.text_session.specs.Sessions.{Session, AreMade}
use Rattle.text_session.specs.Texts.{TextChange, FileTexts, text_in, text_after, AreMeant}

-- an answer says this outcome, under some id and number; or there was no memory for an answer
abbrev pub Says : List ℕ → Outcome → Type 0
Says text outcome =
    ((id : Data) × (number : Option ℕ) × (text ≡ reply_text id number outcome)) ⊎ ((text ≡ out_of_memory) × (outcome ≡ Err OutOfMemory))

-- a line, its answer, and what that says
pub record Exchange : Type 0 where
  pub line : List ℕ
  pub answer : List ℕ
  pub outcome : Outcome
  pub says : Says answer outcome

-- the answer with its line feed
abbrev pub answer_of : Exchange → List ℕ
answer_of x = x.answer ++ 10 ∷ []

-- ---- what a line asks for

-- of an open session with this many crates
abbrev pub AsksNext : ℕ → List ℕ → Asked → Type 0
AsksNext count line asked = (d : Data) × IsJsonText line d × (later_line count d ≡ right asked)

-- of the session that it opens with these settings
abbrev pub AsksFirst : Settings → List ℕ → Asked → Type 0
AsksFirst settings line asked = (d : Data) × IsJsonText line d × (first_line d ≡ right (settings, asked))

-- ---- which of its edits stand, where `Asks` tells what it asks for

-- none of them
abbrev pub StandNone : List EditView → List TextChange → Type 0
StandNone edits changes = (edits ≡ []) × (changes ≡ [])

-- all of them
abbrev pub StandAll : (Asked → Type 0) → EditionYear → FileTexts → List EditView → List TextChange → Type 0
StandAll Asks edition texts edits changes = (asked : Asked) × Asks asked × AreMeant edition texts asked.edits edits changes

-- the first n of them
abbrev pub StandFirst : ℕ → (Asked → Type 0) → EditionYear → FileTexts → List EditView → List TextChange → Type 0
StandFirst n Asks edition texts edits changes =
    (es : List EditView) × (cs : List TextChange) × StandAll Asks edition texts es cs × (edits ≡ take n es) × (changes ≡ take n cs)

-- by its answer: all if it has shows, those before an edit that is refused, none after another error, and some first ones if memory ran out
abbrev pub Stand : Outcome → (Asked → Type 0) → EditionYear → FileTexts → List EditView → List TextChange → Type 0
Stand (Ok values) Asks edition texts edits changes = StandAll Asks edition texts edits changes
Stand (Err (Refused place cause)) Asks edition texts edits changes = StandFirst place Asks edition texts edits changes
Stand (Err OutOfMemory) Asks edition texts edits changes = StandNone edits changes ⊎ ((n : ℕ) × StandFirst n Asks edition texts edits changes)
Stand (Err (NotJson column)) Asks edition texts edits changes = StandNone edits changes
Stand (Err (NotRequest pointer)) Asks edition texts edits changes = StandNone edits changes
Stand (Err (NotChanged place cause)) Asks edition texts edits changes = StandNone edits changes
Stand (Err TooLong) Asks edition texts edits changes = StandNone edits changes

-- those of lines, one after another; behind the first each asks the open session
abbrev pub StandOf : (List ℕ → Asked → Type 0) → ℕ → EditionYear → FileTexts → List Exchange → List EditView → List TextChange → Type 0
StandOf Asks count edition texts [] edits changes = StandNone edits changes
StandOf Asks count edition texts (x ∷ xs) edits changes =
    (es : List EditView) × (fs : List EditView) × (cs : List TextChange) × (ds : List TextChange)
    × Stand x.outcome (Asks x.line) edition texts es cs × StandOf (AsksNext count) count edition (text_after texts cs) xs fs ds × (edits ≡ es ++ fs) × (changes ≡ cs ++ ds)

-- ---- whole conversations

-- after such an answer there may still be no session
abbrev pub OpensNone : Outcome → Type 0
OpensNone (Ok values) = ⊥
OpensNone (Err (Refused place cause)) = ⊥
OpensNone (Err (NotChanged place cause)) = ⊥
OpensNone (Err (NotJson column)) = Unit {0}
OpensNone (Err (NotRequest pointer)) = Unit {0}
OpensNone (Err TooLong) = Unit {0}
OpensNone (Err OutOfMemory) = Unit {0}

-- all edits that stand lead from a session to this one, where `Asks` tells what the first line asks for
pub record IsLedOn (Asks : List ℕ → Asked → Type 0) (s : Session) (xs : List Exchange) (new : Open) : Type 0 where
  pub session : Session
  pub is_open : new ≡ Some session
  pub edits : List EditView
  pub changes : List TextChange
  pub made : AreMade s edits changes session
  pub stand : StandOf Asks (crate_count s) s.edition.0 (text_in s.texts) xs edits changes

-- a line opens a session, which it and the later lines lead here
pub record IsOpenedBy (x : Exchange) (later : List Exchange) (new : Open) : Type 0 where
  pub settings : Settings
  pub asked : Asked
  pub opens : AsksFirst settings x.line asked
  pub led : IsLedOn (AsksFirst settings) (opened_session settings) (x ∷ later) new

-- a new conversation leads here: some lines open no session, and the next one opens it
abbrev pub IsLedBy : List Exchange → Open → Type 0
IsLedBy [] new = new ≡ None
IsLedBy (x ∷ later) new = (OpensNone x.outcome × IsLedBy later new) ⊎ IsOpenedBy x later new

-- these are the exchanges of the lines and of the text of their answers
abbrev pub AreOf : List (List ℕ) → List ℕ → List Exchange → Type 0
AreOf lines text xs = (lines ≡ map (λ x. x.line) xs) × (text ≡ flat_map answer_of xs)

-- a new conversation of these lines, which this text answers, leads here
abbrev pub IsLedByAnswers : List (List ℕ) → List ℕ → Open → Type 0
IsLedByAnswers lines text new = (xs : List Exchange) × AreOf lines text xs × IsLedBy xs new

-- so does one over an open session
abbrev pub IsLedOnByAnswers : Session → List (List ℕ) → List ℕ → Open → Type 0
IsLedOnByAnswers s lines text new = (xs : List Exchange) × AreOf lines text xs × IsLedOn (AsksNext (crate_count s)) s xs new
