-- What a conversation has read, told and written.
use Rattle.std.specs.Prelude.{◌≡◌, ◌<◌, ◌⊎◌, ℕ, Bool, true, false, List, [], ◌∷◌, ◌++◌, length, flat_map, Option, Result, Ok, Err}
use Rattle.std.specs.Io.KnownBytes.{Appends}
use Rattle.message_stream.specs.declared.error.StreamError.{StreamError}
use Rattle.message_stream.specs.declared.error.StreamError.TheVariants.{Read, Write}
use Rattle.message_stream.specs.declared.conversation.TheConstants.{MOST_TURNS}
use Rattle.message_stream.specs.Answers.{Conduct}
use Rattle.message_stream.specs.Exchanged.{IsMessageAt, IsEndAt, IsFaultAt, TakesBeginning}
use Rattle.message_stream.specs.Frames.{Frames}
use Rattle.message_stream.specs.Messages.{Told, IsToldOf}

-- what happens to a service: it takes a message, or it rests
pub data Turn : Type 0 where
  took : List ℕ → Turn
  rested : Turn

-- the messages that were taken
abbrev pub messages_of : List Turn → List (List ℕ)
messages_of [] = []
messages_of (took message ∷ more) = message ∷ messages_of more
messages_of (rested ∷ more) = messages_of more

module _ {S I : Type 0} (C : Conduct S) (waiting : I → List ℕ) where
  -- it is time to rest: something is left to tell, and no byte waits in the reader's buffer
  abbrev pub IsIdle : S → I → Type 0
  IsIdle service from = (C.is_over service ≡ false) × (C.is_rested service ≡ false) × (waiting from ≡ [])

  -- it is time to read: nothing is left to tell, or bytes wait
  abbrev pub IsReady : S → I → Type 0
  IsReady service from = (C.is_over service ≡ false) × ((C.is_rested service ≡ true) ⊎ (0 < length (waiting from)))

-- a reader in a conversation, and whether its end has ended a message
pub record Intake (I : Type 0) : Type 0 where
  pub reader : I
  pub is_ended : Bool

abbrev pub intake_at : {I : Type 0} → I → Bool → Intake I
intake_at reader is_ended = record { reader = reader; is_ended = is_ended }

-- a conversation, by its messages, its service, what a reader has left, where that is known, and what waits in its buffer
module _ {S I : Type 0} (F : Frames) (C : Conduct S) (left : I → Option (List ℕ)) (waiting : I → List ℕ) where
  -- it is time to read, and the end of the reader has ended no message
  abbrev pub MayRead : S → Intake I → Type 0
  MayRead service from = (from.is_ended ≡ false) × IsReady C waiting service from.reader

  -- a turn, as the service and the reader stand, what it tells, and how they stand then: no byte is read at a rest
  abbrev pub IsTurn : Turn → (old new : S) (from to : Intake I) → List (List ℕ) → Type 0
  IsTurn (took message) old new from to texts =
      MayRead old from × IsMessageAt F to.is_ended (left from.reader) (left to.reader) message × (said : Told) × IsToldOf message said × C.Answers old said new texts
  IsTurn rested old new from to texts = IsIdle C waiting old from.reader × (to ≡ from) × C.Rests old new texts

  -- the history of a conversation: these turns in order, and the texts that they told, each as a message, make this text
  abbrev pub IsServed : (old : S) (from : Intake I) → List Turn → (new : S) (to : Intake I) → List ℕ → Type 0
  IsServed old from [] new to text = (new ≡ old) × (to ≡ from) × (text ≡ [])
  IsServed old from (turn ∷ more) new to text =
      (next : S) × (at : Intake I) × (texts : List (List ℕ)) × (later : List ℕ)
      × IsTurn turn old next from at texts × (text ≡ flat_map F.framed texts ++ later) × IsServed next at more new to later

  -- it ends well: the service is over; or it is time to read, and the end of the reader has ended a message, or nothing is left
  abbrev pub IsWellEnded : S → (from : Intake I) (to : I) → Type 0
  IsWellEnded service from to =
      ((C.is_over service ≡ true) × (to ≡ from.reader))
      ⊎ ((IsReady C waiting service from.reader × (from.is_ended ≡ true) × (to ≡ from.reader)) ⊎ (MayRead service from × IsEndAt (left from.reader) (left to)))

  -- reading fails, or so many turns were made that no more can be counted
  abbrev pub IsUnread : (count : ℕ) → StreamError → S → (from : Intake I) (to : I) → Type 0
  IsUnread count e service from to = (MayRead service from × IsFaultAt F (left from.reader) (left to) e) ⊎ ((count ≡ MOST_TURNS) × (e ≡ Read) × (to ≡ from.reader))

  -- a turn more of which the writer took but a beginning of what it told
  abbrev pub IsUnwritten : (old new : S) (from : Intake I) (to : I) (held holds : Option (List ℕ)) → Type 0
  IsUnwritten old new from to held holds =
      (turn : Turn) × (ended : Bool) × (texts : List (List ℕ)) × IsTurn turn old new from (intake_at to ended) texts × TakesBeginning held holds (flat_map F.framed texts)

  -- how a conversation ends after so many turns
  abbrev pub HasEnded : {A : Type 0} → (count : ℕ) → Result A StreamError → (old new : S) (from : Intake I) (to : I) (held holds : Option (List ℕ)) → Type 0
  HasEnded count (Ok _) old new from to held holds = (new ≡ old) × (holds ≡ held) × IsWellEnded old from to
  HasEnded count (Err e) old new from to held holds =
      ((new ≡ old) × (holds ≡ held) × IsUnread count e old from to) ⊎ ((e ≡ Write) × IsUnwritten old new from to held holds)

  -- so many turns, and the writer took all that they told
  abbrev pub HasTold : (count : ℕ) → (old new : S) (from to : Intake I) (held holds : Option (List ℕ)) → Type 0
  HasTold count old new from to held holds =
      (turns : List Turn) × (text : List ℕ) × (length turns ≡ count) × IsServed old from turns new to text × Appends held holds text

  -- what a conversation has read, told and written when it returns: turns, and then it ended
  abbrev pub HasServed : {A : Type 0} → Result A StreamError → (old new : S) (from to : I) (held holds : Option (List ℕ)) → Type 0
  HasServed result old new from to held holds =
      (count : ℕ) × (last : S) × (at : Intake I) × (holding : Option (List ℕ))
      × HasTold count old last (intake_at from false) at held holding × HasEnded count result last new at to holding holds
