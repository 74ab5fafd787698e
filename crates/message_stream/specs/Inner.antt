-- Words that private contracts alone cite.
use Rattle.std.specs.Prelude.{◌≡◌, ◌≤◌, ◌<◌, ◌+◌, ℕ, List, [], ◌∷◌, ◌++◌, length, take, flat_map, ◌⊎◌, Bool, true, Option, Some, None, Result, Ok, Err, MatchResult, OnSome}
use Rattle.std.specs.Io.KnownBytes.{Consumes, Appends, IsAtEnd}
use Rattle.httparse.specs.Grammar.{Field, LineEnd, HasNoSection, MayBecomeSection, ReadsSection}
use Rattle.httparse.specs.Spans.{SectionOverflows}
use Rattle.message_stream.specs.declared.error.StreamError.{StreamError}
use Rattle.message_stream.specs.declared.error.StreamError.TheVariants.{Read, Cut, OutOfMemory}
use Rattle.message_stream.specs.declared.message.Message.{Message}
use Rattle.message_stream.specs.declared.message.TheConstants.{MOST_MESSAGE}
use Rattle.message_stream.specs.declared.framing.Next.{Next}
use Rattle.message_stream.specs.declared.framing.Next.TheVariants as next
use Rattle.message_stream.specs.declared.headers.Head.{Head}
use Rattle.message_stream.specs.declared.headers.Head.TheVariants as head
use Rattle.message_stream.specs.declared.lines.Ending.{Ending}
use Rattle.message_stream.specs.declared.lines.Ending.TheVariants.{Shown, Feed, End}
use Rattle.message_stream.specs.declared.lines.Part.{Part}
use Rattle.message_stream.specs.declared.sections.HeaderState.{HeaderState}
use Rattle.message_stream.specs.declared.sections.HeaderState.TheVariants.{More, Length, NoLength, Wrong}
use Rattle.message_stream.specs.declared.sections.TheConstants.{MOST_FIELDS}
use Rattle.message_stream.specs.Answers.{Answering, Conduct, Resting}
use Rattle.message_stream.specs.Exchanged.{HasWritten, IsFaultAt}
use Rattle.message_stream.specs.Frames.{Frames}
use Rattle.message_stream.specs.Headers.{IsHeader, SaysLength, SaysNoLength, header_frames}
use Rattle.message_stream.specs.Lines.{HasNoFeed}
use Rattle.message_stream.specs.Messages.{Told, whole, too_long, no_memory, IsToldOf, message_told}
use Rattle.message_stream.specs.Served.{Turn, IsTurn, HasEnded, intake_at}

-- what is told of the bytes that were read of a message is told of them with these bytes too
abbrev pub Grows : Message → List ℕ → Message → Type 0
Grows old part new = (read : List ℕ) → IsToldOf read (message_told old) → IsToldOf (read ++ part) (message_told new)

-- ---- parts of what a reader shows

-- the line feed that ends a part
abbrev pub feed_of : Ending → List ℕ
feed_of Shown = []
feed_of Feed = 10 ∷ []
feed_of End = []

-- a reader is at its end after such a part
abbrev pub EndsAt : Ending → (had left : Option (List ℕ)) → Type 0
EndsAt Shown had left = Unit {0}
EndsAt Feed had left = Unit {0}
EndsAt End had left = OnSome had (IsAtEnd left)

-- only where nothing is shown is the reader at its end
abbrev pub IsNone : Ending → List ℕ → Type 0
IsNone Shown shown = Unit {0}
IsNone Feed shown = Unit {0}
IsNone End shown = length shown ≡ 0

-- the first part of what is shown
pub record IsFirst (shown : List ℕ) (part : Part) : Type 0 where
  pub within : part.before ≤ length shown
  pub consumed : part.through ≤ length shown
  pub no_feed : HasNoFeed (take part.before shown)
  pub through : take part.through shown ≡ take part.before shown ++ feed_of part.ending
  pub none : IsNone part.ending shown

-- ---- lines

-- a part of a line was read
pub record IsPart (had left : Option (List ℕ)) (old new : Message) (ending : Ending) : Type 0 where
  pub part : List ℕ
  pub no_feed : HasNoFeed part
  pub read : Consumes had left (part ++ feed_of ending)
  pub grows : Grows old part new
  pub at_end : EndsAt ending had left

-- what follows the last line feed
abbrev pub IsEndIn : List ℕ → Next → Type 0
IsEndIn read (next.Message line is_last) = (is_last ≡ true) × IsToldOf read (message_told line) × (0 < length read)
IsEndIn read next.Nothing = read ≡ []

-- the line that the end of the reader ends
abbrev pub EndsLine : Message → Next → Type 0
EndsLine line next = (read : List ℕ) → IsToldOf read (message_told line) → IsEndIn read next

-- ---- messages behind headers

-- fields and an empty line that the bytes begin with are all of them
abbrev pub HasNothingBehind : List ℕ → Type 0
HasNothingBehind bytes = (fields : List Field) (last : LineEnd) (rest : List ℕ) → ReadsSection bytes fields last rest → rest ≡ []

-- what the bytes of a header so far are: where more is wanted, they are none yet, and more can make them one
abbrev pub IsState : List ℕ → HeaderState → Type 0
IsState bytes More = HasNoSection bytes × MayBecomeSection bytes
IsState bytes (Length n) = SaysLength bytes n
IsState bytes NoLength = SaysNoLength bytes
IsState bytes Wrong = SectionOverflows MOST_FIELDS bytes

-- such a fault may come behind any bytes
abbrev pub ComesAnywhere : StreamError → Type 0
ComesAnywhere e = (e ≡ Read) ⊎ (e ≡ OutOfMemory)

-- some bytes were read, and such a fault came
abbrev pub IsPassing : (had left : Option (List ℕ)) → StreamError → Type 0
IsPassing had left e = ComesAnywhere e × ((bytes : List ℕ) × Consumes had left bytes)

-- a part of a header was read, up to the end of a line at most
pub record IsHeaderPart (had left : Option (List ℕ)) (old new : List ℕ) (ending : Ending) : Type 0 where
  pub part : List ℕ
  pub no_feed : HasNoFeed part
  pub longer : new ≡ old ++ (part ++ feed_of ending)
  pub read : Consumes had left (part ++ feed_of ending)
  pub at_end : EndsAt ending had left

-- a header was read, or the end of the reader
abbrev pub IsHead : (had left : Option (List ℕ)) → Head → Type 0
IsHead had left (head.Length n) = (bytes : List ℕ) × Consumes had left bytes × IsHeader bytes n
IsHead had left head.Nothing = Consumes had left [] × OnSome had (IsAtEnd left)

-- the end of the reader is that of nothing, or of a part
abbrev pub IsEndOfHeader : List ℕ → Result Head StreamError → Type 0
IsEndOfHeader bytes result = MatchResult result (λ h. (h ≡ head.Nothing) × (bytes ≡ [])) (λ e. (e ≡ Cut) × (0 < length bytes))

-- a header was read, or a part of it
abbrev pub HasReadHeader : (had left : Option (List ℕ)) → Result Head StreamError → Type 0
HasReadHeader had left result = MatchResult result (IsHead had left) (IsFaultAt header_frames had left)

-- this is told of what was read of a body of so many bytes
abbrev pub IsSoFar : ℕ → List ℕ → Told → Type 0
IsSoFar said read (whole bytes) = (bytes ≡ read) × (said ≤ MOST_MESSAGE)
IsSoFar said read too_long = MOST_MESSAGE < said
IsSoFar said read no_memory = 0 < said

abbrev pub IsBodySoFar : ℕ → List ℕ → Message → Type 0
IsBodySoFar said read body = IsSoFar said read (message_told body)

-- a piece of a body was read
pub record IsPiece (had left : Option (List ℕ)) (old : Message) (wanted : ℕ) (new : Message) (wants : ℕ) : Type 0 where
  pub part : List ℕ
  pub read : Consumes had left part
  pub fewer : length part + wants ≡ wanted
  pub grows : (said : ℕ) (before : List ℕ) → length before + wanted ≤ said → IsBodySoFar said before old → IsBodySoFar said (before ++ part) new

-- fewer bytes were read than these, and the reader is at its end
abbrev pub IsCutShort : (had left : Option (List ℕ)) → ℕ → List ℕ → Type 0
IsCutShort had left wanted read = (length read < wanted) × OnSome had (IsAtEnd left)

-- a part was read of so many bytes, and a fault came that may come anywhere, or the end
abbrev pub IsBodyFault : (had left : Option (List ℕ)) → ℕ → StreamError → Type 0
IsBodyFault had left wanted e = (read : List ℕ) × Consumes had left read × (ComesAnywhere e ⊎ ((e ≡ Cut) × IsCutShort had left wanted read))

-- a body of so many bytes was read, or a part of it
abbrev pub HasReadBody : (had left : Option (List ℕ)) → ℕ → Result Message StreamError → Type 0
HasReadBody had left n result =
    MatchResult result (λ told. (body : List ℕ) × Consumes had left body × (length body ≡ n) × IsBodySoFar n body told) (IsBodyFault had left n)

-- ---- answers

-- a message was answered, and the writer took the answer or a beginning of it
abbrev pub HasAnswered : {S A : Type 0} → Frames → Answering S → Result A StreamError → S → Message → S → (held holds : Option (List ℕ)) → Type 0
HasAnswered F Answers result old message new held holds =
    (texts : List (List ℕ)) × Answers old (message_told message) new texts × HasWritten result held holds (flat_map F.framed texts)

-- a service rested, and the writer took what it told or a beginning of it
abbrev pub HasRested : {S A : Type 0} → Frames → Resting S → Result A StreamError → S → S → (held holds : Option (List ℕ)) → Type 0
HasRested F Rests result old new held holds = (texts : List (List ℕ)) × Rests old new texts × HasWritten result held holds (flat_map F.framed texts)

-- one turn more was made, or the conversation ends after so many
abbrev pub HasTurned : {S I : Type 0} → Frames → Conduct S → (I → Option (List ℕ)) → (I → List ℕ) → (count : ℕ) → Result (Option Bool) StreamError → (old new : S) (is_ended : Bool) (from to : I) (held holds : Option (List ℕ)) → Type 0
HasTurned F C left waiting count (Ok (Some ended)) old new is_ended from to held holds =
    (turn : Turn) × (texts : List (List ℕ)) × IsTurn F C left waiting turn old new (intake_at from is_ended) (intake_at to ended) texts × Appends held holds (flat_map F.framed texts)
HasTurned F C left waiting count (Ok None) old new is_ended from to held holds = HasEnded F C left waiting {A = Option Bool} count (Ok None) old new (intake_at from is_ended) to held holds
HasTurned F C left waiting count (Err e) old new is_ended from to held holds = HasEnded F C left waiting {A = Option Bool} count (Err e) old new (intake_at from is_ended) to held holds
