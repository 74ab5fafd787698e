-- Lines as messages.
use Rattle.std.specs.Prelude.{◌≡◌, ◌≢◌, ◌<◌, ◌==◌, if◌then◌else◌, ℕ, List, [], ◌∷◌, ◌++◌, length, All}
use Rattle.message_stream.specs.declared.error.StreamError.{StreamError}
use Rattle.message_stream.specs.declared.error.StreamError.TheVariants.{Read}
use Rattle.message_stream.specs.Frames.{Frames}
use Rattle.message_stream.specs.Messages.{Told, IsToldOf}

-- ---- the lines of bytes

-- the lines with this byte before the first of them, which it makes a line where there is none
abbrev pub begin : ℕ → List (List ℕ) → List (List ℕ)
begin byte [] = (byte ∷ []) ∷ []
begin byte (line ∷ rest) = (byte ∷ line) ∷ rest

-- the lines of bytes, each without its line feed, which the last one may lack
abbrev pub lines : List ℕ → List (List ℕ)
lines [] = []
lines (byte ∷ bytes) = if byte == 10 then [] ∷ lines bytes else begin byte (lines bytes)

-- none of the bytes is a line feed
abbrev pub HasNoFeed : List ℕ → Type 0
HasNoFeed bytes = All (λ byte. byte ≢ 10) bytes

-- ---- as messages

-- a text with its line feed
abbrev pub with_feed : List ℕ → List ℕ
with_feed text = text ++ 10 ∷ []

-- the bytes are a line with its line feed
abbrev pub IsFedLine : List ℕ → List ℕ → Type 0
IsFedLine bytes line = (bytes ≡ with_feed line) × HasNoFeed line

-- they are a line that has none, and is not empty
abbrev pub IsLastLine : List ℕ → List ℕ → Type 0
IsLastLine bytes line = (bytes ≡ line) × HasNoFeed line × (0 < length line)

-- reading fails within a line
abbrev pub IsLineFault : StreamError → List ℕ → Type 0
IsLineFault e part = (e ≡ Read) × HasNoFeed part

-- how lines stand among bytes
abbrev pub line_frames : Frames
line_frames = record { IsFramed = IsFedLine; IsLast = IsLastLine; IsFault = IsLineFault; framed = with_feed }

-- ---- answered by one line each

-- the history of a service that answered these lines in order, each by one text
abbrev pub IsServedEach : {S : Type 0} → (S → Told → S → List ℕ → Type 0) → S → List (List ℕ) → S → List ℕ → Type 0
IsServedEach Answers old [] new text = (new ≡ old) × (text ≡ [])
IsServedEach {S} Answers old (line ∷ rest) new text =
    (said : Told) × (next : S) × (answer : List ℕ) × (later : List ℕ)
    × IsToldOf line said × Answers old said next answer × (text ≡ answer ++ 10 ∷ later) × IsServedEach Answers next rest new later
