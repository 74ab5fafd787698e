-- What is read and written of a message.
use Rattle.std.specs.Prelude.{◌≡◌, ℕ, Bool, true, false, List, [], ◌++◌, Option, Result, MatchResult, OnSome}
use Rattle.std.specs.Io.KnownBytes.{Consumes, Appends, IsAtEnd}
use Rattle.message_stream.specs.declared.error.StreamError.{StreamError}
use Rattle.message_stream.specs.declared.error.StreamError.TheVariants.{Write, Cut}
use Rattle.message_stream.specs.declared.framing.Next.{Next}
use Rattle.message_stream.specs.declared.framing.Next.TheVariants as next
use Rattle.message_stream.specs.Frames.{Frames}
use Rattle.message_stream.specs.Messages.{IsToldOf, message_told}

-- a message was read: one that ends by itself, or the last one, which the end of the reader ends
abbrev pub IsMessageAt : Frames → (is_last : Bool) → (had left : Option (List ℕ)) → List ℕ → Type 0
IsMessageAt F false had left message = (bytes : List ℕ) × Consumes had left bytes × F.IsFramed bytes message
IsMessageAt F true had left message = (bytes : List ℕ) × Consumes had left bytes × F.IsLast bytes message × OnSome had (IsAtEnd left)

-- the reader has nothing left
abbrev pub IsEndAt : (had left : Option (List ℕ)) → Type 0
IsEndAt had left = Consumes had left [] × OnSome had (IsAtEnd left)

-- where the input ends within a message, the reader has nothing left
abbrev pub IsEndedBy : StreamError → (had left : Option (List ℕ)) → Type 0
IsEndedBy Cut had left = OnSome had (IsAtEnd left)
IsEndedBy _ had left = Unit {0}

-- a part of a message was read when the error came
abbrev pub IsFaultAt : Frames → (had left : Option (List ℕ)) → StreamError → Type 0
IsFaultAt F had left e = (part : List ℕ) × Consumes had left part × F.IsFault e part × IsEndedBy e had left

-- the next message was read, if there is one
abbrev pub IsNext : Frames → (had left : Option (List ℕ)) → Next → Type 0
IsNext F had left (next.Message message is_last) = (read : List ℕ) × IsMessageAt F is_last had left read × IsToldOf read (message_told message)
IsNext F had left next.Nothing = IsEndAt had left

-- the next message was read, or a part of it
abbrev pub HasRead : Frames → (had left : Option (List ℕ)) → Result Next StreamError → Type 0
HasRead F had left result = MatchResult result (IsNext F had left) (IsFaultAt F had left)

-- the writer took a beginning of the text
abbrev pub TakesBeginning : (held holds : Option (List ℕ)) → List ℕ → Type 0
TakesBeginning held holds text = (taken : List ℕ) × (rest : List ℕ) × (text ≡ taken ++ rest) × Appends held holds taken

-- the writer took the text, or a beginning of it
abbrev pub HasWritten : {A : Type 0} → Result A StreamError → (held holds : Option (List ℕ)) → List ℕ → Type 0
HasWritten result held holds text = MatchResult result (λ _. Appends held holds text) (λ e. (e ≡ Write) × TakesBeginning held holds text)
