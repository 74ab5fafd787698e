-- What is told of a message.
use Rattle.std.specs.Prelude.{◌≡◌, ◌<◌, ◌≤◌, ℕ, List, length}
use Rattle.message_stream.specs.declared.message.Message.{Message}
use Rattle.message_stream.specs.declared.message.Message.TheVariants.{Whole, TooLong, OutOfMemory}
use Rattle.message_stream.specs.declared.message.TheConstants.{MOST_MESSAGE}

-- what is told of a message: its bytes, that it is too long, or that memory ran out for it
pub data Told : Type 0 where
  whole : List ℕ → Told
  too_long : Told
  no_memory : Told

-- what a message of the code tells
abbrev pub message_told : Message → Told
message_told (Whole bytes) = whole bytes.items
message_told TooLong = too_long
message_told OutOfMemory = no_memory

-- this may be told of a message: its bytes where it is no longer than the longest, that it is too long where it is longer, and of each but an empty one that memory ran out
abbrev pub IsToldOf : List ℕ → Told → Type 0
IsToldOf message (whole bytes) = (bytes ≡ message) × (length message ≤ MOST_MESSAGE)
IsToldOf message too_long = MOST_MESSAGE < length message
IsToldOf message no_memory = 0 < length message
