-- What a run takes from its reader and gives to its writer.
use Rattle.std.specs.Prelude.{◌≡◌, ◌<◌, ◌≤◌, ◌-◌, ◌*◌, List, ℕ, ◌++◌, length, Option}
use Rattle.std.specs.Io.KnownBytes.{Consumes, Appends, IsAtEnd}
use Rattle.item_tree_request.specs.declared.stream.TheConstants.{ROOM, MOST_READS}

-- the most bytes that are read: the last read tells the end, and each before it has given at most its room
abbrev pub most_bytes : ℕ
most_bytes = (MOST_READS - 1) * ROOM

-- these are all the bytes that the reader had left, where those are known, and none is left; and they are no more than are read
abbrev pub IsReadToEnd : Option (List ℕ) → Option (List ℕ) → List ℕ → Type 0
IsReadToEnd had left bytes = Consumes had left bytes × IsAtEnd left × (length bytes ≤ most_bytes)

-- the writer took a beginning of the text, and not all of it
abbrev pub TakesOnlyBeginning : Option (List ℕ) → Option (List ℕ) → List ℕ → Type 0
TakesOnlyBeginning held holds text = (done : List ℕ) × (rest : List ℕ) × (text ≡ done ++ rest) × (0 < length rest) × Appends held holds done
