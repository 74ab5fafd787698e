-- Messages behind headers that say how long they are.
use Rattle.std.specs.Prelude.{◌≡◌, ◌<◌, ◌≤◌, ◌^◌, ◌⊎◌, ℕ, List, [], ◌∷◌, ◌++◌, length, map, codes, decimal}
use Rattle.std.specs.Char.{to_ascii_lowercase}
use Rattle.std.specs.Str.Parse.{IsNumeral, digits_value, without_leading_plus}
use Rattle.httparse.specs.Grammar.{Field, LineEnd, ReadsSection}
use Rattle.httparse.specs.Spans.{name_and_value, SectionOverflows}
use Rattle.message_stream.specs.declared.error.StreamError.{StreamError}
use Rattle.message_stream.specs.declared.error.StreamError.TheVariants.{Read, Write, Header, Length, Cut, OutOfMemory}
use Rattle.message_stream.specs.declared.sections.TheConstants.{MOST_FIELDS, MOST_HEADER}
use Rattle.message_stream.specs.Frames.{Frames}

-- ---- headers

-- the name of the field that says how long a message is, in small letters or capitals
abbrev pub IsLengthName : List ℕ → Type 0
IsLengthName name = map to_ascii_lowercase name ≡ map to_ascii_lowercase (codes "content-length")

-- the first field of that name has this value
abbrev pub IsLengthValue : List (List ℕ × List ℕ) → List ℕ → Type 0
IsLengthValue [] value = ⊥
IsLengthValue (field ∷ fields) value = (IsLengthName field.0 × (value ≡ field.1)) ⊎ (¬ (IsLengthName field.0) × IsLengthValue fields value)

-- the value is a number in decimal digits, before which a plus may stand
abbrev pub IsNumberOf : List ℕ → ℕ → Type 0
IsNumberOf value n = IsNumeral 10 (without_leading_plus value) × (n ≡ digits_value 10 (without_leading_plus value))

-- the bytes are fields and an empty line, and the first field of that name says this length
abbrev pub SaysLength : List ℕ → ℕ → Type 0
SaysLength bytes n = (fields : List Field) × (last : LineEnd) × ReadsSection bytes fields last []
    × ((value : List ℕ) × IsLengthValue (map name_and_value fields) value × IsNumberOf value n)

-- they are a header, if they are not too many
abbrev pub IsHeader : List ℕ → ℕ → Type 0
IsHeader bytes n = (length bytes ≤ MOST_HEADER) × SaysLength bytes n

-- the first of them of that name says no length below 2^64, or none has that name
abbrev pub HasNoLength : List (List ℕ × List ℕ) → Type 0
HasNoLength fields = (value : List ℕ) (n : ℕ) → IsLengthValue fields value → IsNumberOf value n → 2 ^ 64 ≤ n

-- the bytes are fields and an empty line, and say no length
abbrev pub SaysNoLength : List ℕ → Type 0
SaysNoLength bytes = (fields : List Field) × (last : LineEnd) × ReadsSection bytes fields last [] × HasNoLength (map name_and_value fields)

-- no header of so few fields and bytes begins so
abbrev pub IsNoHeader : List ℕ → Type 0
IsNoHeader bytes = SectionOverflows MOST_FIELDS bytes ⊎ (MOST_HEADER < length bytes)

-- ---- as messages

-- the bytes are a message behind a header, as long as that says
abbrev pub IsHeaded : List ℕ → List ℕ → Type 0
IsHeaded bytes message = (header : List ℕ) × (bytes ≡ header ++ message) × IsHeader header (length message)

-- the digits of a length, and what ends a header
abbrev pub length_line : ℕ → List ℕ
length_line n = decimal n ++ 13 ∷ 10 ∷ 13 ∷ 10 ∷ []

-- the header of a text of so many bytes
abbrev pub length_header : ℕ → List ℕ
length_header n = codes "Content-Length: " ++ length_line n

-- a text behind its header
abbrev pub with_header : List ℕ → List ℕ
with_header text = length_header (length text) ++ text

-- the bytes begin with no whole message
abbrev pub HasNoMessage : List ℕ → Type 0
HasNoMessage bytes = (first message rest : List ℕ) → bytes ≡ first ++ rest → ¬ (IsHeaded first message)

-- a wrong header is told only where none begins so, that one says no length only of such a one, and a cut only within a message
abbrev pub IsHeadedFault : StreamError → List ℕ → Type 0
IsHeadedFault Read part = Unit {0}
IsHeadedFault Write part = ⊥
IsHeadedFault Header part = IsNoHeader part
IsHeadedFault Length part = SaysNoLength part
IsHeadedFault Cut part = (0 < length part) × HasNoMessage part
IsHeadedFault OutOfMemory part = Unit {0}

-- how messages behind headers stand among bytes: the end ends none
abbrev pub header_frames : Frames
header_frames = record { IsFramed = IsHeaded; IsLast = λ _ _. ⊥; IsFault = IsHeadedFault; framed = with_header }
