-- What a service does.
use Rattle.std.specs.Prelude.{◌≡◌, ℕ, Bool, List, [], ◌∷◌, map, string_bytes}
use Rattle.message_stream.specs.declared.service.Answer.{Answer}
use Rattle.message_stream.specs.declared.service.Answer.TheVariants.{Made, Fixed, Several}
use Rattle.message_stream.specs.Messages.{Told}

-- the bytes of the texts of an answer
abbrev pub answer_texts : Answer → List (List ℕ)
answer_texts (Made text) = string_bytes text ∷ []
answer_texts (Fixed text) = text.now ∷ []
answer_texts (Several texts) = map string_bytes texts.items

-- the answers of a service: as it stands, it may answer what it is told by these texts, and then stands so
abbrev pub Answering : Type 0 → Type 1
Answering S = S → Told → S → List (List ℕ) → Type 0

-- those of a service that answers each message by one text
abbrev pub OneEach : {S : Type 0} → (S → Told → S → List ℕ → Type 0) → Answering S
OneEach Answers old said new texts = (text : List ℕ) × (texts ≡ text ∷ []) × Answers old said new text

-- how a service rests: as it stands, it may tell these texts, and then stands so
abbrev pub Resting : Type 0 → Type 1
Resting S = S → S → List (List ℕ) → Type 0

-- so does one that has nothing to tell
abbrev pub IsStill : {S : Type 0} → Resting S
IsStill old new texts = (new ≡ old) × (texts ≡ [])

-- what a service does: how it answers and rests, whether nothing is left to tell at a rest, and whether it is over
pub record Conduct (S : Type 0) : Type 1 where
  pub Answers : Answering S
  pub Rests : Resting S
  pub is_rested : S → Bool
  pub is_over : S → Bool
