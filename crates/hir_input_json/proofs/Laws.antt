-- What holds of every form that holds forms of its own kind.
use Rattle.std.specs.Prelude.{◌≡◌, ◌<◌, ℕ}
use Rattle.serde_json.specs.Data.{Data, depth}
use Rattle.hir_input_json.proofs.Common.{Reading, nested_reading}

-- two readings that agree on all that nests less deep than this
abbrev pub AgreeBelow : {A : Type 0} → (Data → Reading A) → (Data → Reading A) → ℕ → Type 0
AgreeBelow f g n = (e : Data) → depth e < n → f e ≡ g e

-- The form asks only for the readings of values inside.
abbrev pub LooksInside : {A : Type 0} → ((Data → Reading A) → Data → Reading A) → Type 0
LooksInside {A} form = (f g : Data → Reading A) (d : Data) → AgreeBelow f g (depth d) → form f d ≡ form g d

-- the reading is the form over itself
abbrev pub ReadsItself : {A : Type 0} → ((Data → Reading A) → Data → Reading A) → Type 0
ReadsItself {A} form = (d : Data) → nested_reading form d ≡ form (nested_reading form) d
