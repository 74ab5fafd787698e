-- A form that holds forms of its own kind.
use Rattle.std.specs.Prelude.{ℕ, zero, suc, []}
use Rattle.serde_json.specs.Data.{Data, depth}
use Rattle.hir_input_json.specs.Reading.{Reading, wrong}

-- by a form over the reading of those inside, down to this many within one another
abbrev pub nested_at : {A : Type 0} → ((Data → Reading A) → Data → Reading A) → ℕ → Data → Reading A
nested_at form zero d = wrong []
nested_at form (suc n) d = form (nested_at form n) d

-- down to the last
unfoldable pub nested_reading : {A : Type 0} → ((Data → Reading A) → Data → Reading A) → Data → Reading A
nested_reading form d = nested_at form (suc (depth d)) d
