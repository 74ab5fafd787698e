-- How messages stand among bytes.
use Rattle.std.specs.Prelude.{ℕ, List}
use Rattle.message_stream.specs.declared.error.StreamError.{StreamError}

-- how messages stand among bytes: which bytes are a message whatever follows them, and which at the end alone; what was read of one when an error came; and how a text is written as one
pub record Frames : Type 1 where
  pub IsFramed : List ℕ → List ℕ → Type 0
  pub IsLast : List ℕ → List ℕ → Type 0
  pub IsFault : StreamError → List ℕ → Type 0
  pub framed : List ℕ → List ℕ
