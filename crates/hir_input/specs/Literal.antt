-- Literals by their values.
use Rattle.std.specs.Prelude.{ℕ, List, Option}
use Rattle.hir_input.specs.declared.span.Span.{Span}

-- the text, the string of one that has it, and the span
pub record LiteralView : Type 0 where
  pub rendered : List ℕ
  pub string : Option (List ℕ)
  pub span : Span
