-- What stands before an item's own parts.
use Rattle.std.specs.Prelude.{ℕ, Option, List}
use Rattle.hir_input.specs.declared.ast.Visibility.{Visibility}
use Rattle.hir_input.specs.Attr.{MetaView}
use Rattle.rust_cursor.specs.Reader.{Reader, ◌>>=◌, pure, look}
use Rattle.rust_cursor.specs.Words.{at}
use Rattle.rust_cursor.specs.Grammar.{reads}
use Rattle.rust_metas.specs.Attributes.{outer_attributes}
use Rattle.rust_leaves.specs.declared.head.Head.{Head}
use Rattle.rust_leaves.specs.Heads.{front_words}

-- where the item begins, and what stands before its own parts
pub record FrontRead : Type 0 where
  pub start : ℕ
  pub attrs : List MetaView
  pub visibility : Option Visibility
  pub head : Head

-- behind attributes: what stands in front of an item with them
unfoldable pub front_behind : ℕ → List MetaView → Reader FrontRead
front_behind start attrs = do
  w ← reads front_words
  pure (record { start = start; attrs = attrs; visibility = w.0; head = w.1 })

-- attributes, and what stands behind them
unfoldable pub front : Reader FrontRead
front = do
  start ← look at
  attrs ← outer_attributes
  front_behind start attrs
