-- What is taken of an item up to its end.
use Rattle.rust_cursor.specs.declared.cursor.nest.Before.{Before}
use Rattle.rust_cursor.specs.Extents.{ExcerptRead, excerpt_behind}
use Rattle.rust_cursor.specs.Reader.{Reader}
use Rattle.hir_input.specs.declared.ast.PlainKind.TheVariants as plain_kind
use Rattle.rust_leaves.specs.declared.head.Head.{Head}
use Rattle.rust_leaves.specs.declared.head.Head.TheVariants as head
use Rattle.rust_leaves.specs.Kinds.{excerpt_of}

-- what holds of all that is taken holds of it
pub by_taken : (P : Reader ExcerptRead → Type 0) → ((before : Before) (e : _) → P (excerpt_behind before e)) → (h : Head) → P (excerpt_of h)
by_taken P all head.Impl = all _ _
by_taken P all head.Const = all _ _
by_taken P all (head.Plain plain_kind.MacroDef) = all _ _
by_taken P all (head.Plain plain_kind.Static) = all _ _
by_taken P all (head.Plain plain_kind.TypeAlias) = all _ _
by_taken P all _ = all _ _
