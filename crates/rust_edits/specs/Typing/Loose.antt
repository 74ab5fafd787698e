-- Brackets that are loose in a body, and where problems stand in two texts that differ between the braces of a body.
use Rattle.std.specs.Prelude.{◌≡◌, ℕ, ◌+◌, ◌-◌, ◌==◌, if◌then◌else◌, List, [], ◌∷◌, map}
use Rattle.hir_input.specs.declared.edition.EditionYear.{EditionYear}
use Rattle.rust_lexer.specs.Alone.{tokens_in_front}
use Rattle.rust_lexer.specs.Piece.{Piece}
use Rattle.rust_lexer.specs.Symbol.{symbol_of}
use Rattle.rust_cursor.specs.Nests.{opens_other, closes_other}
use Rattle.rust_items.specs.LineEnds.{with_feeds, moved_problem}
use Rattle.rust_items.specs.SourceFiles.{FileView, IsFileView}
use Rattle.rust_edits.specs.Typing.Laws.{with_body, IsTyped}
use Rattle.rust_edits.specs.Typing.Moved.{shifted_by}

-- Of the brackets `(` and `[`, which are counted together: how many close nothing, and how many are open.
pub record Loose : Type 0 where
  pub closing : ℕ
  pub opening : ℕ

abbrev pub none_loose : Loose
none_loose = record { closing = 0; opening = 0 }

-- behind a token of this symbol
abbrev pub loose_behind : Loose → ℕ → Loose
loose_behind l c =
    if opens_other c then record { closing = l.closing; opening = l.opening + 1 }
    else (if closes_other c then (if l.opening == 0 then record { closing = l.closing + 1; opening = 0 } else record { closing = l.closing; opening = l.opening - 1 }) else l)

-- behind these tokens
abbrev pub loose_from : Loose → List Piece → Loose
loose_from l [] = l
loose_from l (t ∷ ts) = loose_from (loose_behind l (symbol_of t)) ts

-- those of what stands between two braces, across the braces in it
abbrev pub loose_in : List ℕ → Loose
loose_in m = loose_from none_loose (tokens_in_front 0 0 m (125 ∷ []))

-- Whatever is typed inside a body, if as many brackets in it close nothing and as many stay open as before, the same problems are told of the
-- text, where they stood; those behind the body move with the text.
abbrev pub ProblemsMove : Type 0
ProblemsMove = (edition : EditionYear) (q m m' s : List ℕ) (read again : FileView) → IsTyped edition (with_feeds q) (with_feeds m) (with_feeds m') (with_feeds s)
    → loose_in (with_feeds m') ≡ loose_in (with_feeds m) → IsFileView edition (with_body q m s) read → IsFileView edition (with_body q m' s) again
    → again.problems ≡ map (moved_problem (shifted_by q m m')) read.problems
