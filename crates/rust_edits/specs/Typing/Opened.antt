-- The `{` of a body is a token.
use Rattle.std.specs.Prelude.{◌≡◌, ℕ, false, List, ◌∷◌, ◌++◌}
use Rattle.hir_input.specs.declared.edition.EditionYear.{EditionYear}
use Rattle.rust_lexer.specs.Alone.{is_fence, overhang}
use Rattle.rust_lexer.specs.Tokens.{has_mark, is_shebang, tokens_from}
use Rattle.rust_edits.specs.Typing.Laws.{with_body, IsBody}

-- If braces are a body of a text, their `{` is a token of it (`OpensAt.one`): of a text that begins with neither a byte order mark, a shebang
-- line nor frontmatter.
abbrev pub BodyOpens : Type 0
BodyOpens = (edition : EditionYear) (q m s : List ℕ) → IsBody edition q m s → has_mark (with_body q m s) ≡ false → is_fence (with_body q m s) ≡ false
    → is_shebang (tokens_from 0 0 (with_body q m s)) ≡ false → overhang 0 q (123 ∷ (m ++ 125 ∷ s)) ≡ 0
