-- What is left behind brackets. Braces are told from other brackets: a `}` also ends what was opened in its braces and is not closed.
use Rattle.std.specs.Prelude.{ℕ, ◌==◌, Bool, true, false, not, ◌&&◌, if◌then◌else◌}
use Rattle.rust_cursor.specs.declared.cursor.nest.Nest.{Nest}
use Rattle.rust_cursor.specs.Tokens.{Tokens}
use Rattle.rust_cursor.specs.Words.{symbol, is_empty, is_at_open, bumped}
use Rattle.rust_cursor.specs.Nests.{no_bracket, closes_other, passing_from}

-- In no brace that was opened since: the next token closes the bracket that this symbol opened, or the braces around it.
abbrev pub shuts : ℕ → Nest → Tokens → Bool
shuts bracket nest ts = if symbol ts == 125 then true else not (bracket == 123) && (nest.others == 0 && closes_other (symbol ts))

unfoldable pub is_closing : ℕ → Nest → Tokens → Bool
is_closing bracket nest ts = if is_empty ts then true else (if nest.braces == 0 then shuts bracket nest ts else false)

unfoldable pub closing : ℕ → Nest → Tokens → Tokens
closing bracket nest ts = passing_from (is_closing bracket) (λ _. false) nest ts ts.left

-- What is left from the bracket on that closes one that was opened by this symbol, or the braces around that; or nothing.
unfoldable pub to_closing : ℕ → Tokens → Tokens
to_closing bracket ts = closing bracket no_bracket ts

-- behind the bracket; one around it is not taken
abbrev pub behind_closing : ℕ → Tokens → Tokens
behind_closing bracket ts = if bracket == 123 then bumped ts else (if symbol ts == 125 then ts else bumped ts)

-- what is left behind the bracket that closes one that was opened by this symbol
unfoldable pub behind_closed : ℕ → Tokens → Tokens
behind_closed bracket ts = behind_closing bracket (to_closing bracket ts)

-- what is left behind the next token, or behind what stands in brackets
unfoldable pub behind_tree : Tokens → Tokens
behind_tree ts = if is_at_open ts then behind_closed (symbol ts) (bumped ts) else bumped ts
