-- Which comments and literals are closed.
use Rattle.std.specs.Prelude.{ℕ, Bool, true, false, List, drop, Option, Some, None}
use Rattle.rust_lexer.specs.declared.quoted.Extent.{Extent}
use Rattle.rust_lexer.specs.declared.kind.LiteralKind.TheVariants as literals
use Rattle.rust_lexer.specs.declared.kind.LiteralKind.{LiteralKind}
use Rattle.rust_lexer.specs.declared.kind.TokenKind.TheVariants as kind
use Rattle.rust_lexer.specs.declared.kind.TokenKind.{TokenKind}
use Rattle.rust_lexer.specs.Comment.{block}
use Rattle.rust_lexer.specs.Quoted.{character, raw_string, string}
use Rattle.rust_lexer.specs.Piece.{Piece}

abbrev pub is_extent_closed : Option Extent → Bool
is_extent_closed None = false
is_extent_closed (Some extent) = extent.is_closed

-- whether a raw string is closed, from its `#` on
abbrev pub is_raw_closed : List ℕ → Bool
is_raw_closed z = is_extent_closed (raw_string 0 z)

-- whether a literal of this text is closed, if it is quoted
abbrev pub is_literal_closed : LiteralKind → List ℕ → Bool
is_literal_closed literals.Char text = (character 0 (drop 1 text)).is_closed
is_literal_closed literals.Byte text = (character 0 (drop 2 text)).is_closed
is_literal_closed literals.Str text = (string false 0 (drop 1 text)).is_closed
is_literal_closed literals.ByteStr text = (string false 0 (drop 2 text)).is_closed
is_literal_closed literals.CStr text = (string false 0 (drop 2 text)).is_closed
is_literal_closed literals.RawStr text = is_raw_closed (drop 1 text)
is_literal_closed literals.RawByteStr text = is_raw_closed (drop 2 text)
is_literal_closed literals.RawCStr text = is_raw_closed (drop 2 text)
is_literal_closed _ text = true

abbrev pub is_closed_token : TokenKind → List ℕ → Bool
is_closed_token (kind.BlockComment _) text = (block false 0 0 (drop 2 text)).is_closed
is_closed_token (kind.Literal k) text = is_literal_closed k text
is_closed_token _ text = true

-- a literal or a block comment has its end
abbrev pub is_terminated : Piece → Bool
is_terminated t = is_closed_token t.kind t.text
