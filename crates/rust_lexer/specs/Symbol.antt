-- The byte of a bracket or of punctuation.
use Rattle.std.specs.Prelude.{ℕ, slice_index}
use Rattle.rust_lexer.specs.declared.kind.TokenKind.TheVariants as kind
use Rattle.rust_lexer.specs.declared.kind.TokenKind.{TokenKind}
use Rattle.rust_lexer.specs.Piece.{Piece}

-- a byte for a bracket or for punctuation, else 0
abbrev pub symbol_from : TokenKind → ℕ → ℕ
symbol_from kind.OpenDelim b = b
symbol_from kind.CloseDelim b = b
symbol_from kind.Punct b = b
symbol_from _ b = 0

-- the byte of a token that is punctuation, or 0
abbrev pub symbol_of : Piece → ℕ
symbol_of t = symbol_from t.kind (slice_index t.text 0)
