-- Comments that document.
use Rattle.std.specs.Prelude.{Bool, true, false}
use Rattle.rust_lexer.specs.declared.kind.TokenKind.{TokenKind}
use Rattle.rust_lexer.specs.declared.kind.TokenKind.TheVariants as kinds

-- a comment that documents something
abbrev pub is_documentation : TokenKind → Bool
is_documentation (kinds.LineComment _) = true
is_documentation (kinds.BlockComment _) = true
is_documentation _ = false
