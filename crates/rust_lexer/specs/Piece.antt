-- A token as contracts see it.
use Rattle.std.specs.Prelude.{ℕ, List, refl}
use Rattle.std.specs.Coded.{Coded, code_by, coded×, coded_ℕ, coded_list}
use Rattle.rust_lexer.specs.declared.kind.TokenKind.{TokenKind}
use Rattle.rust_lexer.specs.contracts.kind.TokenKind as kinds

-- its kind, its text, and the place at which that begins
pub record Piece : Type 0 where
  pub kind : TokenKind
  pub text : List ℕ
  pub at : ℕ

-- pieces in code
abbrev pub coded_piece : Coded Piece
coded_piece = code_by (TokenKind × (List ℕ × ℕ)) (coded× kinds.the_row.coded (coded× (coded_list coded_ℕ) coded_ℕ))
    (λ p. (p.kind, (p.text, p.at))) (λ p. record { kind = p.0; text = p.1.0; at = p.1.1 }) (λ _. refl)
