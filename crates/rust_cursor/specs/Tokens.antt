-- What is left of the tokens of a text.
use Rattle.std.specs.Prelude.{ℕ, ◌+◌, if◌then◌else◌, Option, Some, None, List, [], ◌∷◌, length, refl, filter}
use Rattle.std.specs.Coded.{Coded, code_by, coded×, coded_ℕ, coded_list, coded_option}
use Rattle.hir_input.specs.declared.edition.EditionYear.{EditionYear}
use Rattle.hir_input.specs.contracts.edition.EditionYear as years
use Rattle.rust_lexer.specs.Piece.{Piece, coded_piece}
use Rattle.rust_lexer.specs.Terminated.{is_terminated}
use Rattle.rust_lexer.specs.Tokens.{tokens, is_significant}

-- The byte place behind the last token that was taken, and the tokens that are left, without white space and comments.
-- And of the text as a whole: the place of its last token, if that is not ended, and its edition. Both stay while tokens are taken.
pub record Tokens : Type 0 where
  pub past : ℕ
  pub left : List Piece
  pub unended : Option ℕ
  pub edition : EditionYear

-- what is left to be read, in code
abbrev pub coded_tokens : Coded Tokens
coded_tokens = code_by (ℕ × (List Piece × (Option ℕ × EditionYear)))
    (coded× coded_ℕ (coded× (coded_list coded_piece) (coded× (coded_option coded_ℕ) years.the_row.coded)))
    (λ t. (t.past, (t.left, (t.unended, t.edition)))) (λ p. record { past = p.0; left = p.1.0; unended = p.1.1.0; edition = p.1.1.1 }) (λ _. refl)

abbrev pub place_if_open : Piece → Option ℕ
place_if_open t = if is_terminated t then None else Some t.at

-- the place of the last of these tokens, if it is not ended; where there are none, this
abbrev pub last_unended : Option ℕ → List Piece → Option ℕ
last_unended last [] = last
last_unended last (t ∷ ts) = last_unended (place_if_open t) ts

-- the tokens of a text of an edition
unfoldable pub tokens_of : EditionYear → List ℕ → Tokens
tokens_of edition text = record { past = 0; left = filter is_significant (tokens text); unended = last_unended None (tokens text); edition = edition }

-- a token that was looked at, and those that count of what is behind it
abbrev pub left_of : Option Piece → List Piece → List Piece
left_of None behind = []
left_of (Some t) behind = t ∷ filter is_significant behind

-- the byte place behind a token
abbrev pub end_of : Piece → ℕ
end_of t = t.at + length t.text
