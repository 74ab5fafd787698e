-- Tokens of two texts that differ between two braces.
use Rattle.std.specs.Prelude.{◌≡◌, ◌<◌, ◌≤◌, ℕ, suc, ◌+◌, Bool, true, false, Option, Some, List, [], ◌∷◌, ◌++◌, map}
use Rattle.hir_input.specs.declared.edition.EditionYear.{EditionYear}
use Rattle.rust_lexer.specs.Piece.{Piece}
use Rattle.rust_lexer.specs.Symbol.{symbol_of}
use Rattle.rust_lexer.specs.Alone.{moved_piece, braces_from}
use Rattle.rust_cursor.specs.Tokens.{Tokens, end_of}
use Rattle.rust_cursor.specs.Words.{is_open}

-- this place and the ends of these tokens come before the braces
abbrev pub AreBefore : ℕ → ℕ → List Piece → Type 0
AreBefore at past [] = past ≤ at
AreBefore at past (t ∷ ts) = (past ≤ at) × AreBefore at (end_of t) ts

-- and behind them, as where these tokens begin
abbrev pub AreBehind : ℕ → ℕ → List Piece → Type 0
AreBehind low past [] = low ≤ past
AreBehind low past (t ∷ ts) = ((low ≤ past) × (low ≤ t.at)) × AreBehind low (end_of t) ts

-- What stands between the braces, in one text and in the other of the same edition, and how far each moves what stands behind; and
-- whether they are passed: then only what stands behind them is spoken of.
pub record Bodies : Type 0 where
  pub edition : EditionYear
  pub passed : Bool
  pub opening : Piece
  pub closing : Piece
  pub old : List Piece
  pub new : List Piece
  pub by : ℕ
  pub by_new : ℕ
  pub opens : symbol_of opening ≡ 123
  pub is_bracket : is_open opening ≡ true
  pub closes : symbol_of closing ≡ 125
  pub old_behind : AreBehind (suc opening.at) (end_of opening) old
  pub apart : opening.at < closing.at + by
  pub apart_new : opening.at < closing.at + by_new
  pub old_matched : braces_from 0 old ≡ Some 0
  pub new_matched : braces_from 0 new ≡ Some 0

-- they are not passed, and these stand behind them
pub record AreOpen (b : Bodies) (r : List Piece) : Type 0 where
  pub unpassed : b.passed ≡ false
  pub behind : AreBehind (end_of b.closing) (end_of b.closing) r

-- what is left of the two texts: both stand before the braces, and before the same tokens; or both behind them
pub data Beside (b : Bodies) : Tokens → Tokens → Type 0 where
  ahead : (past : ℕ) (x r : List Piece) (u u' : Option ℕ) → AreBefore b.opening.at past x → AreOpen b r → Beside b
      (record { past = past; left = x ++ b.opening ∷ (b.old ++ moved_piece b.by b.closing ∷ map (moved_piece b.by) r); unended = u; edition = b.edition })
      (record { past = past; left = x ++ b.opening ∷ (b.new ++ moved_piece b.by_new b.closing ∷ map (moved_piece b.by_new) r); unended = u'; edition = b.edition })
  behind : (past : ℕ) (r : List Piece) (u u' : Option ℕ) → AreBehind (end_of b.closing) past r → Beside b
      (record { past = past + b.by; left = map (moved_piece b.by) r; unended = u; edition = b.edition })
      (record { past = past + b.by_new; left = map (moved_piece b.by_new) r; unended = u'; edition = b.edition })
