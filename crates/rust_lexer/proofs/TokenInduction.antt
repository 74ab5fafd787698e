-- What holds of all tokens of a text: what holds of none, and goes on from each token's back to its front.
use Rattle.std.proofs.Common.{◌≡◌, ℕ, zero, suc, ◌+◌, ◌-◌, Bool, true, false, Option, Some, None, List, [], ◌∷◌, length, take, drop, refl}
use Rattle.rust_lexer.proofs.Common.{cond_both, TokenKind, run_length, cut, first_cut, frontmatter, Piece, has_mark, is_shebang, lines_from, mark_from, matter_by, matter_from, piece, shebang_from, tokens, tokens_from, whole_length}
use Rattle.rust_lexer.specs.declared.bytes.Class.TheVariants as class
use Rattle.rust_lexer.specs.declared.kind.TokenKind.TheVariants as kind

-- what may stand in front of a text alone
abbrev pub is_front : TokenKind → Bool
is_front kind.ByteOrderMark = true
is_front kind.Shebang = true
is_front kind.Frontmatter = true
is_front _ = false

module _ (P : List Piece → Type 0) (none : P []) (one : (at b : ℕ) (z : List ℕ) (ts : List Piece) → P ts → P (piece (first_cut b z) at b z ∷ ts))
    (front : (k : TokenKind) (n at b : ℕ) (z : List ℕ) (ts : List Piece) → is_front k ≡ true → P ts → P (piece (cut k n) at b z ∷ ts)) where
  each_from : (left at : ℕ) (z : List ℕ) → P (tokens_from left at z)
  each_from zero at [] = none
  each_from (suc left) at [] = none
  each_from (suc left) at (b ∷ z) = each_from left (suc at) z
  each_from zero at (b ∷ z) = one at b z _ (each_from (whole_length (first_cut b z) z) (suc at) z)

  each_matter : (found : Option ℕ) (at : ℕ) (z : List ℕ) → P (matter_by found at z)
  each_matter None at z = each_from 0 at z
  each_matter (Some n) at [] = none
  each_matter (Some n) at (b ∷ z) = front kind.Frontmatter (n - 1) at b z _ refl (each_from (whole_length (cut kind.Frontmatter (n - 1)) z) (suc at) z)

  each_shebang : (at : ℕ) (z : List ℕ) → P (shebang_from at z)
  each_shebang at [] = none
  each_shebang at (b ∷ z) =
      let n = whole_length (cut kind.Shebang (run_length class.Line z)) z in
      front kind.Shebang (run_length class.Line z) at b z _ refl (each_matter (frontmatter 0 (drop n z)) (at + suc (length (take n z))) (drop n z))

  each_lines : (at : ℕ) (z : List ℕ) → P (lines_from at z)
  each_lines at z = cond_both (is_shebang (tokens_from 0 at z)) (shebang_from at z) (matter_from at z) P (λ _. each_shebang at z) (λ _. each_matter (frontmatter 0 z) at z)

  each_mark : (at : ℕ) (z : List ℕ) → P (mark_from at z)
  each_mark at [] = none
  each_mark at (b ∷ z) =
      let n = whole_length (cut kind.ByteOrderMark 2) z in front kind.ByteOrderMark 2 at b z _ refl (each_lines (at + suc (length (take n z))) (drop n z))

  pub each_token : (z : List ℕ) → P (tokens z)
  unfolding tokens
  each_token z = cond_both (has_mark z) (mark_from 0 z) (lines_from 0 z) P (λ _. each_mark 0 z) (λ _. each_lines 0 z)
