-- No token is left where no byte is.
use Rattle.std.proofs.Common.{◌≡◌, ℕ, ◌==◌, false, Option, Some, None, List, [], ◌∷◌, length, refl, arith}
use Rattle.rust_lexer.proofs.Common.{cond_both, nat_tests, Front, frontmatter, has_mark, is_nil, is_shebang, lines_from, mark_from, matter_by, matter_from, pieces, shebang_from, tokens_from}
use Rattle.rust_lexer.specs.declared.lexer.Front.TheVariants as front

some_length : (b : ℕ) (z : List ℕ) → false ≡ (length (b ∷ z) == 0)
some_length b z = grind (arith, nat_tests)

nil_from : (at : ℕ) (z : List ℕ) → is_nil (tokens_from 0 at z) ≡ (length z == 0)
nil_from at [] = refl
nil_from at (b ∷ z) = some_length b z

nil_matter : (found : Option ℕ) (at : ℕ) (z : List ℕ) → is_nil (matter_by found at z) ≡ (length z == 0)
nil_matter None at z = nil_from at z
nil_matter (Some n) at [] = refl
nil_matter (Some n) at (b ∷ z) = some_length b z

nil_shebang : (at : ℕ) (z : List ℕ) → is_nil (shebang_from at z) ≡ (length z == 0)
nil_shebang at [] = refl
nil_shebang at (b ∷ z) = some_length b z

nil_lines : (at : ℕ) (z : List ℕ) → is_nil (lines_from at z) ≡ (length z == 0)
nil_lines at z =
    cond_both (is_shebang (tokens_from 0 at z)) (shebang_from at z) (matter_from at z) (λ ts. is_nil ts ≡ (length z == 0))
    (λ _. nil_shebang at z) (λ _. nil_matter (frontmatter 0 z) at z)

nil_mark : (at : ℕ) (z : List ℕ) → is_nil (mark_from at z) ≡ (length z == 0)
nil_mark at [] = refl
nil_mark at (b ∷ z) = some_length b z

pub nil_left : (f : Front) (at : ℕ) (z : List ℕ) → is_nil (pieces f at z) ≡ (length z == 0)
nil_left front.Token at z = nil_from at z
nil_left front.Line at z = nil_lines at z
nil_left front.Matter at z = nil_matter (frontmatter 0 z) at z
nil_left front.Mark at z =
    cond_both (has_mark z) (mark_from at z) (lines_from at z) (λ ts. is_nil ts ≡ (length z == 0))
    (λ _. nil_mark at z) (λ _. nil_lines at z)
