-- A search for the end of a line gives how many bytes stand before it.
use Rattle.std.proofs.Common.{◌≡◌, ◌≤◌, ◌<◌, ℕ, suc, ◌==◌, true, not, List, [], ◌∷◌, Option, None, Some, length, refl, ap, sym, ◌∙◌, arith, slice_index}
use Rattle.std.specs.Option.{unwrap_or}
use Rattle.memchr.specs.Find.{IsFirstByte, is_byte}
use Rattle.rust_lexer.specs.declared.bytes.Class.TheVariants as class
use Rattle.rust_lexer.proofs.Common.{run_length}
use Rattle.rust_lexer.proofs.Cases.{when}
use Rattle.rust_lexer.proofs.Runs.{run_to}

goes_on : (b : ℕ) (z : List ℕ) → ((b == 10) ≡ true → ⊥) → run_length class.Line (b ∷ z) ≡ suc (run_length class.Line z)
goes_on b z none = when (b == 10) (λ e. absurd (none e)) (λ e. rw e refl)

no_end : (z : List ℕ) → ((k : ℕ) → k < length z → (slice_index z k == 10) ≡ true → ⊥) → run_length class.Line z ≡ length z
no_end [] none = refl
no_end (b ∷ z) none = goes_on b z (none 0 (omega arith)) ∙ ap suc (no_end z (λ k lt. none (suc k) (omega (arith, lt))))

first_end : (z : List ℕ) (n : ℕ) → n < length z → (slice_index z n == 10) ≡ true → ((k : ℕ) → k < n → (slice_index z k == 10) ≡ true → ⊥) → run_length class.Line z ≡ n
first_end z n lt hit none = run_to class.Line z n lt (λ k below. when (slice_index z k == 10) (λ e. absurd (none k below e)) (ap not)) (ap not hit)

pub line_run : (z : List ℕ) (r : Option ℕ) → IsFirstByte (is_byte 10) z r → unwrap_or r (length z) ≡ run_length class.Line z
line_run z None h = sym (no_end z (λ k lt hit. h k (omega arith) lt hit))
line_run z (Some n) h = sym (first_end z n h.0.high h.1 (λ k below hit. h.0.before k (omega arith) below hit))

pub line_within : (z : List ℕ) (r : Option ℕ) → IsFirstByte (is_byte 10) z r → unwrap_or r (length z) ≤ length z
line_within z None h = omega arith
line_within z (Some n) h = let lt : n < length z = h.0.high in omega (arith, lt)
