-- How far a run goes, and a word by the bits of sixteen bytes.
use Rattle.std.proofs.Common.{◌≡◌, ◌+◌, ◌≤◌, ◌<◌, ◌^◌, ◌==◌, ℕ, zero, suc, true, false, List, [], ◌∷◌, length, drop, refl, ap, sym, ◌∙◌, arith, slice_index, nat_le, w64}
use Rattle.std.proofs.lemmas.Nat.Bits.{bit_at-trailing_ones}
use Rattle.std.proofs.lemmas.Simd.{get_or-chunk}
use Rattle.std.specs.Int.{bit_at, trailing_ones}
use lib.Lanes.{chunk}
use Rattle.rust_lexer.specs.declared.bytes.Class.{Class}
use Rattle.rust_lexer.specs.declared.bytes.Class.TheVariants as class
use Rattle.rust_lexer.proofs.Common.{is_ascii_alphanumeric, is_continuation, is_in_class, is_plain_byte, is_wide_continue, nat_tests, run_length}
use Rattle.rust_lexer.proofs.Cases.{when}

-- a run ends at the first byte that is not of the class
pub run_to : (c : Class) (z : List ℕ) (n : ℕ) → n < length z → ((k : ℕ) → k < n → is_in_class c (slice_index z k) (drop (suc k) z) ≡ true) → is_in_class c (slice_index z n) (drop (suc n) z) ≡ false
    → run_length c z ≡ n
run_to c [] n lt all none = absurd (omega (arith, lt))
run_to c (b ∷ z) zero lt all none = rw none refl
run_to c (b ∷ z) (suc n) lt all none =
    let first : is_in_class c b z ≡ true = all 0 (omega arith) in
    rw first (ap suc (run_to c z n (omega (arith, lt)) (λ k below. all (suc k) (omega (arith, below))) none))

plain_in : (b : ℕ) (y : List ℕ) → is_plain_byte b ≡ true → is_in_class class.Word b y ≡ true
plain_in b y e =
    when (is_ascii_alphanumeric b) (λ f. rw f refl)
    (λ f. let low : (b == 95) ≡ true = rw f at e in rw (f, low) refl)

other_out : (b : ℕ) (y : List ℕ) → is_plain_byte b ≡ false → b < 128 → is_in_class class.Word b y ≡ false
unfolding is_wide_continue
other_out b y e low =
    let behind : is_continuation b ≡ false = grind (arith, nat_tests) in
    let wide : nat_le 192 b ≡ false = grind (arith, nat_tests) in
    when (is_ascii_alphanumeric b) (λ f. let g = rw f at e in absurd cc)
    (λ f. let under : (b == 95) ≡ false = rw f at e in rw (f, under, behind, wide) refl)

-- the first bit that is not set stands for the first byte behind a word
pub word_told : (z : List ℕ) (bits n : ℕ) → 16 ≤ length z → ((k : ℕ) → k < 16 → (bit_at bits k == 1) ≡ is_plain_byte (slice_index (chunk 0 16 z) k)) → bits < 2 ^ 16 → n ≡ trailing_ones w64 bits → n < 16 → slice_index z n < 128
    → n ≡ run_length class.Word z
word_told z bits n room told few first below low =
    let ones = bit_at-trailing_ones w64 bits (omega (arith, few)) in
    let plain_is = λ (k : ℕ) (h : k < 16). let place : 0 + k ≡ k = omega arith in told k h ∙ ap is_plain_byte (get_or-chunk 0 16 z k 0 h ∙ ap (slice_index z) place) in
    let on = λ (k : ℕ) (h : k < n). sym (plain_is k (omega (arith, h, below))) ∙ ap (λ b. b == 1) (ones.2 k (omega (arith, h, first))) in
    let off = sym (plain_is n below) ∙ ap (λ m. bit_at bits m == 1) first ∙ ap (λ b. b == 1) ones.1 in
    sym (run_to class.Word z n (omega (arith, below, room)) (λ k h. plain_in (slice_index z k) (drop (suc k) z) (on k h)) (other_out (slice_index z n) (drop (suc n) z) off low))
