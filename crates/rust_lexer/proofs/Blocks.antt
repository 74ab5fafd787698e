-- The first bit that is left of a block stands for the first stop.
use Rattle.std.proofs.Common.{◌≡◌, ◌≤◌, ◌<◌, ℕ, zero, suc, ◌+◌, ◌-◌, ◌/◌, ◌^◌, ◌%◌, ◌==◌, true, false, List, [], ◌∷◌, length, drop, drop-drop, length-drop, refl, sym, ap, ◌∙◌, arith, slice_index, w64, inl, inr}
use Rattle.std.proofs.lemmas.Bool.{cases_lt}
use Rattle.std.proofs.Math.Nat.{div-le_self}
use Rattle.std.proofs.lemmas.Nat.{shr-shr}
use Rattle.std.proofs.lemmas.Nat.Bits.{bit_at_above, bit_at-trailing_zeros, bit_at-zero}
use Rattle.std.specs.Int.{bit_at, trailing_zeros}
use Rattle.rust_lexer.proofs.Common.{get_or-drop, IsBlock, gap, is_stop_byte}
use Rattle.rust_lexer.specs.declared.stops.Block.{Block}
use Rattle.rust_lexer.proofs.Gaps.{gap_in, gap_out}

-- ---- a gap by the places of its bytes

gap_none : (y : List ℕ) → is_stop_byte (slice_index y 0) ≡ true → gap y ≡ 0
gap_none [] e = refl
gap_none (b ∷ y) e = gap_out b y e

gap_over : (n : ℕ) (y : List ℕ) → n ≤ length y → ((k : ℕ) → k < n → is_stop_byte (slice_index y k) ≡ false) → gap y ≡ n + gap (drop n y)
gap_over zero y le off = omega arith
gap_over (suc n) [] le off = absurd (omega (arith, le))
gap_over (suc n) (b ∷ y) le off =
    omega (arith, gap_in b y (off 0 (omega arith)), gap_over n y (omega (arith, le)) (λ k l. off (suc k) (omega (arith, l))))

module _ (z : List ℕ) (at : ℕ) (b : Block) (block : IsBlock z at b) (holds : at < b.end) (fits : b.bits < 2 ^ 64) where
  -- what is left of the bits
  abbrev left : ℕ
  left = b.bits / 2 ^ (at - b.at)

  ends : b.end ≡ b.at + 64
  ends = block.full (omega (arith, block.begun, holds))

  bit_is : (k : ℕ) → bit_at left k ≡ bit_at b.bits (at - b.at + k)
  bit_is k = ap (λ x. x % 2) (shr-shr b.bits (at - b.at) k)

  -- each tells of its byte
  stop_is : (k : ℕ) → at + k < b.end → (bit_at left k == 1) ≡ is_stop_byte (slice_index (drop at z) k)
  stop_is k l =
      let place : b.at + (at - b.at + k) ≡ at + k = omega (arith, block.begun) in
      ap (λ x. x == 1) (bit_is k) ∙ block.told (at - b.at + k) (omega (arith, place, l))
      ∙ ap (λ n. is_stop_byte (slice_index z n)) place ∙ ap is_stop_byte (sym (get_or-drop at z k 0))

  no_stop : (k : ℕ) → at + k < b.end → bit_at left k ≡ 0 → is_stop_byte (slice_index (drop at z) k) ≡ false
  no_stop k l e = sym (stop_is k l) ∙ ap (λ x. x == 1) e

  inside : (k : ℕ) → bit_at left k ≡ 1 → at + k < b.end
  inside k e =
      elim (cases_lt (at - b.at + k) 64) [
        | inl below ↦ omega (arith, below, ends, block.begun)
        | inr above ↦ absurd (omega (arith, sym e ∙ bit_is k ∙ bit_at_above b.bits 64 (at - b.at + k) fits above))
      ]

  room : (n : ℕ) → at + n ≤ b.end → n ≤ length (drop at z)
  room n l = omega (arith, l, block.within, length-drop at z)

  over : (n : ℕ) → at + n ≤ b.end → ((k : ℕ) → k < n → bit_at left k ≡ 0) → at + gap (drop at z) ≡ at + n + gap (drop (at + n) z)
  over n l none =
      let far = gap_over n (drop at z) (room n l) (λ k h. no_stop k (omega (arith, h, l)) (none k h)) in
      let next = ap gap (drop-drop n at z) in
      omega (arith, far, next)

  -- no bit is left
  pub past_block : left ≡ 0 → at + gap (drop at z) ≡ b.end + gap (drop b.end z)
  past_block none =
      let end : at + (b.end - at) ≡ b.end = omega (arith, holds) in
      over (b.end - at) (omega (arith, end)) (λ k h. ap (λ m. bit_at m k) none ∙ bit_at-zero k) ∙ ap (λ n. n + gap (drop n z)) end

  left_fits : left < 2 ^ 64
  left_fits = omega (arith, fits, div-le_self b.bits (2 ^ (at - b.at)))

  module _ (some : 0 < left) where
    lowest : (trailing_zeros w64 left < 64) × (bit_at left (trailing_zeros w64 left) ≡ 1) × ((i : ℕ) → i < trailing_zeros w64 left → bit_at left i ≡ 0)
    lowest = bit_at-trailing_zeros w64 left some left_fits

    -- the lowest is a stop
    pub found_inside : at + trailing_zeros w64 left < b.end
    found_inside = inside (trailing_zeros w64 left) lowest.1

    pub found : at + trailing_zeros w64 left ≡ at + gap (drop at z)
    found =
        let t = trailing_zeros w64 left in
        let stop : is_stop_byte (slice_index (drop (at + t) z) 0) ≡ true =
        ap is_stop_byte (get_or-drop (at + t) z 0 0 ∙ ap (slice_index z) (omega arith) ∙ sym (get_or-drop at z t 0)) ∙ sym (stop_is t found_inside) ∙ ap (λ x. x == 1) lowest.1 in
        omega (arith, over t (omega (arith, found_inside)) lowest.2, gap_none (drop (at + t) z) stop)
