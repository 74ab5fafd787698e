-- Steps of what is passed over in turns.
use Rattle.std.proofs.Common.{◌≡◌, ◌<◌, ◌+◌, ◌-◌, ℕ, zero, suc, true, false, refl, arith}
use Rattle.rust_items.proofs.MemberCommon.{Tokens, Stand, is_part_end, stand_behind, behind_operand, behind_operands, is_type_end, behind_type_part, behind_type_parts}

pub operands_stop : (n : ℕ) (stand : Stand) (ts : Tokens) → is_part_end stand ts ≡ true → behind_operands n stand ts ≡ ts
operands_stop zero stand ts e = refl
operands_stop (suc n) stand ts e = rw e refl

pub operands_more : (bound at : ℕ) (stand : Stand) (ts : Tokens) → at < bound → is_part_end stand ts ≡ false
    → behind_operands (bound - at) stand ts ≡ behind_operands (bound - (at + 1)) (stand_behind stand ts) (behind_operand stand ts)
operands_more bound at stand ts below e = let turn : bound - at ≡ suc (bound - (at + 1)) = omega arith in rw (turn, e) refl

pub types_stop : (n : ℕ) (ts : Tokens) → is_type_end ts ≡ true → behind_type_parts n ts ≡ ts
types_stop zero ts e = refl
types_stop (suc n) ts e = rw e refl

pub types_more : (bound at : ℕ) (ts : Tokens) → at < bound → is_type_end ts ≡ false → behind_type_parts (bound - at) ts ≡ behind_type_parts (bound - (at + 1)) (behind_type_part ts)
types_more bound at ts below e = let turn : bound - at ≡ suc (bound - (at + 1)) = omega arith in rw (turn, e) refl
