-- Which numbers are characters.
use lib.Utf8.{scalar}
use Rattle.std.proofs.Common.{◌≡◌, ◌+◌, ◌<◌, ◌≤◌, ◌^◌, ℕ, Bool, true, false, lit<, Some, None, if◌then◌else◌, refl, arith}
use Rattle.std.proofs.Math.Nat.{pow-le-pow_right}
use Rattle.std.specs.Char.{IsScalar}
use Rattle.rust_metas.specs.declared.escape.Escape.{Escape}
use Rattle.rust_metas.proofs.Common.{scalar_of, stands_for}

pub scalar_is : (value len : ℕ) → IsScalar value → scalar_of (Some (value, len)) ≡ Some (stands_for value (len + 2))
scalar_is value len e = rw e refl

by_test : (test : Bool) (e : Escape) → (test ≡ true → ⊥) → (if test then Some e else None) ≡ None
by_test true e never = absurd (never refl)
by_test false e never = refl

pub scalar_is_not : (value len : ℕ) → (IsScalar value → ⊥) → scalar_of (Some (value, len)) ≡ None
scalar_is_not value len never = by_test (scalar value) (stands_for value (len + 2)) never

-- five digits are below this
pub small : (value count : ℕ) → value < 16 ^ count → count ≤ 6 → (count ≡ 6 → ⊥) → value < 1048576
small value count h l n =
    let five : count ≤ 5 = omega arith in
    let few : 16 ^ count ≤ 16 ^ 5 = pow-le-pow_right (lit< tt) five in
    omega arith
