-- The order of ids. It is total and agrees with `==`; which of two ids is less, nothing tells.
use Rattle.std.specs.Prelude.{◌≡◌, ℕ, nat_eq}
use Rattle.std.specs.declared.cmp.Ordering.{Ordering}
use Rattle.std.specs.Cmp.{IsTotalOrder, IsPartialOrder, partial_order_from_own_ties, partial_order_from_total, nat_cmp_total}
use Rattle.std.specs.Ordering.{as_partial_cmp, eq_by_cmp, nat_cmp}
use Rattle.std.proofs.Common.{arith}
use Rattle.std.proofs.lemmas.Bool.Decides.{nat_tests}

-- ids in the order of their numbers
unfoldable pub id_cmp : ℕ → ℕ → Ordering
id_cmp i j = nat_cmp i j

-- the order is total
pub id_cmp_total : IsTotalOrder id_cmp
unfolding id_cmp
id_cmp_total = nat_cmp_total

-- equal in the order is equal
pub id_cmp_ties : (i j : ℕ) → nat_eq i j ≡ eq_by_cmp id_cmp i j
unfolding id_cmp
id_cmp_ties i j = grind (arith, nat_tests)

-- the partial order is the same
pub id_cmp_partial : IsPartialOrder nat_eq (as_partial_cmp id_cmp)
id_cmp_partial = partial_order_from_own_ties (partial_order_from_total id_cmp_total) id_cmp_ties
