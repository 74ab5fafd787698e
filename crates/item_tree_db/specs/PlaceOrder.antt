-- The order of places.
use Rattle.std.specs.Prelude.{◌≡◌, ℕ, ◌==◌, Bool, false, refl}
use Rattle.std.specs.declared.cmp.Ordering.{Ordering}
use Rattle.std.specs.Cmp.{IsTotalOrder, IsPartialOrder, partial_order_from_own_ties, partial_order_from_total, nat_cmp_total, on_total, then_total}
use Rattle.std.specs.Ordering.{as_partial_cmp, eq_by_cmp, nat_cmp, on, then_cmp}
use Rattle.std.proofs.Common.{arith}
use Rattle.std.proofs.lemmas.Bool.Decides.{nat_tests}
use Rattle.item_tree_db.specs.declared.place.Place.{Place}
use Rattle.item_tree_db.specs.declared.place.Place.TheVariants.{File, Block}
use Rattle.item_tree_db.specs.contracts.place.PlacePartialEq.TheImpl as place

abbrev pub kind_of : Place → ℕ
kind_of (File file) = 0
kind_of (Block block) = 1

abbrev pub own_number : Place → ℕ
own_number (File file) = file.0
own_number (Block block) = block.0

-- the same kind of place, with the same number
abbrev pub same_place : Place → Place → Bool
same_place (File a) (File b) = a.0 == b.0
same_place (File a) (Block b) = false
same_place (Block a) (File b) = false
same_place (Block a) (Block b) = a.0 == b.0

-- files come before blocks, and each by their numbers
abbrev pub place_cmp : Place → Place → Ordering
place_cmp = then_cmp (on kind_of nat_cmp) (on own_number nat_cmp)

-- the order is total
pub place_cmp_total : IsTotalOrder place_cmp
place_cmp_total = then_total (on_total kind_of nat_cmp_total) (on_total own_number nat_cmp_total)

-- equal in the order is equal
pub place_cmp_ties : (a b : Place) → place.ghosts.eq a b ≡ eq_by_cmp place_cmp a b
place_cmp_ties (File a) (File b) = grind (arith, nat_tests)
place_cmp_ties (File a) (Block b) = refl
place_cmp_ties (Block a) (File b) = refl
place_cmp_ties (Block a) (Block b) = grind (arith, nat_tests)

-- the partial order is the same
pub place_cmp_partial : IsPartialOrder place.ghosts.eq (as_partial_cmp place_cmp)
place_cmp_partial = partial_order_from_own_ties (partial_order_from_total place_cmp_total) place_cmp_ties
