-- The order of places.
use Rattle.std.proofs.Common.{◌≡◌, ◌≢◌, true, false, refl, sym, ap, ◌∙◌, arith, true≢false, Contains, IsTrue}
use Rattle.std.specs.BTreeSet.{BTreeSet, contains}
use Rattle.std.proofs.lemmas.Map.Lookups.{CmpEqualImpliesEq}
use Rattle.item_tree_db.proofs.Common.{btree_set_contains_iff, tied_itself, eq_by_cmp, is_eq, Less, Equal, nat_tests, Place, File, Block, place_cmp, place_cmp_total, same_place}

abbrev pub IsBelow : Place → Place → Type 0
IsBelow p q = place_cmp p q ≡ Less

pub equal_of : (p q : Place) → eq_by_cmp place_cmp p q ≡ true → p ≡ q
equal_of (File a) (File b) h = let e : a.0 ≡ b.0 = grind (arith, nat_tests) in λ j. File (record { 0 = e j })
equal_of (File a) (Block b) h = cc
equal_of (Block a) (File b) h = cc
equal_of (Block a) (Block b) h = let e : a.0 ≡ b.0 = grind (arith, nat_tests) in λ j. Block (record { 0 = e j })

pub equal_cmp : (p : Place) → place_cmp p p ≡ Equal
equal_cmp p = tied_itself place_cmp_total p

pub itself : (p : Place) → eq_by_cmp place_cmp p p ≡ true
itself p = ap is_eq (equal_cmp p)

-- the order's own test for equal places, and theirs
pub tests : (p q : Place) → eq_by_cmp place_cmp p q ≡ same_place q p
tests (File a) (File b) = grind (arith, nat_tests)
tests (File a) (Block b) = refl
tests (Block a) (File b) = refl
tests (Block a) (Block b) = grind (arith, nat_tests)

pub same_is : (p q : Place) → same_place q p ≡ true → p ≡ q
same_is p q h = equal_of p q (tests p q ∙ h)

pub same_here : (p : Place) → same_place p p ≡ true
same_here p = sym (tests p p) ∙ itself p

pub other_of : (p q : Place) → same_place p q ≡ false → q ≢ p
other_of p q h e = true≢false (sym (same_here q) ∙ ap (λ (r : Place). same_place r q) e ∙ h)

-- ---- sets of places

exact_places : CmpEqualImpliesEq place_cmp
exact_places p q h = equal_of p q (ap is_eq h)

pub has : (s : BTreeSet Place) (p : Place) → IsTrue (contains place_cmp s p) → Contains s.keys p
has s p h = (btree_set_contains_iff place_cmp_total exact_places s p).0 h

pub had : (s : BTreeSet Place) (p : Place) → Contains s.keys p → IsTrue (contains place_cmp s p)
had s p h = (btree_set_contains_iff place_cmp_total exact_places s p).1 h
