-- Whether two values that have a code are the same.
use Rattle.std.specs.Prelude.{◌≡◌, Bool, true, false, ◌&&◌, nat_eq, refl, Decides}
use Rattle.std.specs.Cmp.{IsEquivalence}
use Rattle.std.proofs.Common.{sym, ap, subst, arith}
use Rattle.std.proofs.lemmas.Bool.{and_parts}
use Rattle.std.proofs.lemmas.Bool.Decides.{nat_tests, same_from_decides, Decides-like}
use base.Stored.{Gv, gnil, gnum, gcons, Coded}

alike : Gv → Gv → Bool
alike gnil gnil = true
alike (gnum m) (gnum n) = nat_eq m n
alike (gcons a b) (gcons c d) = alike a c && alike b d
alike _ _ = false

alike_itself : (a : Gv) → alike a a ≡ true
unfolding alike
alike_itself gnil = refl
alike_itself (gnum n) = grind (arith, nat_tests)
alike_itself (gcons a b) = rw (alike_itself a) (alike_itself b)

alike_same : (a b : Gv) → alike a b ≡ true → a ≡ b
unfolding alike
alike_same gnil gnil h = refl
alike_same (gnum m) (gnum n) h = let e : m ≡ n = grind (arith, nat_tests) in ap gnum e
alike_same (gcons a b) (gcons c d) h =
    let both = and_parts (alike a c) (alike b d) h in
    let left = alike_same a c both.0 in
    let right = alike_same b d both.1 in
    λ i. gcons (left i) (right i)
alike_same _ _ h = cc

-- whether the two values are the same
pub same : {A : Type 0} → Coded A → A → A → Bool
same c x y = alike (c.code x) (c.code y)

module _ {A : Type 0} (c : Coded A) where
  pub same_itself : (x : A) → same c x x ≡ true
  unfolding same
  same_itself x = alike_itself (c.code x)

  pub equal_of_same : (x y : A) → same c x y ≡ true → x ≡ y
  unfolding same
  equal_of_same x y h = c.inj x y (alike_same _ _ h)

  pub same_of_equal : (x y : A) → x ≡ y → same c x y ≡ true
  same_of_equal x y e = subst (λ z. same c x z ≡ true) e (same_itself x)

  pub same_decides : (x y : A) → Decides (same c x y) (x ≡ y)
  same_decides x y = (equal_of_same x y, same_of_equal x y)

  -- being the same is an equivalence
  pub same_is_equivalence : IsEquivalence (same c)
  same_is_equivalence = record {
    refl = same_itself;
    symm = λ x y. same_from_decides (same c x y) (same c y x) (same_decides x y) (Decides-like (same c y x) sym sym (same_decides y x));
    congr = λ x y z h. ap (λ v. same c v z) (equal_of_same x y h);
  }
