-- `==` at aliases, use trees and uses decides whether they are one.
use Rattle.std.proofs.Common.{◌≡◌, ℕ, ◌<◌, Bool, true, false, List, [], ◌∷◌, map, length, get_or, Option, Vec, Global, refl, sym, ap, ◌∙◌, Decides}
use Rattle.item_tree.proofs.Common.{option_eq, same_from_decides, Decides-like, get_or-map, length-map, Path, option_decides, path_decides, ImportAlias, UseTree, UseTreeKind, Prefixed, Single, Glob, same, same_decides, Tree, single, glob, prefixed, branches_from, tree_of, tree_of_kind, trees_of, alias_code}
use base.Stored.{Coded}
use Rattle.hir_input.specs.contracts.mod_path.ModPathPartialEq.TheImpl as paths
use Rattle.item_tree.proofs.TreeLemmas.{tree_of-single, tree_of-glob, tree_of-prefixed}

-- what decides whether two values are one is the test by their codes
pub tells : {A : Type 0} (c : Coded A) (x y : A) (r : Bool) → Decides r (x ≡ y) → r ≡ same c x y
tells c x y r d = same_from_decides r (same c x y) d (same_decides c x y)

pub paths_decide : (p q : Option Path) (r : Bool) → r ≡ option_eq paths.ghosts.eq p q → Decides r (p ≡ q)
paths_decide p q r e = rw e (option_decides paths.ghosts.eq path_decides p q)

pub aliases_decide : (a b : Option ImportAlias) (r : Bool) → r ≡ option_eq (same alias_code) a b → Decides r (a ≡ b)
aliases_decide a b r e = rw e (option_decides (same alias_code) (same_decides alias_code) a b)

-- ---- two tests, one after the other

pub first_fails : {P Q : Type 0} (p : Bool) → Decides p P → p ≡ false → Decides p (P × Q)
first_fails p d e = (λ h. absurd (cc), λ both. d.1 both.0)

pub second_tells : {P Q : Type 0} (p r : Bool) → Decides p P → p ≡ true → Decides r Q → Decides r (P × Q)
second_tells p r d e f = (λ h. (d.0 e, f.0 h), λ both. f.1 both.1)

-- ---- what tests of their parts say of two cases
module _ (k o : UseTreeKind) (r : Bool) where
  pub singles_tell : (p q : Path) (a b : Option ImportAlias) → k ≡ Single p a → o ≡ Single q b → Decides r ((p ≡ q) × (a ≡ b)) → Decides r (tree_of_kind k ≡ tree_of_kind o)
  singles_tell p q a b e f d =
      rw (e, f, tree_of-single p a, tree_of-single q b) (Decides-like r (λ s i. single (s.0 i) (s.1 i)) (λ s. (cc, cc)) d)

  pub globs_tell : (p q : Option Path) → k ≡ Glob p → o ≡ Glob q → Decides r (p ≡ q) → Decides r (tree_of_kind k ≡ tree_of_kind o)
  globs_tell p q e f d = rw (e, f, tree_of-glob p, tree_of-glob q) (Decides-like r (ap glob) (λ s. cc) d)

  pub lists_tell : (p q : Option Path) (v w : Vec UseTree Global) → k ≡ Prefixed p v → o ≡ Prefixed q w → Decides r ((p ≡ q) × (trees_of v.items ≡ trees_of w.items)) → Decides r (tree_of_kind k ≡ tree_of_kind o)
  lists_tell p q v w e f d =
      rw (e, f, tree_of-prefixed p v, tree_of-prefixed q w) (Decides-like r (λ s i. prefixed (s.0 i) (s.1 i)) (λ s. (cc, cc)) d)

-- ---- lists

branches_from-injective : (ts us : List Tree) → branches_from ts ≡ branches_from us → ts ≡ us
branches_from-injective [] [] h = refl
branches_from-injective (t ∷ ts) (u ∷ us) h =
    let first : t ≡ u = cc in let more : branches_from ts ≡ branches_from us = cc in λ i. first i ∷ branches_from-injective ts us more i
branches_from-injective _ _ h = cc

module _ (ts us : List UseTree) where
  one_by_one : trees_of ts ≡ trees_of us → map tree_of ts ≡ map tree_of us
  one_by_one = branches_from-injective (map tree_of ts) (map tree_of us)

  pub lengths_differ : (length ts ≡ length us → ⊥) → Decides false (trees_of ts ≡ trees_of us)
  lengths_differ h = (λ q. cc, λ e. absurd (h (sym (length-map ts tree_of) ∙ ap length (one_by_one e) ∙ length-map us tree_of)))

  pub one_differs : (i : ℕ) (t u : UseTree) → i < length ts → length ts ≡ length us → t ≡ get_or ts i t → u ≡ get_or us i u → Decides false (tree_of t ≡ tree_of u) → Decides false (trees_of ts ≡ trees_of us)
  one_differs i t u h l e f d =
      let k : i < length us = rw (← l) h in
      let there = λ (s : trees_of ts ≡ trees_of us).
      ap tree_of e ∙ sym (get_or-map tree_of ts i t (tree_of t) h) ∙ ap (λ xs. get_or xs i (tree_of t)) (one_by_one s) ∙ get_or-map tree_of us i u (tree_of t) k ∙ ap tree_of (sym f) in
      (λ q. cc, λ s. d.1 (there s))
