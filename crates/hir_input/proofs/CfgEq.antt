-- `==` at conditions decides whether their plain data are one.
use Rattle.std.proofs.Common.{◌≡◌, Bool, true, false, ◌||◌, List, [], ◌∷◌, map, refl, sym, ap, ◌∙◌, rules, Decides}
use Rattle.hir_input.proofs.Common.{AllZip, list_any, pointwise, pointwise_decides, Decides-at, Decides-and, Decides-like, DecidesEq, DecidesEqOf, CfgExpr, roll-CfgExpr, out-CfgExpr, out-roll-CfgExpr, roll-out-CfgExpr, ind-CfgExpr, map-CfgExpr, fold-roll-CfgExpr, atom_view, is_atom, is_set, CfgView, cfg_and, atom, all_of, any_of, not_of, cfgs_from, cfg_step, cfg_view}
use Rattle.std.specs.Cmp.Derive.Mapped.{pointwise-map}
pub use Rattle.std.proofs.lemmas.Bool.Decides.{Decides-like as same_fact}
use lib.Pointwise.{bytes_decides}
use Rattle.hir_input.specs.declared.cfg.CfgAtom.{CfgAtom}
use Rattle.hir_input.specs.declared.cfg.CfgAtom.TheVariants.{Flag, KeyValue}
use Rattle.hir_input.specs.declared.cfg.CfgExpr.TheOpen.{CfgExpr-F}
use Rattle.hir_input.specs.contracts.cfg.CfgAtomPartialEq.TheImpl as atoms
use Rattle.hir_input.specs.contracts.cfg.CfgExprPartialEq.TheImpl as cfgs
use Rattle.hir_input.specs.contracts.cfg.CfgExprPartialEq.TheImpl.Laws as cfg_laws
use Rattle.hir_input.proofs.AttrEq.{option_decides}
use Rattle.hir_input.proofs.Layers.{rolled_decide, of_rolled}

pub atom_view_decides : DecidesEq is_atom
atom_view_decides a b =
    Decides-like _
    (λ e i. record { name = e.1 i; value = e.0 i })
    (λ e. (ap (λ x. x.value) e, ap (λ x. x.name) e))
    (Decides-and _ _ (option_decides _ bytes_decides a.value b.value) (bytes_decides a.name b.name))

-- it is the test by which atoms are looked up
eq_is : (a b : CfgAtom) → atoms.ghosts.eq a b ≡ is_atom (atom_view a) (atom_view b)
eq_is (KeyValue k v) (KeyValue l w) = search rules
eq_is (Flag m) (Flag n) = refl
eq_is _ _ = refl

pub atom_decides : DecidesEqOf atom_view atoms.ghosts.eq
atom_decides a b = Decides-at (atoms.ghosts.eq a b) _ (eq_is a b) (atom_view_decides (atom_view a) (atom_view b))

pub set_is : (set : List CfgAtom) (a : CfgAtom) → list_any (λ x. atoms.ghosts.eq x a) set ≡ is_set (map atom_view set) (atom_view a)
set_is [] a = refl
set_is (x ∷ xs) a = rw (eq_is x a) (ap (λ found. is_atom (atom_view x) (atom_view a) || found) (set_is xs a))

pub options_decide : DecidesEq (pointwise is_atom)
options_decide = pointwise_decides atom_view_decides

-- options compare as the atoms in them
pub options_eq : (xs ys : List CfgAtom) → pointwise atoms.ghosts.eq xs ys ≡ pointwise is_atom (map atom_view xs) (map atom_view ys)
options_eq xs ys = ap (λ E. pointwise E xs ys) (λ i a b. eq_is a b i) ∙ sym (pointwise-map atom_view is_atom xs ys)

-- copies of atoms are seen as these are
pub atoms_copied : (xs ys : List CfgAtom) → AllZip (λ x y. atom_view y ≡ atom_view x) xs ys → map atom_view ys ≡ map atom_view xs
atoms_copied [] [] h = refl
atoms_copied (x ∷ xs) (y ∷ ys) h = λ i. h.0 i ∷ atoms_copied xs ys h.1 i
atoms_copied _ _ h = absurd h

-- `==` at the two conditions decides whether their plain data are one
abbrev IsDecided : CfgExpr → CfgExpr → Type 0
IsDecided a b = Decides (cfgs.ghosts.eq a b) (cfg_view a ≡ cfg_view b)

-- from a test that decides it of the layers
of_layers : (x z : CfgExpr-F CfgExpr) (t : Bool) → Decides t (cfg_step (map-CfgExpr CfgExpr CfgView cfg_view x) ≡ cfg_step (map-CfgExpr CfgExpr CfgView cfg_view z)) → cfg_laws.unfolded (roll-CfgExpr x) (roll-CfgExpr z) ≡ t → IsDecided (roll-CfgExpr x) (roll-CfgExpr z)
of_layers x z t d e = rolled_decide roll-CfgExpr cfg_view (fold-roll-CfgExpr CfgView cfg_step) x z _ t (cfg_laws.is _ _ ∙ e) d

module _ {S : Type 0} (cfg_of : S → CfgExpr) (decided : (s : S) (b : CfgExpr) → IsDecided (cfg_of s) b) where
  members_decide : (ss : List S) (bs : List CfgExpr) → Decides (pointwise cfgs.ghosts.eq (map cfg_of ss) bs) (cfgs_from (map cfg_view (map cfg_of ss)) ≡ cfgs_from (map cfg_view bs))
  members_decide [] [] = (λ h. refl, λ e. refl)
  members_decide (s ∷ ss) (b ∷ bs) =
      Decides-like _ (λ e i. cfg_and (e.0 i) (e.1 i)) (λ e. (cc, cc)) (Decides-and _ _ (decided s b) (members_decide ss bs))
  members_decide _ _ = (λ h. cc, λ e. cc)

  layers_decide : (y : CfgExpr-F S) (z : CfgExpr-F CfgExpr) → IsDecided (roll-CfgExpr (map-CfgExpr S CfgExpr cfg_of y)) (roll-CfgExpr z)
  layers_decide CfgExpr-F.Invalid CfgExpr-F.Invalid = of_layers _ _ true (λ h. refl, λ e. refl) (simp out-roll-CfgExpr)
  layers_decide (CfgExpr-F.Atom a) (CfgExpr-F.Atom b) = of_layers _ _ _ (Decides-like _ (ap atom) (λ e. cc) (atom_decides a b)) (simp out-roll-CfgExpr)
  layers_decide (CfgExpr-F.All v) (CfgExpr-F.All w) = of_layers _ _ _ (Decides-like _ (ap all_of) (λ e. cc) (members_decide v.items w.items)) (simp out-roll-CfgExpr)
  layers_decide (CfgExpr-F.Any v) (CfgExpr-F.Any w) = of_layers _ _ _ (Decides-like _ (ap any_of) (λ e. cc) (members_decide v.items w.items)) (simp out-roll-CfgExpr)
  layers_decide (CfgExpr-F.Not c) (CfgExpr-F.Not b) = of_layers _ _ _ (Decides-like _ (ap not_of) (λ e. cc) (decided c.value b.value)) (simp out-roll-CfgExpr)
  layers_decide y z = of_layers _ _ false (λ h. cc, λ e. cc) (simp out-roll-CfgExpr)

pub cfg_decides : DecidesEqOf cfg_view cfgs.ghosts.eq
cfg_decides = ind-CfgExpr (λ a. (b : CfgExpr) → IsDecided a b) (λ x y e. of_rolled IsDecided roll-CfgExpr out-CfgExpr roll-out-CfgExpr e (layers_decide (λ s. s.0) (λ s. s.1) y))
