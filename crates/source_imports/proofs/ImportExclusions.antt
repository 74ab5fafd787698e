-- Two cfgs that are seen never to be true together are never true together.
use Rattle.std.proofs.Common.{◌≡◌, ℕ, Bool, true, false, not, ◌&&◌, ◌||◌, List, [], ◌∷◌, map, Option, Some, None, ap, refl, subst, sym, option_map, bytes_eq}
use Rattle.hir_input.proofs.CfgEq.{atom_view_decides}
use Rattle.hir_input.proofs.CfgLemmas.{cfg_views}
use Rattle.hir_input.specs.Cfg.{AtomView, cfg_view, cfgs_from, CfgView, CfgViews, invalid, atom, all_of, any_of, not_of, no_cfgs, cfg_and, is_set, holds, first_but, key_value}
unfoldable use Rattle.hir_input.specs.Cfg.{truth, truths}
use Rattle.hir_input.specs.declared.cfg.CfgExpr.{CfgExpr}
use Rattle.hir_input.specs.Name.{is_among}
use Rattle.std.proofs.lemmas.Slice.Eq.{bytes_eq-Decides}
use Rattle.source_imports.specs.ImportExclusion.{HasSingleValues, AreNeverTrue, single_keys, are_rivals, are_other_values, atoms_exclude, some_or_each, exclude}
unfoldable use Rattle.source_imports.specs.ImportExclusion.{atom_excludes, atom_exclusions, cfg_excludes, cfg_exclusions}

-- ---- lists of conditions

pub atom_exclusions-from : (p : Bool) (a : AtomView) (q : Bool) (cs : List CfgExpr) → atom_exclusions p a q (cfgs_from (map cfg_view cs)) ≡ map (λ c. atom_excludes p a q (cfg_view c)) cs
unfolding atom_excludes atom_exclusions
atom_exclusions-from p a q [] = refl
atom_exclusions-from p a q (c ∷ cs) = ap (λ bs. atom_excludes p a q (cfg_view c) ∷ bs) (atom_exclusions-from p a q cs)

pub cfg_exclusions-from : (p : Bool) (cs : List CfgExpr) (q : Bool) (d : CfgView) → cfg_exclusions p (cfgs_from (map cfg_view cs)) q d ≡ map (λ c. cfg_excludes p (cfg_view c) q d) cs
unfolding cfg_excludes cfg_exclusions
cfg_exclusions-from p [] q d = refl
cfg_exclusions-from p (c ∷ cs) q d = ap (λ bs. cfg_excludes p (cfg_view c) q d ∷ bs) (cfg_exclusions-from p cs q d)

pub ruleset exclusions = (cfg_views, atom_exclusions-from, cfg_exclusions-from)

-- ---- tests

left_true : (a b : Bool) → (a && b) ≡ true → a ≡ true
left_true true b e = refl
left_true false b e = e

right_true : (a b : Bool) → (a && b) ≡ true → b ≡ true
right_true true b e = e
right_true false b e = absurd cc

-- ---- answers

-- a test tells of an answer that it is not this one
abbrev Denies : Bool → Option Bool → Bool → Type 0
Denies q answer test = test ≡ true → answer ≡ Some q → ⊥

-- and each of these tests of its answer
abbrev DenyEach : Bool → List (Option Bool) → List Bool → Type 0
DenyEach q [] [] = Unit {0}
DenyEach q (x ∷ xs) (b ∷ bs) = Denies q x b × DenyEach q xs bs
DenyEach q _ _ = ⊥

-- the first answer but the neutral one is none that the tests deny: one test if it is the neutral one, and each if not
all_deny : (q : Bool) (xs : List (Option Bool)) (bs : List Bool) → DenyEach q xs bs → some_or_each q bs ≡ true → first_but true xs ≡ Some q → ⊥
all_deny true [] [] h e f = cc
all_deny false [] [] h e f = cc
all_deny true (Some true ∷ xs) (true ∷ bs) h e f = h.0 refl refl
all_deny true (Some true ∷ xs) (false ∷ bs) h e f = all_deny true xs bs h.1 e f
all_deny true (Some false ∷ xs) (b ∷ bs) h e f = cc
all_deny true (None ∷ xs) (b ∷ bs) h e f = cc
all_deny false (Some true ∷ xs) (b ∷ bs) h e f = all_deny false xs bs h.1 (right_true b (some_or_each false bs) e) f
all_deny false (Some false ∷ xs) (b ∷ bs) h e f = h.0 (left_true b (some_or_each false bs) e) refl
all_deny false (None ∷ xs) (b ∷ bs) h e f = cc
all_deny q [] (b ∷ bs) h e f = h
all_deny q (x ∷ xs) [] h e f = h

any_deny : (q : Bool) (xs : List (Option Bool)) (bs : List Bool) → DenyEach q xs bs → some_or_each (not q) bs ≡ true → first_but false xs ≡ Some q → ⊥
any_deny true [] [] h e f = cc
any_deny false [] [] h e f = cc
any_deny false (Some false ∷ xs) (true ∷ bs) h e f = h.0 refl refl
any_deny false (Some false ∷ xs) (false ∷ bs) h e f = any_deny false xs bs h.1 e f
any_deny false (Some true ∷ xs) (b ∷ bs) h e f = cc
any_deny false (None ∷ xs) (b ∷ bs) h e f = cc
any_deny true (Some false ∷ xs) (b ∷ bs) h e f = any_deny true xs bs h.1 (right_true b (some_or_each false bs) e) f
any_deny true (Some true ∷ xs) (b ∷ bs) h e f = h.0 (left_true b (some_or_each false bs) e) refl
any_deny true (None ∷ xs) (b ∷ bs) h e f = cc
any_deny q [] (b ∷ bs) h e f = h
any_deny q (x ∷ xs) [] h e f = h

-- the answer of `not(..)` is this one where that in it is the other
not_denies : (q : Bool) (x : Option Bool) (b : Bool) → Denies (not q) x b → Denies q (option_map not x) b
not_denies true (Some false) b h e f = h e refl
not_denies true (Some true) b h e f = cc
not_denies false (Some true) b h e f = h e refl
not_denies false (Some false) b h e f = cc
not_denies q None b h e f = cc

-- ---- conditions

module _ (set : List AtomView) (single : HasSingleValues set) where
  never_known : (q : Bool) (b : Bool) → Denies q None b
  never_known q b e f = cc

  -- an atom with a value is true only where it is set
  value_set : (key value : List ℕ) → holds set (key_value key value) ≡ true → is_set set (key_value key value) ≡ true
  value_set key value e = e

  other_values : (v w : List ℕ) → v ≡ w → not (bytes_eq v w) ≡ true → ⊥
  other_values v w e f = let same : bytes_eq v w ≡ true = (bytes_eq-Decides v w).1 e in cc

  rival_values : (key other : List ℕ) (v w : Option (List ℕ)) → is_among single_keys key ≡ true → key ≡ other → are_other_values v w ≡ true → holds set (record { name = key; value = v }) ≡ true → holds set (record { name = other; value = w }) ≡ true → ⊥
  rival_values key other (Some v) (Some w) s e f g h =
      other_values v w (single key v w s (value_set key v g) (value_set key w (subst (λ k. holds set (key_value k w) ≡ true) (sym e) h))) f
  rival_values key other None w s e f g h = cc
  rival_values key other (Some v) None s e f g h = cc

  rivals : (a b : AtomView) → are_rivals a b ≡ true → holds set a ≡ true → holds set b ≡ true → ⊥
  rivals a b e f g =
      let is_single = is_among single_keys a.name in
      let is_one = bytes_eq a.name b.name in
      let are_others = are_other_values a.value b.value in
      let keys : (is_single && is_one) ≡ true = left_true (is_single && is_one) are_others e in
      let one_key : a.name ≡ b.name = (bytes_eq-Decides a.name b.name).0 (right_true is_single is_one keys) in
      rival_values a.name b.name a.value b.value (left_true is_single is_one keys) one_key (right_true (is_single && is_one) are_others e) f g

  atoms_deny : (p : Bool) (a : AtomView) (q : Bool) (b : AtomView) → holds set a ≡ p → Denies q (Some (holds set b)) (atoms_exclude p a q b)
  atoms_deny true a true b h e f = rivals a b e h cc
  atoms_deny true a false b h e f = let same : holds set a ≡ holds set b = ap (holds set) ((atom_view_decides a b).0 e) in cc
  atoms_deny false a true b h e f = let same : holds set a ≡ holds set b = ap (holds set) ((atom_view_decides a b).0 e) in cc
  atoms_deny false a false b h e f = cc

  mutual
    unfolding atom_excludes atom_exclusions truth truths

    atom_denies : (p : Bool) (a : AtomView) (q : Bool) (d : CfgView) → holds set a ≡ p → Denies q (truth set d) (atom_excludes p a q d)
    atom_denies p a q invalid h = never_known q false
    atom_denies p a q (atom b) h = atoms_deny p a q b h
    atom_denies p a q (all_of ds) h = all_deny q (truths set ds) (atom_exclusions p a q ds) (atom_deny_each p a q ds h)
    atom_denies p a q (any_of ds) h = any_deny q (truths set ds) (atom_exclusions p a q ds) (atom_deny_each p a q ds h)
    atom_denies p a q (not_of d) h = not_denies q (truth set d) (atom_excludes p a (not q) d) (atom_denies p a (not q) d h)

    atom_deny_each : (p : Bool) (a : AtomView) (q : Bool) (ds : CfgViews) → holds set a ≡ p → DenyEach q (truths set ds) (atom_exclusions p a q ds)
    atom_deny_each p a q no_cfgs h = tt
    atom_deny_each p a q (cfg_and d ds) h = (atom_denies p a q d h, atom_deny_each p a q ds h)

  -- of the one condition, where the other has its truth
  some_is : (a p : Bool) → Some a ≡ Some p → a ≡ p
  some_is a p e = cc

  mutual
    unfolding cfg_excludes cfg_exclusions truth truths

    cfg_denies : (p : Bool) (c : CfgView) (q : Bool) (d : CfgView) → truth set d ≡ Some q → Denies p (truth set c) (cfg_excludes p c q d)
    cfg_denies p invalid q d h = never_known p false
    cfg_denies p (atom a) q d h = λ e f. atom_denies p a q d (some_is (holds set a) p f) e h
    cfg_denies p (all_of cs) q d h = all_deny p (truths set cs) (cfg_exclusions p cs q d) (cfg_deny_each p cs q d h)
    cfg_denies p (any_of cs) q d h = any_deny p (truths set cs) (cfg_exclusions p cs q d) (cfg_deny_each p cs q d h)
    cfg_denies p (not_of c) q d h = not_denies p (truth set c) (cfg_excludes (not p) c q d) (cfg_denies (not p) c q d h)

    cfg_deny_each : (p : Bool) (cs : CfgViews) (q : Bool) (d : CfgView) → truth set d ≡ Some q → DenyEach p (truths set cs) (cfg_exclusions p cs q d)
    cfg_deny_each p no_cfgs q d h = tt
    cfg_deny_each p (cfg_and c cs) q d h = (cfg_denies p c q d h, cfg_deny_each p cs q d h)

either_true : (a b : Bool) → (a || b) ≡ true → (a ≡ true → ⊥) → (b ≡ true → ⊥) → ⊥
either_true true b e f g = f refl
either_true false b e f g = g e

pub never_true : (c d : CfgView) → exclude c d ≡ true → AreNeverTrue c d
never_true c d e set single f g =
    either_true (cfg_excludes true c true d) (cfg_excludes true d true c) e (λ x. cfg_denies set single true c true d g x f) (λ x. cfg_denies set single true d true c f x g)
