-- Features that enable others, step by step.
use Rattle.std.proofs.Common.{◌≡◌, ℕ, zero, suc, ◌+◌, ◌-◌, ◌≤◌, Bool, true, false, not, ◌&&◌, ◌||◌, List, [], ◌∷◌, map, filter, cond, refl, sym, ap, ◌∙◌, arith, zero-add}
use Rattle.std.proofs.lemmas.Bool.{or_parts}
use Rattle.std.specs.List.{list_any}
use Rattle.cargo_manifest.proofs.Lists.{any_of_map}
use Rattle.cargo_manifest.specs.Features.{FeatureNode, AskedFeatures, is_text_among, is_enabled_within}
use Rattle.cargo_manifest.specs.Inner.{FeatureStep, step_after, step_marked, is_new, step_names}

module _ (ns : List FeatureNode) (c : AskedFeatures) where
  -- each as it is after so many steps
  abbrev pub marks : ℕ → List FeatureStep
  marks n = map (step_marked (is_enabled_within ns c n)) ns

  marks_of_some : (n : ℕ) (fs : List FeatureNode) → map (step_after (marks n)) (map (step_marked (is_enabled_within ns c n)) fs) ≡ map (step_marked (is_enabled_within ns c (suc n))) fs
  marks_of_some n [] = refl
  marks_of_some n (f ∷ fs) =
      let same = any_of_map (λ (s : FeatureStep). s.is_enabled && is_text_among s.node.enables f.name) (step_marked (is_enabled_within ns c n)) ns in
      rw (same, marks_of_some n fs) refl

  pub next_marks : (n : ℕ) → map (step_after (marks n)) (marks n) ≡ marks (suc n)
  next_marks n = marks_of_some n ns

  step_stays : (b e : Bool) → (not b && e) ≡ false → (b || e) ≡ b
  step_stays true e h = refl
  step_stays false e h = h

  pub steps_stay : (ss xs : List FeatureStep) → list_any (is_new ss) xs ≡ false → map (step_after ss) xs ≡ xs
  steps_stay ss [] h = refl
  steps_stay ss (x ∷ xs) h =
      let (here, more) = or_parts (is_new ss x) (list_any (is_new ss) xs) h in
      rw (step_stays x.is_enabled _ here, steps_stay ss xs more) refl

  settled : (k n : ℕ) → marks (suc n) ≡ marks n → marks (k + n) ≡ marks n
  settled zero n h = ap marks (zero-add n)
  settled (suc k) n h =
      let one : suc k + n ≡ suc (k + n) = omega arith in
      ap marks one ∙ sym (next_marks (k + n)) ∙ ap (λ ss. map (step_after ss) ss) (settled k n h) ∙ next_marks n ∙ h

  -- where no step is new, all further ones are none
  pub settled_marks : (n m : ℕ) (ss : List FeatureStep) → ss ≡ marks n → list_any (is_new ss) ss ≡ false → n ≤ m → ss ≡ marks m
  settled_marks n m ss same h l =
      let stays : marks (suc n) ≡ marks n = sym (next_marks n) ∙ ap (λ xs. map (step_after xs) xs) (sym same) ∙ steps_stay ss ss h ∙ same in
      let far : (m - n) + n ≡ m = omega (arith, l) in
      same ∙ sym (settled (m - n) n stays) ∙ ap marks far

names_one : (b : Bool) (is_enabled : List ℕ → Bool) (n : FeatureNode) (ss : List FeatureStep) (fs : List FeatureNode) → map (λ s. s.node.name) ss ≡ map (λ f. f.name) fs
    → map (λ (s : FeatureStep). s.node.name) (cond b (step_marked is_enabled n ∷ ss) ss) ≡ map (λ (f : FeatureNode). f.name) (cond b (n ∷ fs) fs)
names_one true is_enabled n ss fs h = ap (λ xs. n.name ∷ xs) h
names_one false is_enabled n ss fs h = h

pub names_marked : (is_enabled : List ℕ → Bool) (ns : List FeatureNode) → step_names (map (step_marked is_enabled) ns) ≡ map (λ n. n.name) (filter (λ n. is_enabled n.name) ns)
names_marked is_enabled [] = refl
names_marked is_enabled (n ∷ ns) = names_one (is_enabled n.name) is_enabled n _ _ (names_marked is_enabled ns)
