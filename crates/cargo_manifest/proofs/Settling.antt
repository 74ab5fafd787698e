-- As many steps as there are features are enough: each that brings something new enables one more.
use Rattle.std.proofs.Common.{◌≡◌, ℕ, zero, suc, ◌+◌, ◌≤◌, Bool, true, false, not, cond, ◌&&◌, ◌||◌, List, [], ◌∷◌, map, length, ◌⊎◌, inl, inr, refl, sym, ap, ◌∙◌, arith}
use Rattle.std.proofs.lemmas.List.{length-map}
use Rattle.std.specs.List.{list_any}
use Rattle.cargo_manifest.specs.Features.{FeatureNode, AskedFeatures, is_enabled_within}
use Rattle.cargo_manifest.specs.Inner.{FeatureStep, step_after, step_marked, is_new, is_enabled_by}
use Rattle.cargo_manifest.specs.Laws.{ClosesInTime}
use Rattle.cargo_manifest.proofs.Enabling.{marks, next_marks, steps_stay}

-- how many are enabled
abbrev enabled_count : List FeatureStep → ℕ
enabled_count [] = 0
enabled_count (s ∷ ss) = cond s.is_enabled 1 0 + enabled_count ss

at_least : (b e : Bool) → cond b 1 0 ≤ cond (b || e) 1 0
at_least true e = omega arith
at_least false e = omega arith

at_most : (b : Bool) → cond b 1 0 ≤ 1
at_most true = omega arith
at_most false = omega arith

count_grows : (ss xs : List FeatureStep) → enabled_count xs ≤ enabled_count (map (step_after ss) xs)
count_grows ss [] = omega arith
count_grows ss (x ∷ xs) = omega (arith, at_least x.is_enabled (is_enabled_by ss x.node.name), count_grows ss xs)

up_one : (b e rest : Bool) (n m : ℕ) → ((not b && e) || rest) ≡ true → (rest ≡ true → n + 1 ≤ m) → n ≤ m → (cond b 1 0 + n) + 1 ≤ cond (b || e) 1 0 + m
up_one true e rest n m h f l = omega (arith, f h)
up_one false true rest n m h f l = omega (arith, l)
up_one false false rest n m h f l = omega (arith, f h)

count_up : (ss xs : List FeatureStep) → list_any (is_new ss) xs ≡ true → enabled_count xs + 1 ≤ enabled_count (map (step_after ss) xs)
count_up ss [] h = absurd cc
count_up ss (x ∷ xs) h = up_one x.is_enabled (is_enabled_by ss x.node.name) (list_any (is_new ss) xs) (enabled_count xs) _ h (count_up ss xs) (count_grows ss xs)

count_most : (xs : List FeatureStep) → enabled_count xs ≤ length xs
count_most [] = omega arith
count_most (x ∷ xs) = omega (arith, at_most x.is_enabled, count_most xs)

module _ (ns : List FeatureNode) (c : AskedFeatures) where
  -- after so many steps nothing is new, or so many are enabled one step on
  abbrev Settles : ℕ → Type 0
  Settles n = (marks ns c (suc n) ≡ marks ns c n) ⊎ (n + 1 ≤ enabled_count (marks ns c (suc n)))

  settles_by : (n : ℕ) (b : Bool) → list_any (is_new (marks ns c n)) (marks ns c n) ≡ b → n ≤ enabled_count (marks ns c n) → Settles n
  settles_by n false h l = inl (sym (next_marks ns c n) ∙ steps_stay ns c (marks ns c n) (marks ns c n) h)
  settles_by n true h l =
      let up = count_up (marks ns c n) (marks ns c n) h in
      let same = ap enabled_count (next_marks ns c n) in
      inr (omega (arith, up, same, l))

  settles : (n : ℕ) → Settles n
  settles zero = settles_by zero _ refl (omega arith)
  settles (suc n) = elim (settles n) [
    | inl same ↦ inl (sym (next_marks ns c (suc n)) ∙ ap (λ ss. map (step_after ss) ss) same ∙ next_marks ns c n)
    | inr many ↦ settles_by (suc n) _ refl (omega (arith, many))
  ]

  closed_marks : marks ns c (suc (length ns)) ≡ marks ns c (length ns)
  closed_marks = elim (settles (length ns)) [
    | inl same ↦ same
    | inr many ↦ absurd (omega (arith, many, count_most (marks ns c (suc (length ns))), length-map ns (step_marked (is_enabled_within ns c (suc (length ns))))))
  ]

flags_marked : (is_enabled : List ℕ → Bool) (ns : List FeatureNode) → map (λ s. s.is_enabled) (map (step_marked is_enabled) ns) ≡ map (λ f. is_enabled f.name) ns
flags_marked is_enabled [] = refl
flags_marked is_enabled (n ∷ ns) = ap (λ bs. is_enabled n.name ∷ bs) (flags_marked is_enabled ns)

pub closes_in_time : ClosesInTime
closes_in_time ns c =
    sym (flags_marked (is_enabled_within ns c (suc (length ns))) ns) ∙ ap (map (λ s. s.is_enabled)) (closed_marks ns c) ∙ flags_marked (is_enabled_within ns c (length ns)) ns
