-- Modules above a module, who module_sees what, and the smaller of two visibilities.
use Rattle.std.proofs.Common.{◌≡◌, ◌≤◌, ◌<◌, ◌==◌, ℕ, zero, suc, Bool, true, false, List, Option, Some, None, slice_get, if◌then◌else◌, refl, sym, ap, subst, ◌∙◌, arith, ◌⊎◌, inl, inr, ⊎_elim, length, option_and_then, eqb-true, eq-eqb}
use Rattle.std.specs.Option.{option_map_or, option_flatten}
use Rattle.std.proofs.lemmas.Bool.{false≢true, true≢false}
use Rattle.std.proofs.lemmas.Option.{none-some, same_Some}
use Rattle.def_map.specs.declared.kinds.Visibility.{Visibility}
use Rattle.def_map.specs.declared.kinds.Visibility.TheVariants.{Public, Module}
use Rattle.def_map.specs.Crates.{parent_of, module_above, is_within_by, is_module_within, module_sees, narrower}
use Rattle.def_map.specs.Verdicts.{is_at_least}
use Rattle.def_map.specs.Laws.{IsRising}

pub module_public : (m : ℕ) → Module m ≡ Public → ⊥
module_public m e = true≢false (ap is_module e)
  where
    is_module : Visibility → Bool
    is_module Public = false
    is_module (Module k) = true

module _ (parents : List (Option ℕ)) where
  -- a module stands so many steps above
  abbrev pub IsAbove : ℕ → ℕ → Type 0
  IsAbove m other = (count : ℕ) × (module_above parents count m ≡ Some other)

  step_up : (m parent count : ℕ) (other : ℕ) → parent_of parents m ≡ Some parent → module_above parents count parent ≡ Some other → module_above parents (suc count) m ≡ Some other
  step_up m parent count other up says = ap (option_and_then (module_above parents count)) up ∙ says

  steps_up : (count m other : ℕ) → module_above parents (suc count) m ≡ Some other
      → (parent : ℕ) × (parent_of parents m ≡ Some parent) × (module_above parents count parent ≡ Some other)
  steps_up count m other says = by (parent_of parents m) refl says
    where
      by : (o : Option ℕ) → parent_of parents m ≡ o → option_and_then (module_above parents count) o ≡ Some other
          → (parent : ℕ) × (parent_of parents m ≡ Some parent) × (module_above parents count parent ≡ Some other)
      by None e h = absurd (none-some other h)
      by (Some parent) e h = (parent, e, h)

  pub above_of : (steps m other : ℕ) → is_within_by parents steps m other ≡ true → IsAbove m other
  above_of zero m other h = (0, ap Some (eqb-true m other h))
  above_of (suc steps) m other h = by (λ parent k. above_of steps parent other k) (m == other) refl h
    where
      next : ((parent : ℕ) → is_within_by parents steps parent other ≡ true → IsAbove parent other) → (o : Option ℕ) → parent_of parents m ≡ o
          → option_map_or (λ parent. is_within_by parents steps parent other) o false ≡ true → IsAbove m other
      next before None e k = absurd (false≢true k)
      next before (Some parent) e k = let up = before parent k in (suc up.0, step_up m parent up.0 other e up.1)

      by : ((parent : ℕ) → is_within_by parents steps parent other ≡ true → IsAbove parent other) → (b : Bool) → (m == other) ≡ b → (if b then true else option_map_or (λ parent. is_within_by parents steps parent other) (parent_of parents m) false) ≡ true → IsAbove m other
      by before true e k = (0, ap Some (eqb-true m other e))
      by before false e k = next before (parent_of parents m) refl k

  itself : (steps m : ℕ) → is_within_by parents steps m m ≡ true
  itself zero m = eq-eqb m m refl
  itself (suc steps) m = ap (λ (b : Bool). if b then true else option_map_or (λ parent. is_within_by parents steps parent m) (parent_of parents m) false) (eq-eqb m m refl)

  pub within_itself : (m : ℕ) → is_module_within parents m m ≡ true
  within_itself m = itself m m

  pub above_trans : (count m other next : ℕ) → module_above parents count m ≡ Some other → IsAbove other next → IsAbove m next
  above_trans zero m other next e up = subst (λ k. IsAbove k next) (sym (same_Some m other e)) up
  above_trans (suc count) m other next e up =
      let s = steps_up count m other e in
      let more = above_trans count s.0 other next s.2 up in
      (suc more.0, step_up m s.0 more.0 next s.1 more.1)

  -- of two modules above one is above the other
  pub above_either : (count more m a b : ℕ) → module_above parents count m ≡ Some a → module_above parents more m ≡ Some b → IsAbove a b ⊎ IsAbove b a
  above_either zero more m a b one two = inl (more, subst (λ k. module_above parents more k ≡ Some b) (same_Some m a one) two)
  above_either (suc count) zero m a b one two = inr (suc count, subst (λ k. module_above parents (suc count) k ≡ Some a) (same_Some m b two) one)
  above_either (suc count) (suc more) m a b one two =
      let s = steps_up count m a one in
      let t = steps_up more m b two in
      above_either count more s.0 a b s.2 (subst (λ k. module_above parents more k ≡ Some b) (same_Some t.0 s.0 (sym t.1 ∙ s.1)) t.2)

module _ (parents : List (Option ℕ)) (rising : IsRising parents) where
  within_of : (count steps m other : ℕ) → module_above parents count m ≡ Some other → m ≤ steps → is_within_by parents steps m other ≡ true
  within_of zero steps m other e low = subst (λ k. is_within_by parents steps m k ≡ true) (same_Some m other e) (itself parents steps m)
  within_of (suc count) zero m other e low =
      let s = steps_up parents count m other e in
      let r = rising m s.0 s.1 in absurd (omega (arith, r, low))
  within_of (suc count) (suc steps) m other e low =
      let s = steps_up parents count m other e in
      let r : s.0 < m = rising m s.0 s.1 in
      let k = within_of count steps s.0 other s.2 (omega (arith, r, low)) in
      by s.0 s.1 k (m == other)
    where
      by : (parent : ℕ) → parent_of parents m ≡ Some parent → is_within_by parents steps parent other ≡ true
          → (b : Bool) → (if b then true else option_map_or (λ p. is_within_by parents steps p other) (parent_of parents m) false) ≡ true
      by parent up k true = refl
      by parent up k false = ap (λ o. option_map_or (λ p. is_within_by parents steps p other) o false) up ∙ k

  pub is_within_of : (m other : ℕ) → IsAbove parents m other → is_module_within parents m other ≡ true
  is_within_of m other up = within_of up.0 m m other up.1 (omega arith)

  pub within_trans : (m other next : ℕ) → is_module_within parents m other ≡ true → is_module_within parents other next ≡ true → is_module_within parents m next ≡ true
  within_trans m other next one two =
      let a = above_of parents m m other one in is_within_of m next (above_trans parents a.0 m other next a.1 (above_of parents other other next two))

  pub within_either : (m a b : ℕ) → is_module_within parents m a ≡ true → is_module_within parents m b ≡ true → (is_module_within parents a b ≡ true) ⊎ (is_module_within parents b a ≡ true)
  within_either m a b one two =
      let x = above_of parents m m a one in
      let y = above_of parents m m b two in
      ⊎_elim (λ (h : IsAbove parents a b). inl (is_within_of a b h)) (λ (h : IsAbove parents b a). inr (is_within_of b a h)) (above_either parents x.0 y.0 m a b x.1 y.1)

  -- who module_sees by the smaller visibility module_sees by the second
  pub narrower_second : (k : ℕ) (v w : Visibility) → module_sees parents k (narrower parents v w) ≡ true → module_sees parents k w ≡ true
  narrower_second k Public w h = h
  narrower_second k (Module a) Public h = refl
  narrower_second k (Module a) (Module b) h = by (is_module_within parents a b) refl h
    where
      by : (t : Bool) → is_module_within parents a b ≡ t → module_sees parents k (if t then Module a else Module b) ≡ true → is_module_within parents k b ≡ true
      by true e g = within_trans k a b g e
      by false e g = g

  -- and by the first, where a module module_sees both
  pub narrower_first : (m k : ℕ) (v w : Visibility) → module_sees parents m v ≡ true → module_sees parents m w ≡ true → module_sees parents k (narrower parents v w) ≡ true → module_sees parents k v ≡ true
  narrower_first m k Public w one two h = refl
  narrower_first m k (Module a) Public one two h = h
  narrower_first m k (Module a) (Module b) one two h = by (is_module_within parents a b) refl h
    where
      by : (t : Bool) → is_module_within parents a b ≡ t → module_sees parents k (if t then Module a else Module b) ≡ true → is_module_within parents k a ≡ true
      by true e g = g
      by false e g = ⊎_elim (λ (n : is_module_within parents a b ≡ true). absurd (false≢true (sym e ∙ n))) (λ (n : is_module_within parents b a ≡ true). within_trans k b a g n) (within_either m a b one two)

  pub at_least_sees : (k : ℕ) (v w : Visibility) → is_at_least parents v w ≡ true → module_sees parents k w ≡ true → module_sees parents k v ≡ true
  at_least_sees k Public w h s = refl
  at_least_sees k (Module a) Public h s = absurd (false≢true h)
  at_least_sees k (Module a) (Module b) h s = within_trans k b a s h

module _ (parents : List (Option ℕ)) where
  -- who module_sees by both module_sees by the smaller
  pub narrower_both : (k : ℕ) (v w : Visibility) → module_sees parents k v ≡ true → module_sees parents k w ≡ true → module_sees parents k (narrower parents v w) ≡ true
  narrower_both k Public w one two = two
  narrower_both k (Module a) Public one two = one
  narrower_both k (Module a) (Module b) one two = by (is_module_within parents a b)
    where
      by : (t : Bool) → module_sees parents k (if t then Module a else Module b) ≡ true
      by true = one
      by false = two

  pub narrower_public : (v w : Visibility) → narrower parents v w ≡ Public → (v ≡ Public) × (w ≡ Public)
  narrower_public Public w e = (refl, e)
  narrower_public (Module a) Public e = absurd (module_public a e)
  narrower_public (Module a) (Module b) e = by (is_module_within parents a b) e
    where
      by : (t : Bool) → (if t then Module a else Module b) ≡ Public → (Module a ≡ Public) × (Module b ≡ Public)
      by true h = absurd (module_public a h)
      by false h = absurd (module_public b h)

  pub least_itself : (v : Visibility) → is_at_least parents v v ≡ true
  least_itself Public = refl
  least_itself (Module m) = within_itself parents m

  pub at_least_public : (v w : Visibility) → is_at_least parents v w ≡ true → w ≡ Public → v ≡ Public
  at_least_public Public w h e = refl
  at_least_public (Module a) Public h e = absurd (false≢true h)
  at_least_public (Module a) (Module b) h e = absurd (module_public b e)

-- ---- the same modules of a longer list

module _ (old new : List (Option ℕ)) (rising : IsRising new) (same : (m : ℕ) → m < length old → slice_get new m ≡ slice_get old m) where
  pub same_parent : (m : ℕ) → m < length old → parent_of new m ≡ parent_of old m
  same_parent m low = ap option_flatten (same m low)

  pub old_parent : (m parent : ℕ) → m < length old → parent_of old m ≡ Some parent → parent < length old
  old_parent m parent low up = let r = rising m parent (same_parent m low ∙ up) in omega (arith, r, low)

  pub same_above : (count m : ℕ) → m < length old → module_above new count m ≡ module_above old count m
  same_above zero m low = refl
  same_above (suc count) m low = ap (option_and_then (module_above new count)) (same_parent m low) ∙ by (λ parent below. same_above count parent below) (parent_of old m) refl
    where
      by : ((parent : ℕ) → parent < length old → module_above new count parent ≡ module_above old count parent) → (o : Option ℕ) → parent_of old m ≡ o
          → option_and_then (module_above new count) o ≡ option_and_then (module_above old count) o
      by before None e = refl
      by before (Some parent) e = before parent (old_parent m parent low e)

  pub old_above : (count m other : ℕ) → m < length old → module_above old count m ≡ Some other → other < length old
  old_above zero m other low e = subst (λ k. k < length old) (same_Some m other e) low
  old_above (suc count) m other low e =
      let s = steps_up old count m other e in old_above count s.0 other (old_parent m s.0 low s.1) s.2

  same_within : (steps m other : ℕ) → m < length old → is_within_by new steps m other ≡ is_within_by old steps m other
  same_within zero m other low = refl
  same_within (suc steps) m other low = ap (λ (b : Bool). if m == other then true else b)
      (ap (λ o. option_map_or (λ parent. is_within_by new steps parent other) o false) (same_parent m low) ∙ by (λ parent below. same_within steps parent other below) (parent_of old m) refl)
    where
      by : ((parent : ℕ) → parent < length old → is_within_by new steps parent other ≡ is_within_by old steps parent other) → (o : Option ℕ) → parent_of old m ≡ o
          → option_map_or (λ parent. is_within_by new steps parent other) o false ≡ option_map_or (λ parent. is_within_by old steps parent other) o false
      by before None e = refl
      by before (Some parent) e = before parent (old_parent m parent low e)

  pub same_sees : (m : ℕ) (v : Visibility) → m < length old → module_sees new m v ≡ module_sees old m v
  same_sees m Public low = refl
  same_sees m (Module other) low = same_within m m other low
