-- Two facts from which a third follows meet at a key, from both sides.
use Rattle.std.proofs.Common.{◌≡◌, ℕ, List, Bool, true, false, ◌==◌, ◌||◌, Option, Some, None, slice_get, if◌then◌else◌, is_some, refl, sym, ap, subst, ◌∙◌, ◌⊎◌, inl, inr}
use Rattle.std.specs.Option.{option_and_then}
use Rattle.std.proofs.lemmas.Bool.{eqb-true, false≢true, true≢false}
use Rattle.def_map.specs.declared.{facts.Fact.Fact, facts.Import.Import, facts.ImportTable.ImportTable, facts.Thing.Thing, kinds.Namespace.Namespace, kinds.Visibility.Visibility}
use Rattle.def_map.specs.declared.facts.Fact.TheVariants.{Names, EveryName, Stands, Gives, Copies}
use Rattle.def_map.specs.declared.facts.Thing.TheVariants.{Module as module_thing, Item, Scope, Unseen}
use Rattle.def_map.specs.declared.fact_index.Key.TheVariants.{Name, Veil, Step, AnyStep, EndOf}
use Rattle.def_map.specs.Closure.{passed_name, step_by, step_of, copy_of, concludes, Closes, concluded, name_at, path_keys, step_keys, own_keys, met_keys, is_key}
use Rattle.def_map.specs.Inner.Closing.{is_naming, meets, path_stands_at}
use Rattle.def_map.proofs.Deciding.{both_of, both, itself}

or_left : (a b : Bool) → a ≡ true → (a || b) ≡ true
or_left true b e = refl
or_left false b e = absurd (false≢true e)

or_right : (a b : Bool) → b ≡ true → (a || b) ≡ true
or_right true b e = refl
or_right false b e = e

pub none_some : {X : Type 0} (x : X) → None ≡ Some x → ⊥
none_some x e = false≢true (ap is_some e)

if_some : (b : Bool) (o : Option Fact) (h : Fact) → (if b then o else None) ≡ Some h → (b ≡ true) × (o ≡ Some h)
if_some true o h e = (refl, e)
if_some false o h e = absurd (none_some h e)

-- one of them stands at a key at which the other meets it
abbrev pub Meets : ImportTable → Fact → Fact → Type 0
Meets t f g = (path_stands_at t (met_keys t f).0 g ≡ true) ⊎ (path_stands_at t (met_keys t f).1 g ≡ true)

pub record Joined (t : ImportTable) (f g : Fact) : Type 0 where
  pub naming : is_naming f ≡ true
  pub standing : is_naming g ≡ false
  pub ahead : Meets t f g
  pub back : Meets t g f

-- where a step is made, the path has a name there, and the test is passed
Steps : ImportTable → ℕ → ℕ → (Import → ℕ → Bool) → Type 0
Steps t i k test = (import : Import) × (wanted : ℕ) × (name_at t i k ≡ Some wanted) × (test import wanted ≡ true)

module _ (t : ImportTable) (i k : ℕ) (test : Import → ℕ → Bool) (ns : Namespace) (thing : Thing) (v : Visibility) (h : Fact) where
  abbrev inner : Import → ℕ → Option Fact
  inner import wanted = if test import wanted then passed_name import i k ns thing v else None

  abbrev outer : Import → Option Fact
  outer import = option_and_then (inner import) (slice_get import.path.items k)

  at_name : (import : Import) → slice_get t.imports.items i ≡ Some import → (o : Option ℕ) → slice_get import.path.items k ≡ o → option_and_then (inner import) o ≡ Some h → Steps t i k test
  unfolding Steps
  at_name import e None e' says = absurd (none_some h says)
  at_name import e (Some wanted) e' says =
      (import, wanted, ap (option_and_then (λ (x : Import). slice_get x.path.items k)) e ∙ e', (if_some (test import wanted) _ h says).0)

  at_import : (o : Option Import) → slice_get t.imports.items i ≡ o → option_and_then outer o ≡ Some h → Steps t i k test
  at_import None e says = absurd (none_some h says)
  at_import (Some import) e says = at_name import e (slice_get import.path.items k) refl says

  step_some : step_by t i k test ns thing v ≡ Some h → Steps t i k test
  step_some says = at_import (slice_get t.imports.items i) refl says

module _ (t : ImportTable) (i k at wanted : ℕ) (e : name_at t i k ≡ Some wanted) where
  stands_step : path_stands_at t (Some (Step at wanted)) (Stands i k (module_thing at)) ≡ true
  unfolding path_stands_at own_keys
  stands_step = subst (λ o. let keys = path_keys o (Some (EndOf i), None) (step_keys (module_thing at)) in (is_key (Step at wanted) keys.0 || is_key (Step at wanted) keys.1) ≡ true) (sym e)
      (or_left _ _ (both _ _ (itself at) (itself wanted)))

  stands_any : path_stands_at t (Some (AnyStep at)) (Stands i k (module_thing at)) ≡ true
  unfolding path_stands_at own_keys
  stands_any = subst (λ o. let keys = path_keys o (Some (EndOf i), None) (step_keys (module_thing at)) in (is_key (AnyStep at) keys.0 || is_key (AnyStep at) keys.1) ≡ true) (sym e) (itself at)

  meets_name : (ns : Namespace) (thing : Thing) (v : Visibility) → path_stands_at t (met_keys t (Stands i k (module_thing at))).0 (Names at ns wanted thing v) ≡ true
  unfolding path_stands_at own_keys met_keys
  meets_name ns thing v =
      subst (λ o. path_stands_at t (path_keys o (None, None) (λ name. (Some (Name at name), Some (Veil at)))).0 (Names at ns wanted thing v) ≡ true) (sym e) (or_left _ _ (both _ _ (itself at) (itself wanted)))

  meets_veil : (ns : Namespace) (v : Visibility) → path_stands_at t (met_keys t (Stands i k (module_thing at))).1 (EveryName at ns v) ≡ true
  unfolding path_stands_at own_keys met_keys
  meets_veil ns v = subst (λ o. path_stands_at t (path_keys o (None, None) (λ name. (Some (Name at name), Some (Veil at)))).1 (EveryName at ns v) ≡ true) (sym e) (or_left _ _ (itself at))

joined_step : (t : ImportTable) (i k at : ℕ) (f h : Fact) → step_of t i k at f ≡ Some h → Joined t f (Stands i k (module_thing at))
unfolding met_keys Steps
joined_step t i k at (Names home ns name thing v) h says =
    let one = if_some (home == at) _ h says in
    let found = step_some t i k _ ns thing v h one.1 in
    let named : name_at t i k ≡ Some name = found.2 ∙ ap Some (eqb-true found.1 name (both_of _ _ found.3).0) in
    subst (λ m. Joined t (Names m ns name thing v) (Stands i k (module_thing at))) (sym (eqb-true home at one.0))
    (record { naming = refl; standing = refl; ahead = inl (stands_step t i k at name named); back = inl (meets_name t i k at name named ns thing v) })
joined_step t i k at (EveryName home ns v) h says =
    let one = if_some (home == at) _ h says in
    let found = step_some t i k _ ns Unseen v h one.1 in
    subst (λ m. Joined t (EveryName m ns v) (Stands i k (module_thing at))) (sym (eqb-true home at one.0))
    (record { naming = refl; standing = refl; ahead = inl (stands_any t i k at found.1 found.2); back = inr (meets_veil t i k at found.1 found.2 ns v) })
joined_step t i k at (Stands a b c) h says = absurd (none_some h says)
joined_step t i k at (Gives a b c d) h says = absurd (none_some h says)
joined_step t i k at (Copies a b c) h says = absurd (none_some h says)

joined_copy : (t : ImportTable) (from into : ℕ) (w : Visibility) (f h : Fact) → copy_of t from into w f ≡ Some h → Joined t f (Copies from into w)
unfolding met_keys own_keys path_stands_at
joined_copy t from into w (Names home ns name thing v) h says =
    let same = eqb-true home from (both_of _ _ (both_of _ _ (if_some _ _ h says).0).0).0 in
    subst (λ m. Joined t (Names m ns name thing v) (Copies from into w)) (sym same)
    (record { naming = refl; standing = refl; ahead = inr (or_left _ _ (itself from)); back = inl (itself from) })
joined_copy t from into w (EveryName home ns v) h says =
    let same = eqb-true home from (both_of _ _ (if_some _ _ h says).0).0 in
    subst (λ m. Joined t (EveryName m ns v) (Copies from into w)) (sym same)
    (record { naming = refl; standing = refl; ahead = inr (or_left _ _ (itself from)); back = inl (itself from) })
joined_copy t from into w (Stands a b c) h says = absurd (none_some h says)
joined_copy t from into w (Gives a b c d) h says = absurd (none_some h says)
joined_copy t from into w (Copies a b c) h says = absurd (none_some h says)

pub joined : (t : ImportTable) (f g h : Fact) → concludes t f g ≡ Some h → Joined t f g
unfolding concludes
joined t f (Stands i k (module_thing at)) h says = joined_step t i k at f h says
joined t f (Copies from into w) h says = joined_copy t from into w f h says
joined t f (Stands i k (Item x)) h says = absurd (none_some h says)
joined t f (Stands i k (Scope x)) h says = absurd (none_some h says)
joined t f (Stands i k Unseen) h says = absurd (none_some h says)
joined t f (Names a b c d e) h says = absurd (none_some h says)
joined t f (EveryName a b c) h says = absurd (none_some h says)
joined t f (Gives a b c d) h says = absurd (none_some h says)

-- what two facts conclude is asked of either
pub meets_ahead : (t : ImportTable) (f g h : Fact) → concludes t f g ≡ Some h → meets t f g ≡ Some h
unfolding meets
meets_ahead t f g h says = ap (λ b. if b then concludes t f g else concludes t g f) (joined t f g h says).naming ∙ says

pub meets_back : (t : ImportTable) (f g h : Fact) → concludes t f g ≡ Some h → meets t g f ≡ Some h
unfolding meets
meets_back t f g h says = ap (λ b. if b then concludes t g f else concludes t f g) (joined t f g h says).standing ∙ says

pub not_itself : (t : ImportTable) (f h : Fact) → concludes t f f ≡ Some h → ⊥
not_itself t f h says = let j = joined t f f h says in true≢false (sym j.naming ∙ j.standing)

pub meets_closes : (t : ImportTable) (seeds : List Fact) (f g h : Fact) → Closes t seeds f → Closes t seeds g → meets t f g ≡ Some h → Closes t seeds h
unfolding meets
meets_closes t seeds f g h mine other says = by (is_naming f) refl
  where
    by : (b : Bool) → is_naming f ≡ b → Closes t seeds h
    by true e = concluded f g h mine other (subst (λ b. (if b then concludes t f g else concludes t g f) ≡ Some h) e says)
    by false e = concluded g f h other mine (subst (λ b. (if b then concludes t f g else concludes t g f) ≡ Some h) e says)
