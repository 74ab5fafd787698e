-- Where a name that a path asks for is for others.
use Rattle.std.proofs.Common.{◌≡◌, ◌==◌, ◌||◌, ◌&&◌, not, ℕ, Bool, true, false, List, [], ◌∷◌, Option, Some, None, slice_get, refl, sym, ap, subst, ◌∙◌, arith}
use Rattle.std.specs.List.{All, Contains, list_any}
use Rattle.std.specs.Option.{option_map, option_and_then, option_map_or}
use Rattle.std.proofs.lemmas.List.Elements.{All-contains, Contains-get_or, Contains-append_right}
use Rattle.std.proofs.lemmas.List.Folds.{list_any-from_Any}
use Rattle.std.proofs.lemmas.Option.{same_Some}
use Rattle.std.proofs.lemmas.Bool.{or_left, eqb-true, false≢true}
use Rattle.def_map.specs.declared.{facts.Fact.Fact, facts.Import.Import, facts.ImportTable.ImportTable, kinds.Namespace.Namespace, kinds.Visibility.Visibility}
use Rattle.def_map.specs.declared.facts.Fact.TheVariants.{Names, Stands}
use Rattle.def_map.specs.declared.facts.Thing.TheVariants.{Module as module_thing}
use Rattle.def_map.specs.declared.fact_index.FactIndex.{FactIndex}
use Rattle.def_map.specs.declared.fact_index.Key.TheVariants.{Name}
use Rattle.def_map.specs.Crates.{module_sees}
use Rattle.def_map.specs.Closure.{name_at, own_keys}
use Rattle.def_map.specs.Inner.Closing.{IsIndexed, places_at, path_stands_at}
use Rattle.def_map.specs.Private.{asks_in, is_for_others, is_name_hidden, waits_at, hidden_by}
use Rattle.def_map.proofs.Closing.{is_in}
use Rattle.def_map.proofs.Deciding.{both_of, both as both_true, itself}
use Rattle.def_map.proofs.Meeting.{none_some}

-- what waits for a name that is for others, that name stands at its key
for_others : (t : ImportTable) (i k : ℕ) (ns : Namespace) (name : ℕ) (v : Visibility) → is_for_others t i k ns name v ≡ true → name_at t i k ≡ Some name
for_others t i k ns name v h = by (slice_get t.imports.items i) refl h
  where
    at_name : (import : Import) → slice_get t.imports.items i ≡ Some import → (o : Option ℕ) → slice_get import.path.items k ≡ o
        → option_map_or (λ wanted. (wanted == name) && (asks_in import k ns && not (module_sees t.parents.items import.home v))) o false ≡ true → name_at t i k ≡ Some name
    at_name import e None e' h' = absurd (false≢true h')
    at_name import e (Some wanted) e' h' =
        ap (option_and_then (λ (x : Import). slice_get x.path.items k)) e ∙ e' ∙ ap Some (eqb-true wanted name (both_of _ _ h').0)

    by : (o : Option Import) → slice_get t.imports.items i ≡ o
        → option_map_or (λ import. option_map_or (λ wanted. (wanted == name) && (asks_in import k ns && not (module_sees t.parents.items import.home v))) (slice_get import.path.items k) false) o false ≡ true
        → name_at t i k ≡ Some name
    by None e h' = absurd (false≢true h')
    by (Some import) e h' = at_name import e (slice_get import.path.items k) refl h'

Waits : ImportTable → Fact → Fact → Type 0
Waits t f g = (wait : ℕ × ℕ) × (waits_at t f ≡ Some wait) × (path_stands_at t (Some (Name wait.0 wait.1)) g ≡ true)

hidden_waits : (t : ImportTable) (f g : Fact) → is_name_hidden t f g ≡ true → Waits t f g
unfolding is_name_hidden Waits waits_at path_stands_at own_keys
hidden_waits t (Stands i k (module_thing at)) (Names home ns name thing v) h =
    let both = both_of _ _ h in
    let named = for_others t i k ns name v both.1 in
    ((at, name), ap (option_map (λ n. (at, n))) named, or_left _ _ (both_true _ _ both.0 (itself name)))
hidden_waits t _ _ h = absurd (false≢true h)

list_any_none : (p : Fact → Bool) (facts : List Fact) → ((g : Fact) → Contains facts g → p g ≡ true → ⊥) → false ≡ list_any p facts
list_any_none p [] none = refl
list_any_none p (x ∷ xs) none = by (p x) refl (list_any_none p xs (λ g in' h. none g (Contains-append_right (x ∷ []) xs g in') h))
  where
    by : (b : Bool) → p x ≡ b → false ≡ list_any p xs → false ≡ list_any p (x ∷ xs)
    by true e rest = absurd (none x (Contains-get_or (x ∷ xs) 0 x (omega arith)) e)
    by false e rest = rest ∙ ap (λ b. b || list_any p xs) (sym e)

list_any_some : (p : Fact → Bool) (facts : List Fact) (g : Fact) → Contains facts g → p g ≡ true → true ≡ list_any p facts
list_any_some p facts g in' e = sym (list_any-from_Any p facts (in'.0, g, in'.1, in'.2, e))

pub nothing_waits : (t : ImportTable) (f : Fact) (facts : List Fact) → waits_at t f ≡ None → false ≡ list_any (is_name_hidden t f) facts
unfolding Waits
nothing_waits t f facts none = list_any_none (is_name_hidden t f) facts (λ g in' h. none_some _ (sym none ∙ (hidden_waits t f g h).1))

pub all_seen : (t : ImportTable) (f : Fact) (facts : List Fact) (index : FactIndex) (wait : ℕ × ℕ) → IsIndexed t facts index → waits_at t f ≡ Some wait
    → All (λ p. hidden_by t f (slice_get facts p) ≡ false) (places_at index (Name wait.0 wait.1)) → false ≡ list_any (is_name_hidden t f) facts
unfolding Waits
all_seen t f facts index wait indexed waits none = list_any_none (is_name_hidden t f) facts (λ g in' h.
    let there = hidden_waits t f g h in
    let same : there.0 ≡ wait = same_Some there.0 wait (sym there.1 ∙ waits) in
    let placed = indexed (Name wait.0 wait.1) g in' (subst (λ w. path_stands_at t (Some (Name w.0 w.1)) g ≡ true) same there.2) in
    let seen = All-contains (λ p. hidden_by t f (slice_get facts p) ≡ false) (places_at index (Name wait.0 wait.1)) placed.0 none placed.1 in
    false≢true (sym seen ∙ ap (hidden_by t f) placed.2 ∙ h))

pub one_hidden : (t : ImportTable) (f : Fact) (facts : List Fact) (place : ℕ) → hidden_by t f (slice_get facts place) ≡ true → true ≡ list_any (is_name_hidden t f) facts
one_hidden t f facts place h = by (slice_get facts place) refl h
  where
    by : (o : Option Fact) → slice_get facts place ≡ o → hidden_by t f o ≡ true → true ≡ list_any (is_name_hidden t f) facts
    by None e h' = absurd (false≢true h')
    by (Some g) e h' = list_any_some (is_name_hidden t f) facts g (is_in place g facts e) h'
