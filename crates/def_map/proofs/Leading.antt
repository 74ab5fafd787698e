-- What an import leads to, by the facts that were found.
use Rattle.std.proofs.Common.{◌≡◌, ◌↔◌, ◌||◌, ◌≤◌, ℕ, Bool, true, List, [], Option, Some, None, slice_get, if◌then◌else◌, refl, sym, ap, subst, ◌∙◌, length, Contains, arith, option_map, option_and_then}
use Rattle.std.specs.{Bool.Decides, List.filter_map, List.list_any, List.IsDistinct, Option.option_map_or}
use Rattle.std.proofs.lemmas.Bool.{false≢true, or_left}
use Rattle.std.proofs.lemmas.Map.Made.{AllPairs-from_IsDistinct}
use Rattle.std.proofs.lemmas.Option.{none-some, same_Some, slice_get_past}
use Rattle.def_map.specs.declared.facts as code
use Rattle.def_map.specs.declared.fact_index.{FactIndex.FactIndex, Key.TheVariants.EndOf}
use Rattle.def_map.specs.declared.rows.ItemKey.{ItemKey}
use Rattle.def_map.specs.declared.targets.Target.{Target}
use Rattle.def_map.specs.declared.targets.Target.TheVariants.{Unseen}
use Rattle.def_map.specs.declared.verdict.Lead.{Lead}
use Rattle.def_map.specs.Closing.{thing_of, loop_thing, IsLowered}
use Rattle.def_map.specs.Closure.{is_key, path_keys, step_keys, name_at, own_keys}
use Rattle.def_map.specs.Crates.{Crate, Thing, a_module, an_item, a_scope, unseen, PathImport}
use Rattle.def_map.specs.Facts.{IsImport}
use Rattle.def_map.specs.Found.{lead_by, lead_for}
use Rattle.def_map.specs.Inner.Closing.{IsIndexed, places_at, path_stands_at}
use Rattle.def_map.specs.Numbering.{Interns, item_number, is_item_numbered}
use Rattle.def_map.specs.Numbers.{numbered_thing, crate_by_numbers, IsNumbering}
use Rattle.def_map.specs.Targets.{target_of, item_target, AreTargets, target_eq, fact_thing, led_thing, target_by, fact_target, place_target, AreTargetsBy}
use Rattle.def_map.specs.Told.{AreFactsFound}
use Rattle.def_map.specs.Verdicts.{LeadsTo}
use Rattle.def_map.proofs.TableRows.{there_again}
use Rattle.def_map.proofs.Closing.{is_in}
use Rattle.def_map.proofs.Deciding.{itself}
use Rattle.def_map.proofs.Interning.{all_known}
use Rattle.def_map.proofs.ReachedItems.{IsKnown}
use Rattle.def_map.proofs.Listing.{contains_kept, contains_source}
use Rattle.def_map.proofs.NumberLaws.{item_of_number, target_decides}
use Rattle.def_map.proofs.CrateNumbers.{import_to}
use Rattle.def_map.proofs.NumberedLists.{map_source}
use Rattle.def_map.proofs.NumberedVerdicts.{leads_on, leads_back}
use Rattle.def_map.proofs.Telling.{View, view_gives, view_stands, view_none, view_of, any_of, of_any, if_source, leads_by, fact_for}

-- two lists that pass the same tests by `==` have the same
alike_in : {X : Type 0} (same : X → X → Bool) → ((a b : X) → Decides (same a b) (a ≡ b)) → (xs ys : List X) → ((x : X) → list_any (same x) xs ≡ list_any (same x) ys) → (x : X) → Contains xs x → Contains ys x
alike_in same decides xs ys alike x has =
    let y = any_of (same x) ys (sym (alike x) ∙ of_any (same x) xs x has ((decides x x).1 refl)) in
    subst (Contains ys) (sym ((decides x y.0).0 y.2)) y.1

pub same_contents : {X : Type 0} (same : X → X → Bool) → ((a b : X) → Decides (same a b) (a ≡ b)) → (xs ys : List X) → ((x : X) → list_any (same x) xs ≡ list_any (same x) ys) → (x : X) → Contains xs x ↔ Contains ys x
same_contents same decides xs ys alike x = (alike_in same decides xs ys alike x, alike_in same decides ys xs (λ z. sym (alike z)) x)

-- ---- from the places at the end of the import

module _ (t : code.ImportTable.ImportTable) (items : List ItemKey) (facts : List code.Fact.Fact) (i : ℕ) where
  ends_by : (f : code.Fact.Fact) (l : Lead) → View t i f l → l.leads ≡ true → path_stands_at t (Some (EndOf i)) f ≡ true
  unfolding path_stands_at own_keys
  ends_by f l (view_gives ns x v w is) e = or_left _ _ (itself i)
  ends_by f l (view_stands k x w is glob end named) e =
      let none : name_at t i k ≡ None = ap (option_and_then (λ (z : code.Import.Import). slice_get z.path.items k)) is ∙ slice_get_past w.path.items k (subst (λ n. length w.path.items ≤ n) (sym end) (omega arith)) in
      subst (λ o. let keys = path_keys o (Some (EndOf i), None) (step_keys x) in (is_key (EndOf i) keys.0 || is_key (EndOf i) keys.1) ≡ true) (sym none) (or_left _ _ (itself i))
  ends_by f l (view_none g) e = absurd (false≢true e)

  -- a fact by which it leads somewhere stands there
  led : (f : code.Fact.Fact) (x : Target) → fact_target t items i f ≡ Some x → (lead_for i (lead_by t f)).leads ≡ true
  led f x says = let y = map_source (target_by items) (led_thing t i f) x says in (if_source (lead_for i (lead_by t f)).leads (fact_thing f) y.0 y.1).0

  at_place : (o : Option code.Fact.Fact) (x : Target) → option_and_then (fact_target t items i) o ≡ Some x → (f : code.Fact.Fact) × (o ≡ Some f) × (fact_target t items i f ≡ Some x)
  at_place None x says = absurd (none-some x says)
  at_place (Some f) x says = (f, refl, says)

  pub targets_found : (index : FactIndex) (none keys : List Target) → IsIndexed t facts index → none ≡ [] → Interns target_eq (λ x. x) none keys (filter_map (place_target t items facts i) (places_at index (EndOf i)))
      → IsDistinct target_eq keys → AreTargetsBy t items facts i keys
  targets_found index none keys indexed empty so distinct =
      let places = places_at index (EndOf i) in
      let same = same_contents target_eq target_decides keys (filter_map (place_target t items facts i) places) (all_known target_eq (λ (x : Target). x) none keys _ empty so) in
      record {
        all = λ x. (
          λ has.
              let p = contains_source (place_target t items facts i) places x ((same x).0 has) in
              let f = at_place (slice_get facts p.0) x p.2 in
              (f.0, is_in p.0 f.0 facts f.1, f.2),
          λ h.
              let (f, has, says) = h in
              let (p, in', is) = indexed (EndOf i) f has (ends_by f (lead_for i (lead_by t f)) (view_of t i f) (led f x says)) in
              (same x).1 (contains_kept (place_target t items facts i) places p x in' (ap (option_and_then (fact_target t items i)) is ∙ says)),
        );
        once = AllPairs-from_IsDistinct target_decides keys distinct;
      }

-- ---- what the facts say is so

module _ {N : Type 0} (number : N → Option ℕ) (items : List ItemKey) (c : Crate N ItemKey) (ok : IsNumbering number (item_number items) c) (t : code.ImportTable.ImportTable) (facts : List code.Fact.Fact)
    (table : IsLowered (crate_by_numbers number (item_number items) c) t) (found : AreFactsFound (crate_by_numbers number (item_number items) c) facts)
    (known : (i : ℕ) (y : Thing ItemKey) → LeadsTo c i y → IsKnown (λ key. is_item_numbered items key ≡ true) y) where
  abbrev e : Crate ℕ ℕ
  e = crate_by_numbers number (item_number items) c

  abbrev nt : Thing ItemKey → Thing ℕ
  nt = numbered_thing number (item_number items)

  by_number : (y : Thing ItemKey) → IsKnown (λ key. is_item_numbered items key ≡ true) y → target_by items (loop_thing (nt y)) ≡ target_of y
  by_number (a_module m) k = refl
  by_number (an_item key) k = ap (λ o. option_map_or item_target o Unseen) (item_of_number items (item_number items key) key k refl)
  by_number (a_scope key) k = ap (λ o. option_map_or item_target o Unseen) (item_of_number items (item_number items key) key k refl)
  by_number unseen k = refl

  Led : ℕ → Target → Type 0
  Led i x = (y : Thing ItemKey) × LeadsTo c i y × (target_of y ≡ x)

  SaysLed : ℕ → Target → Type 0
  SaysLed i x = (f : code.Fact.Fact) × Contains facts f × (fact_target t items i f ≡ Some x)

  said : (i : ℕ) (x : Target) → SaysLed i x → Led i x
  unfolding Led SaysLed
  said i x (f, has, says) =
      let y = map_source (target_by items) (led_thing t i f) x says in
      let at = if_source (lead_for i (lead_by t f)).leads (fact_thing f) y.0 y.1 in
      let z = leads_by e t facts table found i f (lead_for i (lead_by t f)) (view_of t i f) has at.0 in
      let same : z.0 ≡ y.0 = same_Some z.0 y.0 (sym z.3 ∙ at.1) in
      let (w, is, h) = leads_back number (item_number items) c ok i (thing_of z.0) z.1 in
      (w, h, sym (by_number w (known i w h)) ∙ ap (λ q. target_by items (loop_thing q)) is ∙ ap (target_by items) (there_again z.0 ∙ same) ∙ y.2)

  so : (i : ℕ) (u : PathImport N) (x : Target) → IsImport c i u → Led i x → SaysLed i x
  unfolding Led SaysLed
  so i u x is (y, h, same) =
      let (w, is', like) = import_to number (item_number items) c ok i u is in
      let (z, to, h') = leads_on number (item_number items) c ok i y h in
      let f = fact_for e t facts table found i z w is' h' in (
        f.0,
        f.1,
        ap (λ (b : Bool). option_map (target_by items) (if b then fact_thing f.0 else None)) f.2 ∙ ap (option_map (target_by items)) f.4
            ∙ ap Some (ap (λ q. target_by items (loop_thing q)) (sym to) ∙ by_number y (known i y h) ∙ same),
      )

  pub targets_hold : (i : ℕ) (u : PathImport N) (targets : List Target) → IsImport c i u → AreTargetsBy t items facts i targets → AreTargets c i targets
  unfolding Led SaysLed
  targets_hold i u targets is by = record { all = λ x. (λ has. said i x ((by.all x).0 has), λ h. (by.all x).1 (so i u x is h)); once = by.once }
