-- What is told by the facts that were found is so of the crate.
use Rattle.std.proofs.Common.{◌≡◌, ◌==◌, ◌&&◌, ◌||◌, ◌⊎◌, inl, inr, ⊎_elim, ℕ, suc, ltb, Bool, true, false, not, List, [], ◌∷◌, Option, Some, None, slice_get, if◌then◌else◌, refl, sym, ap, subst, ◌∙◌, length, Contains, option_map, option_and_then, eqb-true, eq-eqb}
use Rattle.std.specs.List.{list_any}
use Rattle.std.proofs.lemmas.Bool.{false≢true, true≢false}
use Rattle.std.proofs.lemmas.Option.{none-some, same_Some}
use Rattle.def_map.specs.declared.kinds.{Namespace.Namespace, Visibility.Visibility}
use Rattle.def_map.specs.declared.kinds.Visibility.TheVariants.{Public}
use Rattle.def_map.specs.declared.facts as code
use Rattle.def_map.specs.declared.facts.Fact.TheVariants.{Names, EveryName, Stands, Gives, Copies}
use Rattle.def_map.specs.declared.facts.Thing.TheVariants.{Module as module_thing, Item, Scope, Unseen}
use Rattle.def_map.specs.declared.verdict.{Lead.Lead}
use Rattle.def_map.specs.declared.verdict.Verdict.TheVariants.{Unresolved, TooWide, Unknown, Resolved}
use Rattle.def_map.specs.Crates.{Crate, Thing, a_module, an_item, a_scope, unseen, PathImport}
use Rattle.def_map.specs.Facts.{Fact, names, stands, gives, is_glob_import, is_inner_name, reading, IsImport, Derives, declared, veiled, begins, elsewhere, leads, ends, gives_start, copies, imports, opens, exports, passes}
use Rattle.def_map.specs.Verdicts.{IsSeen, HasNames, is_at_least, LeadsTo, to_given, to_glob, IsTooWide}
use Rattle.def_map.specs.Closure as loop
use Rattle.def_map.specs.Closure.{Closes}
use Rattle.std.proofs.lemmas.List.Elements.{All-contains}
use Rattle.def_map.specs.Closing.{thing_of, loop_thing, IsLowered}
use Rattle.def_map.specs.Found as facts_say
use Rattle.def_map.specs.Found.{lead_by, no_lead, lead_for, lead_of, verdict_by}
use Rattle.def_map.specs.Targets.{fact_thing}
use Rattle.def_map.specs.Told.{IsVerdict, unresolved, too_wide, unknown, resolved, AreFactsFound, FindsAllFacts, IsToldRightly}
use Rattle.def_map.proofs.Listing.{contains_here, contains_there, contains_cases, not_in_nil}
use Rattle.def_map.proofs.Reading.{reading_cases}
use Rattle.def_map.proofs.LoopFacts.{closes_alike}
use Rattle.def_map.proofs.TableRows.{back_again, row_glob, row_of, import_at}

or_parts : (a b : Bool) → (a || b) ≡ true → (a ≡ true) ⊎ (b ≡ true)
or_parts true b e = inl refl
or_parts false b e = inr e

pub any_of : {X : Type 0} (p : X → Bool) (xs : List X) → list_any p xs ≡ true → (x : X) × Contains xs x × (p x ≡ true)
any_of p [] e = absurd (false≢true e)
any_of p (x ∷ xs) e = ⊎_elim (λ (h : p x ≡ true). (x, contains_here x xs, h))
    (λ (h : list_any p xs ≡ true). let s = any_of p xs h in (s.0, contains_there x xs s.0 s.1, s.2)) (or_parts (p x) (list_any p xs) e)

pub of_any : {X : Type 0} (p : X → Bool) (xs : List X) (x : X) → Contains xs x → p x ≡ true → list_any p xs ≡ true
of_any p [] x has e = absurd (not_in_nil x has)
of_any p (y ∷ xs) x has e = ⊎_elim (λ (same : y ≡ x). ap (λ (b : Bool). b || list_any p xs) (ap p same ∙ e))
    (λ (h : Contains xs x). ap (λ (b : Bool). p y || b) (of_any p xs x h e) ∙ by (p y)) (contains_cases y xs x has)
  where
    by : (b : Bool) → (b || true) ≡ true
    by true = refl
    by false = refl

is_seen_of : (x : code.Thing.Thing) → facts_say.is_seen x ≡ true → IsSeen (thing_of x)
is_seen_of (module_thing m) e = tt
is_seen_of (Item y) e = tt
is_seen_of (Scope y) e = tt
is_seen_of Unseen e = absurd (false≢true e)

seen_is : (x : Thing ℕ) → IsSeen x → facts_say.is_seen (loop_thing x) ≡ true
seen_is (a_module m) h = refl
seen_is (an_item y) h = refl
seen_is (a_scope y) h = refl
seen_is unseen h = absurd h

seen_or : (x : Thing ℕ) → IsSeen x ⊎ (x ≡ unseen)
seen_or (a_module m) = inl tt
seen_or (an_item y) = inl tt
seen_or (a_scope y) = inl tt
seen_or unseen = inr refl

has_names_of : (x : code.Thing.Thing) → facts_say.has_names x ≡ true → HasNames (thing_of x)
has_names_of (module_thing m) e = tt
has_names_of (Item y) e = absurd (false≢true e)
has_names_of (Scope y) e = tt
has_names_of Unseen e = tt

names_are : (x : Thing ℕ) → HasNames x → facts_say.has_names (loop_thing x) ≡ true
names_are (a_module m) h = refl
names_are (an_item y) h = absurd h
names_are (a_scope y) h = refl
names_are unseen h = refl

pub and_parts : (a b : Bool) → (a && b) ≡ true → (a ≡ true) × (b ≡ true)
and_parts true b e = (refl, e)
and_parts false b e = absurd (false≢true e)

pub if_source : {Y : Type 0} (b : Bool) (o : Option Y) (y : Y) → (if b then o else None) ≡ Some y → (b ≡ true) × (o ≡ Some y)
if_source true o y e = (refl, e)
if_source false o y e = absurd (none-some y e)

module _ (t : code.ImportTable.ImportTable) where
  -- what a fact says of an import
  pub data View (i : ℕ) : code.Fact.Fact → Lead → Type 0 where
    view_gives : (ns : Namespace) (x : code.Thing.Thing) (v : Visibility) (w : code.Import.Import) → slice_get t.imports.items i ≡ Some w
        → View i (Gives i ns x v) (record { leads = true; is_seen = facts_say.is_seen x; is_wide = not (facts_say.is_seen x) || is_at_least t.parents.items v w.visibility })
    view_stands : (k : ℕ) (x : code.Thing.Thing) (w : code.Import.Import) → slice_get t.imports.items i ≡ Some w → loop.is_glob_name w.name ≡ true → k ≡ length w.path.items → facts_say.has_names x ≡ true
        → View i (Stands i k x) (record { leads = true; is_seen = facts_say.is_seen x; is_wide = true })
    view_none : (f : code.Fact.Fact) → View i f no_lead

  abbrev pub given_lead : code.Thing.Thing → Visibility → code.Import.Import → Lead
  given_lead x v w = record { leads = true; is_seen = facts_say.is_seen x; is_wide = not (facts_say.is_seen x) || is_at_least t.parents.items v w.visibility }

  abbrev pub placed_lead : code.Thing.Thing → Lead
  placed_lead x = record { leads = true; is_seen = facts_say.is_seen x; is_wide = true }

  pub view_of : (i : ℕ) (f : code.Fact.Fact) → View i f (lead_for i (lead_by t f))
  unfolding lead_by
  view_of i (Gives j ns x v) = by (slice_get t.imports.items j) refl
    where
      at : (w : code.Import.Import) → slice_get t.imports.items j ≡ Some w → (b : Bool) → (j == i) ≡ b → View i (Gives j ns x v) (if b then given_lead x v w else no_lead)
      at w is true e = let same = eqb-true j i e in
          subst (λ k. View i (Gives k ns x v) (given_lead x v w)) (sym same) (view_gives ns x v w (subst (λ k. slice_get t.imports.items k ≡ Some w) same is))
      at w is false e = view_none (Gives j ns x v)

      by : (o : Option code.Import.Import) → slice_get t.imports.items j ≡ o → View i (Gives j ns x v) (lead_for i (option_map (λ w. (j, given_lead x v w)) o))
      by None e = view_none (Gives j ns x v)
      by (Some w) e = at w e (j == i) refl
  view_of i (Stands j k x) = by (slice_get t.imports.items j) refl
    where
      Ends : code.Import.Import → Bool
      Ends w = loop.is_glob_name w.name && (k == length w.path.items) && facts_say.has_names x

      at : (w : code.Import.Import) → slice_get t.imports.items j ≡ Some w → Ends w ≡ true → (b : Bool) → (j == i) ≡ b → View i (Stands j k x) (if b then placed_lead x else no_lead)
      at w is ends' true e =
          let same = eqb-true j i e in
          let p = and_parts (loop.is_glob_name w.name && (k == length w.path.items)) (facts_say.has_names x) ends' in
          let q = and_parts (loop.is_glob_name w.name) (k == length w.path.items) p.0 in
          subst (λ z. View i (Stands z k x) (placed_lead x)) (sym same) (view_stands k x w (subst (λ z. slice_get t.imports.items z ≡ Some w) same is) q.0 (eqb-true k (length w.path.items) q.1) p.1)
      at w is ends' false e = view_none (Stands j k x)

      ending : (w : code.Import.Import) → slice_get t.imports.items j ≡ Some w → (b : Bool) → Ends w ≡ b → View i (Stands j k x) (lead_for i (if b then Some (j, placed_lead x) else None))
      ending w is true e = at w is e (j == i) refl
      ending w is false e = view_none (Stands j k x)

      by : (o : Option code.Import.Import) → slice_get t.imports.items j ≡ o
          → View i (Stands j k x) (lead_for i (option_and_then (λ w. if loop.is_glob_name w.name && (k == length w.path.items) && facts_say.has_names x then Some (j, placed_lead x) else None) o))
      by None e = view_none (Stands j k x)
      by (Some w) e = ending w e (Ends w) refl
  view_of i (Names m ns n x v) = view_none (Names m ns n x v)
  view_of i (EveryName m ns v) = view_none (EveryName m ns v)
  view_of i (Copies from into v) = view_none (Copies from into v)

module _ (c : Crate ℕ ℕ) (t : code.ImportTable.ImportTable) (facts : List code.Fact.Fact) (table : IsLowered c t) (found : AreFactsFound c facts) where
  -- a glob gives nothing
  not_inner : (u : PathImport ℕ) (k : ℕ) → is_inner_name u k ≡ false → is_glob_import u ≡ false
  not_inner u k e = by (is_glob_import u) refl e
    where
      by : (b : Bool) → is_glob_import u ≡ b → (if b then true else ltb (suc k) (length u.names)) ≡ false → is_glob_import u ≡ false
      by true glob h = absurd (true≢false h)
      by false glob h = glob

  same_import : (i : ℕ) (u w : PathImport ℕ) → IsImport c i u → IsImport c i w → w ≡ u
  same_import i u w a b = same_Some w u (sym b ∙ a)

  abbrev GivesByName : Fact ℕ ℕ → Type 0
  GivesByName (names m ns name x v) = Unit {0}
  GivesByName (stands i k x) = Unit {0}
  GivesByName (gives i ns x v) = (u : PathImport ℕ) → IsImport c i u → is_glob_import u ≡ false

  by_name : (i : ℕ) (w : PathImport ℕ) → IsImport c i w → is_glob_import w ≡ false → (u : PathImport ℕ) → IsImport c i u → is_glob_import u ≡ false
  by_name i w is glob u old = subst (λ (z : PathImport ℕ). is_glob_import z ≡ false) (same_import i u w old is) glob

  read_by_name : (i : ℕ) (w : PathImport ℕ) (k : ℕ) (ns : Namespace) (x : Thing ℕ) (v : Visibility) (f : Fact ℕ ℕ) → IsImport c i w → reading i w k ns x v ≡ Some f → GivesByName f
  read_by_name i w k ns x v f is says = reading_cases GivesByName i w k ns x v f says (λ inner types. tt) (λ last wanted. by_name i w is (not_inner w k last))

  gives_by_name : (f : Fact ℕ ℕ) → Derives c f → GivesByName f
  gives_by_name f (declared x has) = tt
  gives_by_name f (veiled x has) = tt
  gives_by_name f (begins u is start) = tt
  gives_by_name f (elsewhere {ns = ns} {t = x} {v = v} {f = g} i u is leave first other free says) = read_by_name i u 0 ns x v g is says
  gives_by_name f (leads u is stand has inner named covers seen) = tt
  gives_by_name f (ends {i = i} {k = k} u is stand has last wanted named covers seen) = by_name i u is (not_inner u k last)
  gives_by_name f (gives_start {i = i} u is glob none stand) = by_name i u is glob
  gives_by_name f (copies u is glob stand named seen free) = tt
  gives_by_name f (imports u is binds given) = tt
  gives_by_name f (opens u ns is glob stand open') = tt
  gives_by_name f (exports u is glob stand) = tt
  gives_by_name f (passes {i = i} {k = k} {f = g} u ns is stand open' has says) = read_by_name i u k ns unseen Public g is says

  -- ---- the three answers

  pub leads_by : (i : ℕ) (f : code.Fact.Fact) (l : Lead) → View t i f l → Contains facts f → l.leads ≡ true
      → (x : code.Thing.Thing) × LeadsTo c i (thing_of x) × (l.is_seen ≡ facts_say.is_seen x) × (fact_thing f ≡ Some x)
  leads_by i f l (view_gives ns x v w is) has e = (x, to_given ((found (Gives i ns x v)).0 has), refl, refl)
  leads_by i f l (view_stands k x w is glob end named) has e =
      let r = import_at c t table i w is in
      (x, to_glob r.0 r.1 (sym (row_glob r.0 w r.2) ∙ glob) (subst (λ z. Derives c (stands i z (thing_of x))) (end ∙ ap (λ (z : List ℕ). length z) r.2.names) ((found (Stands i k x)).0 has)) (has_names_of x named), refl, refl)
  leads_by i f l (view_none g) has e = absurd (false≢true e)

  -- what it leads to has a fact
  abbrev pub FactFor : ℕ → Thing ℕ → Type 0
  FactFor i x =
      (f : code.Fact.Fact) × Contains facts f × ((lead_for i (lead_by t f)).leads ≡ true) × ((lead_for i (lead_by t f)).is_seen ≡ facts_say.is_seen (loop_thing x)) × (fact_thing f ≡ Some (loop_thing x))

  pub fact_for : (i : ℕ) (x : Thing ℕ) (u : PathImport ℕ) → IsImport c i u → LeadsTo c i x → FactFor i x
  unfolding lead_by
  fact_for i x u is (to_given {ns = ns} {t = y} {v = v} given) =
      let r = row_of c t table i u is in
      let lead : lead_for i (lead_by t (Gives i ns (loop_thing y) v)) ≡ given_lead t (loop_thing y) v r.0 =
      ap (λ o. lead_for i (option_map (λ w. (i, given_lead t (loop_thing y) v w)) o)) r.1 ∙ ap (λ (b : Bool). if b then given_lead t (loop_thing y) v r.0 else no_lead) (eq-eqb i i refl) in (
        Gives i ns (loop_thing y) v,
        (found (Gives i ns (loop_thing y) v)).1 (subst (λ z. Derives c (gives i ns z v)) (sym (back_again y)) given),
        ap (λ (l : Lead). l.leads) lead,
        ap (λ (l : Lead). l.is_seen) lead,
        refl,
      )
  fact_for i x u is (to_glob {t = y} w old glob stand named) =
      let r = row_of c t table i w old in
      let end = ap (λ (z : List ℕ). length z) r.2.names in
      let lead : lead_for i (lead_by t (Stands i (length w.names) (loop_thing y))) ≡ placed_lead t (loop_thing y) =
      ap (λ o. lead_for i (option_and_then (λ z. if loop.is_glob_name z.name && (length w.names == length z.path.items) && facts_say.has_names (loop_thing y) then Some (i, placed_lead t (loop_thing y)) else None) o)) r.1
      ∙ ap (λ (b : Bool). lead_for i (if b && (length w.names == length r.0.path.items) && facts_say.has_names (loop_thing y) then Some (i, placed_lead t (loop_thing y)) else None)) (row_glob w r.0 r.2 ∙ glob)
      ∙ ap (λ (b : Bool). lead_for i (if b && facts_say.has_names (loop_thing y) then Some (i, placed_lead t (loop_thing y)) else None)) (eq-eqb (length w.names) (length r.0.path.items) (sym end))
      ∙ ap (λ (b : Bool). lead_for i (if b then Some (i, placed_lead t (loop_thing y)) else None)) (names_are y named)
      ∙ ap (λ (b : Bool). if b then placed_lead t (loop_thing y) else no_lead) (eq-eqb i i refl) in (
        Stands i (length w.names) (loop_thing y),
        (found (Stands i (length w.names) (loop_thing y))).1 (subst (λ z. Derives c (stands i (length w.names) z)) (sym (back_again y)) stand),
        ap (λ (l : Lead). l.leads) lead,
        ap (λ (l : Lead). l.is_seen) lead,
        refl,
      )

  -- ---- the verdict

  -- a fact that is not against `too wide`
  narrow_by : (i : ℕ) (f : code.Fact.Fact) (l : Lead) → View t i f l → Contains facts f → l.is_wide ≡ true → IsTooWide c i → ⊥
  narrow_by i f l (view_gives ns x v w is) has e (u, old, glob, wide) =
      let r = import_at c t table i w is in
      let h = wide ns (thing_of x) v ((found (Gives i ns x v)).0 has) in
      ⊎_elim (λ (n : not (facts_say.is_seen x) ≡ true). unseen_not x n h.0)
      (λ (n : is_at_least t.parents.items v w.visibility ≡ true). true≢false (sym n ∙ ap (λ z. is_at_least z v w.visibility) table.parents
      ∙ ap (is_at_least c.parents v) (r.2.visibility ∙ ap (λ (z : PathImport ℕ). z.visibility) (same_import i u r.0 old r.1)) ∙ h.1))
      (or_parts (not (facts_say.is_seen x)) (is_at_least t.parents.items v w.visibility) e)
    where
      unseen_not : (x : code.Thing.Thing) → not (facts_say.is_seen x) ≡ true → IsSeen (thing_of x) → ⊥
      unseen_not (module_thing m) n h = false≢true n
      unseen_not (Item y) n h = false≢true n
      unseen_not (Scope y) n h = false≢true n
      unseen_not Unseen n h = h
  narrow_by i f l (view_stands k x w is glob end named) has e (u, old, by_names, wide) =
      let r = import_at c t table i w is in
      true≢false (sym glob ∙ row_glob r.0 w r.2 ∙ ap (λ (z : PathImport ℕ). is_glob_import z) (same_import i u r.0 old r.1) ∙ by_names)
  narrow_by i f l (view_none g) has e wide = false≢true e

  -- what is given and is not against it
  wide_given : (i : ℕ) (u : PathImport ℕ) (ns : Namespace) (x : Thing ℕ) (v : Visibility) → IsImport c i u → list_any (λ f. (lead_for i (lead_by t f)).is_wide) facts ≡ false → Derives c (gives i ns x v)
      → IsSeen x × (is_at_least c.parents v u.visibility ≡ false)
  unfolding lead_by
  wide_given i u ns x v is none given =
      let r = row_of c t table i u is in
      let lead : lead_for i (lead_by t (Gives i ns (loop_thing x) v)) ≡ given_lead t (loop_thing x) v r.0 =
      ap (λ o. lead_for i (option_map (λ w. (i, given_lead t (loop_thing x) v w)) o)) r.1 ∙ ap (λ (b : Bool). if b then given_lead t (loop_thing x) v r.0 else no_lead) (eq-eqb i i refl) in
      let has : Contains facts (Gives i ns (loop_thing x) v) = (found (Gives i ns (loop_thing x) v)).1 (subst (λ z. Derives c (gives i ns z v)) (sym (back_again x)) given) in
      let never : (given_lead t (loop_thing x) v r.0).is_wide ≡ true → ⊥ =
      λ e. false≢true (sym none ∙ of_any (λ f. (lead_for i (lead_by t f)).is_wide) facts (Gives i ns (loop_thing x) v) has (ap (λ (l : Lead). l.is_wide) lead ∙ e)) in (
        ⊎_elim (λ (s : IsSeen x). s) (λ (s : x ≡ unseen). absurd (never (ap (λ (z : Thing ℕ). not (facts_say.is_seen (loop_thing z)) || is_at_least t.parents.items v r.0.visibility) s))) (seen_or x),
        by (is_at_least c.parents v u.visibility) refl (λ e. never (ap (λ (b : Bool). not (facts_say.is_seen (loop_thing x)) || b)
            (ap (λ z. is_at_least z v r.0.visibility) table.parents ∙ ap (is_at_least c.parents v) r.2.visibility ∙ e) ∙ last (not (facts_say.is_seen (loop_thing x))))),
      )
    where
      last : (b : Bool) → (b || true) ≡ true
      last true = refl
      last false = refl

      by : {y : Bool} (b : Bool) → y ≡ b → (y ≡ true → ⊥) → y ≡ false
      by true e n = absurd (n e)
      by false e n = e

  -- where it leads and nothing is wide, it is no glob
  wide_by_name : (i : ℕ) (u : PathImport ℕ) → IsImport c i u → list_any (λ f. (lead_for i (lead_by t f)).is_wide) facts ≡ false → (f : code.Fact.Fact) (l : Lead) → View t i f l → Contains facts f
      → lead_for i (lead_by t f) ≡ l → l.leads ≡ true → is_glob_import u ≡ false
  wide_by_name i u is none f l (view_gives ns x v w at) has same e = gives_by_name (gives i ns (thing_of x) v) ((found (Gives i ns x v)).0 has) u is
  wide_by_name i u is none f l (view_stands k x w at glob end named) has same e =
      absurd (false≢true (sym none ∙ of_any (λ f. (lead_for i (lead_by t f)).is_wide) facts (Stands i k x) has (ap (λ (l : Lead). l.is_wide) same)))
  wide_by_name i u is none f l (view_none g) has same e = absurd (false≢true e)

  Picks : (Lead → Bool) → ℕ → Bool → Type 0
  Picks test i b = list_any (λ f. test (lead_for i (lead_by t f))) facts ≡ b

  tells_seen : (i : ℕ) (u : PathImport ℕ) → IsImport c i u → (b : Bool) → Picks (λ l. l.is_seen) i b → Picks (λ l. l.leads) i true → Picks (λ l. l.is_wide) i true → IsVerdict c i (if b then Resolved else Unknown)
  unfolding Picks
  tells_seen i u is true e leads' wide =
      let f = any_of (λ f. (lead_for i (lead_by t f)).is_seen) facts e in
      let w = any_of (λ f. (lead_for i (lead_by t f)).is_wide) facts wide in
      let x = leads_seen f.0 (lead_for i (lead_by t f.0)) (view_of t i f.0) f.1 f.2 in
      resolved {t = x.0} x.1 x.2 (narrow_by i w.0 (lead_for i (lead_by t w.0)) (view_of t i w.0) w.1 w.2)
    where
      leads_seen : (f : code.Fact.Fact) (l : Lead) → View t i f l → Contains facts f → l.is_seen ≡ true → (x : Thing ℕ) × LeadsTo c i x × IsSeen x
      leads_seen f l (view_gives ns x v w at) has h = let z = leads_by i (Gives i ns x v) (given_lead t x v w) (view_gives ns x v w at) has refl in
          (thing_of z.0, z.1, is_seen_of z.0 (sym z.2 ∙ h))
      leads_seen f l (view_stands k x w at glob end named) has h = let z = leads_by i (Stands i k x) (placed_lead t x) (view_stands k x w at glob end named) has refl in
          (thing_of z.0, z.1, is_seen_of z.0 (sym z.2 ∙ h))
      leads_seen f l (view_none g) has h = absurd (false≢true h)
  tells_seen i u is false e leads' wide =
      let f = any_of (λ f. (lead_for i (lead_by t f)).leads) facts leads' in
      let x = leads_by i f.0 (lead_for i (lead_by t f.0)) (view_of t i f.0) f.1 f.2 in
      unknown (subst (LeadsTo c i) (none (thing_of x.0) x.1) x.1) none
    where
      none : (x : Thing ℕ) → LeadsTo c i x → x ≡ unseen
      none x h = ⊎_elim (λ (s : IsSeen x). let f = fact_for i x u is h in
          absurd (false≢true (sym e ∙ of_any (λ f. (lead_for i (lead_by t f)).is_seen) facts f.0 f.1 (f.3 ∙ seen_is x s)))) (λ (s : x ≡ unseen). s) (seen_or x)

  tells_wide : (i : ℕ) (u : PathImport ℕ) → IsImport c i u → (b : Bool) → Picks (λ l. l.is_wide) i b → Picks (λ l. l.leads) i true
      → IsVerdict c i (if not b then TooWide else (if list_any (λ f. (lead_for i (lead_by t f)).is_seen) facts then Resolved else Unknown))
  unfolding Picks
  tells_wide i u is true e leads' = tells_seen i u is (list_any (λ f. (lead_for i (lead_by t f)).is_seen) facts) refl leads' e
  tells_wide i u is false e leads' =
      let f = any_of (λ f. (lead_for i (lead_by t f)).leads) facts leads' in
      let x = leads_by i f.0 (lead_for i (lead_by t f.0)) (view_of t i f.0) f.1 f.2 in
      too_wide x.1 (u, is, wide_by_name i u is e f.0 (lead_for i (lead_by t f.0)) (view_of t i f.0) f.1 refl f.2, λ ns y v given. wide_given i u ns y v is e given)

  tells : (i : ℕ) (u : PathImport ℕ) → IsImport c i u → (b : Bool) → Picks (λ l. l.leads) i b
      → IsVerdict c i (if not b then Unresolved else (if not (list_any (λ f. (lead_for i (lead_by t f)).is_wide) facts) then TooWide else (if list_any (λ f. (lead_for i (lead_by t f)).is_seen) facts then Resolved else Unknown)))
  unfolding Picks
  tells i u is true e = tells_wide i u is (list_any (λ f. (lead_for i (lead_by t f)).is_wide) facts) refl e
  tells i u is false e = unresolved (u, is, λ x h. let f = fact_for i x u is h in false≢true (sym e ∙ of_any (λ f. (lead_for i (lead_by t f)).leads) facts f.0 f.1 f.2))

  pub told : (i : ℕ) (u : PathImport ℕ) → IsImport c i u → IsVerdict c i (verdict_by (lead_of t facts i))
  unfolding Picks
  told i u is = tells i u is (list_any (λ f. (lead_for i (lead_by t f)).leads) facts) refl

pub told_rightly : (c : Crate ℕ ℕ) (t : code.ImportTable.ImportTable) (facts : List code.Fact.Fact) → IsToldRightly c t facts
told_rightly c t facts table found i u is = told c t facts table found i u is

pub finds_all : (c : Crate ℕ ℕ) (t : code.ImportTable.ImportTable) (seeds facts : List code.Fact.Fact) → FindsAllFacts c t seeds facts
finds_all c t seeds facts table begun closed whole f =
    (λ has. (closes_alike c t seeds table begun f).0 (All-contains (Closes t seeds) facts f closed has), λ says. whole f ((closes_alike c t seeds table begun f).1 says))
