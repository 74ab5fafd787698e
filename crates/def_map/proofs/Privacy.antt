-- An import is private by the facts that were found if it is so of the crate.
use Rattle.std.proofs.Common.{◌≡◌, ◌==◌, ◌&&◌, ◌||◌, ℕ, Bool, true, false, not, List, Option, Some, None, slice_get, if◌then◌else◌, refl, sym, ap, subst, ◌∙◌, Contains, eqb-true, eq-eqb}
use Rattle.std.specs.List.{list_any}
use Rattle.std.specs.Option.{option_map_or}
use Rattle.std.proofs.lemmas.Bool.{false≢true}
use Rattle.std.proofs.lemmas.Option.{none-some, same_Some}
use Rattle.def_map.specs.declared.kinds.{Namespace.Namespace, Visibility.Visibility}
use Rattle.def_map.specs.declared.kinds.Namespace.TheVariants.{Types, Values, Macros}
use Rattle.def_map.specs.declared.facts as code
use Rattle.def_map.specs.declared.facts.Fact.TheVariants.{Names, EveryName, Stands, Gives, Copies}
use Rattle.def_map.specs.declared.facts.Thing.TheVariants.{Module as module_thing, Item, Scope, Unseen}
use Rattle.def_map.specs.Crates.{Crate, Thing, a_module, PathImport, module_sees}
use Rattle.def_map.specs.Facts.{names, stands, is_inner_name, is_wanted, IsImport, Derives}
use Rattle.def_map.specs.Verdicts.{IsPrivate, Asks, asks_inner, asks_last}
use Rattle.def_map.specs.Closure.{are_types}
use Rattle.def_map.specs.Closing.{thing_of, loop_thing, IsLowered}
use Rattle.def_map.specs.Private as facts_say
use Rattle.def_map.specs.Private.{private_imports}
use Rattle.def_map.specs.Told.{AreFactsFound, ArePrivate}
use Rattle.def_map.proofs.Telling.{any_of, of_any, and_parts, if_source}
use Rattle.def_map.proofs.Listing.{contains_kept, contains_source}
use Rattle.def_map.proofs.TableRows.{back_again, IsRow, row_inner, row_wanted, row_of, import_at}

module _ (c : Crate ℕ ℕ) (t : code.ImportTable.ImportTable) (facts : List code.Fact.Fact) (table : IsLowered c t) (found : AreFactsFound c facts) where
  same_import : (i : ℕ) (u w : PathImport ℕ) → IsImport c i u → IsImport c i w → w ≡ u
  same_import i u w a b = same_Some w u (sym b ∙ a)

  map_or_source : {X : Type 0} (test : X → Bool) (o : Option X) → option_map_or test o false ≡ true → (x : X) × (o ≡ Some x) × (test x ≡ true)
  map_or_source test None e = absurd (false≢true e)
  map_or_source test (Some x) e = (x, refl, e)

  asks_is : (u : PathImport ℕ) (w : code.Import.Import) (k : ℕ) (ns : Namespace) → IsRow u w → facts_say.asks_in w k ns ≡ (if is_inner_name u k then are_types ns else is_wanted u ns)
  asks_is u w k ns row = ap (λ (b : Bool). if b then are_types ns else (are_types ns || not w.types_alone)) (row_inner u w k row)
      ∙ ap (λ (b : Bool). if is_inner_name u k then are_types ns else b) (row_wanted u w ns row)

  asks_by : (i k m n : ℕ) (ns : Namespace) (u : PathImport ℕ) → IsImport c i u → Derives c (stands i k (a_module m)) → slice_get u.names k ≡ Some n
      → (if is_inner_name u k then are_types ns else is_wanted u ns) ≡ true → Asks c i m ns n
  asks_by i k m n ns u is stand has e = by (is_inner_name u k) refl e
    where
      types : (s : Namespace) → are_types s ≡ true → s ≡ Types
      types Types h = refl
      types Values h = absurd (false≢true h)
      types Macros h = absurd (false≢true h)

      by : (b : Bool) → is_inner_name u k ≡ b → (if b then are_types ns else is_wanted u ns) ≡ true → Asks c i m ns n
      by true inner h = subst (λ s. Asks c i m s n) (sym (types ns h)) (asks_inner u is stand has inner)
      by false last h = asks_last u ns is stand has last h

  hidden_private : (i k : ℕ) (x : code.Thing.Thing) (g : code.Fact.Fact) → Contains facts (Stands i k x) → Contains facts g → facts_say.is_name_hidden t (Stands i k x) g ≡ true → IsPrivate c i
  unfolding facts_say.is_name_hidden
  hidden_private i k (module_thing at) (Names home ns n y v) has has' e =
      let p = and_parts (home == at) (facts_say.is_for_others t i k ns n v) e in
      let (w, row_is, h) = map_or_source (λ (z : code.Import.Import). option_map_or (λ wanted. (wanted == n) && (facts_say.asks_in z k ns && not (module_sees t.parents.items z.home v))) (slice_get z.path.items k) false)
      (slice_get t.imports.items i) p.1 in
      let (wanted, name_is, q) = map_or_source (λ wanted. (wanted == n) && (facts_say.asks_in w k ns && not (module_sees t.parents.items w.home v))) (slice_get w.path.items k) h in
      let a = and_parts (wanted == n) (facts_say.asks_in w k ns && not (module_sees t.parents.items w.home v)) q in
      let b = and_parts (facts_say.asks_in w k ns) (not (module_sees t.parents.items w.home v)) a.1 in
      let (u, is, row) = import_at c t table i w row_is in (
        u,
        at,
        ns,
        wanted,
        thing_of y,
        v,
        is,
        asks_by i k at wanted ns u is ((found (Stands i k (module_thing at))).0 has) (ap (λ l. slice_get l k) (sym row.names) ∙ name_is) (sym (asks_is u w k ns row) ∙ b.0),
        subst (λ z. Derives c (names z ns (Some wanted) (thing_of y) v)) (eqb-true home at p.0)
            (subst (λ z. Derives c (names home ns (Some z) (thing_of y) v)) (sym (eqb-true wanted n a.0)) ((found (Names home ns n y v)).0 has')),
        ap (λ l. module_sees l u.parent v) (sym table.parents) ∙ ap (λ z. module_sees t.parents.items z v) (sym row.home) ∙ by (module_sees t.parents.items w.home v) b.1,
      )
    where
      by : (b : Bool) → not b ≡ true → b ≡ false
      by true h = absurd (false≢true h)
      by false h = refl
  hidden_private i k (module_thing at) (EveryName m ns v) has has' e = absurd (false≢true e)
  hidden_private i k (module_thing at) (Stands j l y) has has' e = absurd (false≢true e)
  hidden_private i k (module_thing at) (Gives j ns y v) has has' e = absurd (false≢true e)
  hidden_private i k (module_thing at) (Copies from into v) has has' e = absurd (false≢true e)
  hidden_private i k (Item z) g has has' e = absurd (false≢true e)
  hidden_private i k (Scope z) g has has' e = absurd (false≢true e)
  hidden_private i k Unseen g has has' e = absurd (false≢true e)

  hidden_by : (i k m n : ℕ) (ns : Namespace) (y : Thing ℕ) (v : Visibility) (u : PathImport ℕ) → IsImport c i u → Derives c (stands i k (a_module m)) → slice_get u.names k ≡ Some n
      → (if is_inner_name u k then are_types ns else is_wanted u ns) ≡ true → Derives c (names m ns (Some n) y v) → module_sees c.parents u.parent v ≡ false → Contains (private_imports t facts) i
  unfolding facts_say.is_name_hidden facts_say.import_of_path
  hidden_by i k m n ns y v u is stand has asks named hidden =
      let (w, row_is, row) = row_of c t table i u is in
      let f : Contains facts (Stands i k (module_thing m)) = (found (Stands i k (module_thing m))).1 stand in
      let g : Contains facts (Names m ns n (loop_thing y) v) = (found (Names m ns n (loop_thing y) v)).1 (subst (λ z. Derives c (names m ns (Some n) z v)) (sym (back_again y)) named) in
      contains_kept (facts_say.hidden_from t facts) facts (Stands i k (module_thing m)) i f (ap (λ (b : Bool). if b then Some i else None)
      (of_any (facts_say.is_name_hidden t (Stands i k (module_thing m))) facts (Names m ns n (loop_thing y) v) g
      (ap (λ (b : Bool). b && facts_say.is_for_others t i k ns n v) (eq-eqb m m refl)
      ∙ ap (λ o. option_map_or (λ (z : code.Import.Import). option_map_or (λ wanted. (wanted == n) && (facts_say.asks_in z k ns && not (module_sees t.parents.items z.home v))) (slice_get z.path.items k) false) o false) row_is
      ∙ ap (λ o. option_map_or (λ wanted. (wanted == n) && (facts_say.asks_in w k ns && not (module_sees t.parents.items w.home v))) o false) (ap (λ l. slice_get l k) row.names ∙ has)
      ∙ ap (λ (b : Bool). b && (facts_say.asks_in w k ns && not (module_sees t.parents.items w.home v))) (eq-eqb n n refl)
      ∙ ap (λ (b : Bool). b && not (module_sees t.parents.items w.home v)) (asks_is u w k ns row ∙ asks)
      ∙ ap (λ z. not (module_sees t.parents.items z v)) row.home ∙ ap (λ l. not (module_sees l u.parent v)) table.parents ∙ ap not hidden)))

  of_private : (i : ℕ) → IsPrivate c i → Contains (private_imports t facts) i
  of_private i (u, m, ns, n, y, v, is, asks, named, hidden) = by asks named
    where
      own : (w : PathImport ℕ) → IsImport c i w → module_sees c.parents w.parent v ≡ false
      own w old = subst (λ (z : PathImport ℕ). module_sees c.parents z.parent v ≡ false) (same_import i w u old is) hidden

      by : {m n : ℕ} {ns : Namespace} → Asks c i m ns n → Derives c (names m ns (Some n) y v) → Contains (private_imports t facts) i
      by (asks_inner {k = k} {m = at} {n = x} w old stand has inner) it =
          hidden_by i k at x Types y v w old stand has (ap (λ (b : Bool). if b then true else is_wanted w Types) inner) it (own w old)
      by (asks_last {k = k} {m = at} {n = x} w s old stand has last wanted) it =
          hidden_by i k at x s y v w old stand has (ap (λ (b : Bool). if b then are_types s else is_wanted w s) last ∙ wanted) it (own w old)

  private_of : (i : ℕ) → Contains (private_imports t facts) i → IsPrivate c i
  unfolding facts_say.import_of_path
  private_of i has =
      let (f, in', says) = contains_source (facts_say.hidden_from t facts) facts i has in
      let p = if_source (list_any (facts_say.is_name_hidden t f) facts) (facts_say.import_of_path f) i says in
      by f in' p.0 p.1
    where
      by : (f : code.Fact.Fact) → Contains facts f → list_any (facts_say.is_name_hidden t f) facts ≡ true → facts_say.import_of_path f ≡ Some i → IsPrivate c i
      by (Stands j k x) in' e same =
          let g = any_of (facts_say.is_name_hidden t (Stands j k x)) facts e in subst (IsPrivate c) (same_Some j i same) (hidden_private j k x g.0 in' g.1 g.2)
      by (Names m ns n x v) in' e same = absurd (none-some i same)
      by (EveryName m ns v) in' e same = absurd (none-some i same)
      by (Gives j ns x v) in' e same = absurd (none-some i same)
      by (Copies from into v) in' e same = absurd (none-some i same)

pub are_private : (c : Crate ℕ ℕ) (t : code.ImportTable.ImportTable) (facts : List code.Fact.Fact) → ArePrivate c t facts
are_private c t facts table found i = (private_of c t facts table found i, of_private c t facts table found i)
