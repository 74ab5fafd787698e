-- What the rules derive is found by the loop.
use Rattle.std.proofs.Common.{◌≡◌, ◌==◌, ◌&&◌, ℕ, suc, Bool, true, false, not, nat_lt, List, [], Option, Some, None, slice_get, if◌then◌else◌, refl, sym, ap, subst, ◌∙◌, length, arith, option_map, option_and_then, eq-eqb, ltb-true, lt-ltb}
use Rattle.std.proofs.lemmas.Option.{none-some, same_Some, slice_get_within}
use Rattle.def_map.specs.declared.kinds.{Namespace.Namespace, Visibility.Visibility}
use Rattle.def_map.specs.declared.kinds.Namespace.TheVariants.{Types, Macros}
use Rattle.def_map.specs.declared.kinds.Visibility.TheVariants.{Public}
use Rattle.def_map.specs.declared.facts as code
use Rattle.def_map.specs.declared.facts.Fact.TheVariants.{Names, EveryName, Stands, Gives, Copies}
use Rattle.def_map.specs.declared.facts.ImportName.TheVariants.{Glob, Named, Unnamed}
use Rattle.def_map.specs.declared.facts.Thing.TheVariants.{Module as module_thing, Unseen}
use Rattle.def_map.specs.Crates.{Crate, Thing, a_module, an_item, a_scope, unseen, a_name, PathImport, module_sees, narrower}
use Rattle.def_map.specs.Facts.{Fact, names, stands, gives, is_glob_import, reading, IsOpen, IsImport, Covers, IsFree, Derives, declared, veiled, begins, elsewhere, leads, ends, gives_start, copies, imports, opens, exports, passes}
use Rattle.def_map.specs.Closure as loop
use Rattle.def_map.specs.Closure.{are_types, hides, passed_name, way_on, glob_of, path_end, named_fact, stand_of, follows, step_by, step_by_name, step_by_veil, concludes, Closes, given, followed, concluded}
use Rattle.def_map.specs.Closing.{binding_of, loop_thing, loop_binding, loop_fact, Begins, by_declaration, by_veil, by_start, by_first, IsLowered, AreSeeds}
use Rattle.def_map.proofs.Reading.{reading_inner, reading_last, reading_cases}
use Rattle.def_map.proofs.TableRows.{namespace_itself, IsRow, row_glob, passed_is, row_of, sees_same, narrower_same, hides_not}
use Rattle.def_map.proofs.Things.{bound}

module _ (c : Crate ℕ ℕ) (t : code.ImportTable.ImportTable) (seeds : List code.Fact.Fact) (table : IsLowered c t) (begun : AreSeeds c seeds) where
  -- ---- what is derived is found

  -- names of every name are unseen
  abbrev pub Found : Fact ℕ ℕ → Type 0
  Found (names m ns None x v) = (x ≡ unseen) × Closes t seeds (EveryName m ns v)
  Found (names m ns (Some n) x v) = Closes t seeds (Names m ns n (loop_thing x) v)
  Found (stands i k x) = Closes t seeds (Stands i k (loop_thing x))
  Found (gives i ns x v) = Closes t seeds (Gives i ns (loop_thing x) v)

  seed : (f : Fact ℕ ℕ) → Begins c f → Closes t seeds (loop_fact f)
  seed f h = given (loop_fact f) (begun.whole f h)

  read_found : (i : ℕ) (u : PathImport ℕ) (k : ℕ) (ns : Namespace) (x : Thing ℕ) (v : Visibility) (f : Fact ℕ ℕ) → reading i u k ns x v ≡ Some f → Closes t seeds (loop_fact f) → Found f
  read_found i u k ns x v f says = reading_cases (λ f. Closes t seeds (loop_fact f) → Found f) i u k ns x v f says (λ inner types h. h) (λ last wanted h. h)

  -- what follows from where a path stands
  stand_followed : (i k : ℕ) (ns : Namespace) (x : code.Thing.Thing) (w : code.Import.Import) (f : code.Fact.Fact) → slice_get t.imports.items i ≡ Some w → stand_of w i k ns x ≡ Some f
      → Closes t seeds (Stands i k x) → Closes t seeds f
  unfolding follows
  stand_followed i k ns x w f is says h = followed ns (Stands i k x) f h (ap (option_and_then (λ (z : code.Import.Import). stand_of z i k ns x)) is ∙ says)

  at_end : (i : ℕ) (ns : Namespace) (x : code.Thing.Thing) (u : PathImport ℕ) (w : code.Import.Import) → IsRow u w → stand_of w i (length u.names) ns x ≡ path_end w i (length u.names) ns x
  at_end i ns x u w row =
      let n = ap (λ (l : List ℕ). length l) row.names in
      ap (λ (b : Bool). if b then way_on w i (length u.names) ns x else (if length u.names == length w.path.items then path_end w i (length u.names) ns x else None)) (ap (nat_lt (length u.names)) n ∙ not_less (length u.names))
      ∙ ap (λ (b : Bool). if b then path_end w i (length u.names) ns x else None) (eq-eqb (length u.names) (length w.path.items) (sym n))
    where
      not_less : (l : ℕ) → nat_lt l l ≡ false
      not_less l = by (nat_lt l l) refl
        where
          by : (b : Bool) → nat_lt l l ≡ b → nat_lt l l ≡ false
          by true e = absurd (let h = ltb-true l l e in omega (arith, h))
          by false e = e

  glob_end : (i k : ℕ) (ns : Namespace) (x : code.Thing.Thing) (u : PathImport ℕ) (w : code.Import.Import) → IsRow u w → is_glob_import u ≡ true → path_end w i k ns x ≡ glob_of w ns x
  glob_end i k ns x u w row glob = ap (λ (b : Bool). if b then glob_of w ns x else (if (k == 0) && are_types ns then Some (Gives i Types x Public) else None)) (row_glob u w row ∙ glob)

  open_glob : (x : Thing ℕ) (ns : Namespace) (w : code.Import.Import) → IsOpen x → glob_of w ns (loop_thing x) ≡ Some (EveryName w.home ns w.visibility)
  open_glob (a_module m) ns w h = absurd h
  open_glob (an_item y) ns w h = absurd h
  open_glob (a_scope y) ns w h = refl
  open_glob unseen ns w h = refl

  open_way : (x : Thing ℕ) (i k : ℕ) (ns : Namespace) (w : code.Import.Import) → IsOpen x → way_on w i k ns (loop_thing x) ≡ passed_name w i k ns Unseen Public
  open_way (a_module m) i k ns w h = absurd h
  open_way (an_item y) i k ns w h = absurd h
  open_way (a_scope y) i k ns w h = refl
  open_way unseen i k ns w h = refl

  every : (m : ℕ) (ns : Namespace) (v : Visibility) (m' : ℕ) (v' : Visibility) → m ≡ m' → v ≡ v' → Closes t seeds (EveryName m ns v) → Closes t seeds (EveryName m' ns v')
  every m ns v m' v' a b h = subst (λ x. Closes t seeds (EveryName x ns v')) a (subst (λ x. Closes t seeds (EveryName m ns x)) b h)

  found_opens : (i : ℕ) (u : PathImport ℕ) (ns : Namespace) (x : Thing ℕ) → IsImport c i u → is_glob_import u ≡ true → Found (stands i (length u.names) x) → IsOpen x → Found (names u.parent ns None unseen u.visibility)
  found_opens i u ns x is glob stand open' =
      let r = row_of c t table i u is in (
        refl,
        every r.0.home ns r.0.visibility u.parent u.visibility r.2.home r.2.visibility
            (stand_followed i (length u.names) ns (loop_thing x) r.0 (EveryName r.0.home ns r.0.visibility) r.1
            (at_end i ns (loop_thing x) u r.0 r.2 ∙ glob_end i (length u.names) ns (loop_thing x) u r.0 r.2 glob ∙ open_glob x ns r.0 open') stand),
      )

  found_exports : (i : ℕ) (u : PathImport ℕ) → IsImport c i u → is_glob_import u ≡ true → Found (stands i (length u.names) (a_module 0)) → Found (names u.parent Macros None unseen u.visibility)
  found_exports i u is glob stand =
      let r = row_of c t table i u is in (
        refl,
        every r.0.home Macros r.0.visibility u.parent u.visibility r.2.home r.2.visibility
            (stand_followed i (length u.names) Macros (module_thing 0) r.0 (EveryName r.0.home Macros r.0.visibility) r.1
            (at_end i Macros (module_thing 0) u r.0 r.2 ∙ glob_end i (length u.names) Macros (module_thing 0) u r.0 r.2 glob) stand),
      )

  found_passes : (i k : ℕ) (n : ℕ) (x : Thing ℕ) (f : Fact ℕ ℕ) (u : PathImport ℕ) (ns : Namespace) → IsImport c i u → Found (stands i k x) → IsOpen x → slice_get u.names k ≡ Some n
      → reading i u k ns unseen Public ≡ Some f → Found f
  found_passes i k n x f u ns is stand open' has says =
      let r = row_of c t table i u is in
      let low = slice_get_within u.names k n has in
      read_found i u k ns unseen Public f says (stand_followed i k ns (loop_thing x) r.0 (loop_fact f) r.1
      (ap (λ (b : Bool). if b then way_on r.0 i k ns (loop_thing x) else (if k == length r.0.path.items then path_end r.0 i k ns (loop_thing x) else None)) (ap (λ l. nat_lt k (length l)) r.2.names ∙ lt-ltb k (length u.names) low)
      ∙ open_way x i k ns r.0 open' ∙ passed_is u r.0 i k ns unseen Public r.2 ∙ ap (option_map loop_fact) says) stand)

  found_start : (i : ℕ) (x : Thing ℕ) (u : PathImport ℕ) → IsImport c i u → is_glob_import u ≡ false → u.names ≡ [] → Found (stands i 0 x) → Found (gives i Types x Public)
  found_start i x u is glob none stand =
      let r = row_of c t table i u is in
      let zero' : length u.names ≡ 0 = ap (λ (l : List ℕ). length l) none in
      stand_followed i 0 Types (loop_thing x) r.0 (Gives i Types (loop_thing x) Public) r.1
      (subst (λ l. stand_of r.0 i l Types (loop_thing x) ≡ path_end r.0 i l Types (loop_thing x)) zero' (at_end i Types (loop_thing x) u r.0 r.2)
      ∙ ap (λ (b : Bool). if b then glob_of r.0 Types (loop_thing x) else Some (Gives i Types (loop_thing x) Public)) (row_glob u r.0 r.2 ∙ glob)) stand

  found_imports : (i : ℕ) (ns : Namespace) (n : ℕ) (x : Thing ℕ) (v : Visibility) (u : PathImport ℕ) → IsImport c i u → u.binding ≡ a_name n → Found (gives i ns x v)
      → Found (names u.parent ns (Some n) x (narrower c.parents v u.visibility))
  unfolding follows
  found_imports i ns n x v u is binds h =
      let r = row_of c t table i u is in
      let name : r.0.name ≡ Named n = named r.0.name (r.2.binding ∙ ap loop_binding binds) in
      followed ns (Gives i ns (loop_thing x) v) (Names u.parent ns n (loop_thing x) (narrower c.parents v u.visibility)) h
      (ap (option_and_then (λ (z : code.Import.Import). if loop.same_namespace ns ns then named_fact t z z.name ns (loop_thing x) v else None)) r.1
      ∙ ap (λ (b : Bool). if b then named_fact t r.0 r.0.name ns (loop_thing x) v else None) (namespace_itself ns)
      ∙ ap (λ z. named_fact t r.0 z ns (loop_thing x) v) name
      ∙ ap (λ z. Some (Names z ns n (loop_thing x) (narrower t.parents.items v r.0.visibility))) r.2.home
      ∙ ap (λ z. Some (Names u.parent ns n (loop_thing x) (narrower t.parents.items v z))) r.2.visibility
      ∙ ap (λ z. Some (Names u.parent ns n (loop_thing x) z)) (narrower_same c t table v u.visibility))
    where
      named : (z : code.ImportName.ImportName) → binding_of z ≡ a_name n → z ≡ Named n
      named Glob e = absurd (none-some n (ap bound e))
      named (Named m) e = ap Named (same_Some m n (ap bound e))
      named Unnamed e = absurd (none-some n (ap bound e))

  -- ---- two facts

  pub glob_copies : (i m : ℕ) (u : PathImport ℕ) → IsImport c i u → is_glob_import u ≡ true → Found (stands i (length u.names) (a_module m)) → Closes t seeds (Copies m u.parent u.visibility)
  glob_copies i m u is glob stand =
      let r = row_of c t table i u is in
      subst (λ z. Closes t seeds (Copies m z u.visibility)) r.2.home (subst (λ z. Closes t seeds (Copies m r.0.home z)) r.2.visibility
      (stand_followed i (length u.names) Types (module_thing m) r.0 (Copies m r.0.home r.0.visibility) r.1
      (at_end i Types (module_thing m) u r.0 r.2 ∙ glob_end i (length u.names) Types (module_thing m) u r.0 r.2 glob) stand))

  found_copies : (i m : ℕ) (ns : Namespace) (name : Option ℕ) (x : Thing ℕ) (v : Visibility) (u : PathImport ℕ) → IsImport c i u → is_glob_import u ≡ true → Found (stands i (length u.names) (a_module m))
      → Found (names m ns name x v) → module_sees c.parents u.parent v ≡ true → IsFree c u.parent ns name → Found (names u.parent ns name x (narrower c.parents v u.visibility))
  unfolding concludes
  found_copies i m ns None x v u is glob stand named seen free = (
    named.0,
    concluded (EveryName m ns v) (Copies m u.parent u.visibility) (EveryName u.parent ns (narrower c.parents v u.visibility)) named.1 (glob_copies i m u is glob stand)
        (ap (λ (b : Bool). if b && module_sees t.parents.items u.parent v then Some (EveryName u.parent ns (narrower t.parents.items v u.visibility)) else None) (eq-eqb m m refl)
        ∙ ap (λ (b : Bool). if b then Some (EveryName u.parent ns (narrower t.parents.items v u.visibility)) else None) (sees_same c t table u.parent v ∙ seen)
        ∙ ap (λ z. Some (EveryName u.parent ns z)) (narrower_same c t table v u.visibility)),
  )
  found_copies i m ns (Some n) x v u is glob stand named seen free =
      concluded (Names m ns n (loop_thing x) v) (Copies m u.parent u.visibility) (Names u.parent ns n (loop_thing x) (narrower c.parents v u.visibility)) named (glob_copies i m u is glob stand)
      (ap (λ (b : Bool). if b && module_sees t.parents.items u.parent v && not (hides t u.parent ns n) then Some (Names u.parent ns n (loop_thing x) (narrower t.parents.items v u.visibility)) else None) (eq-eqb m m refl)
      ∙ ap (λ (b : Bool). if b && not (hides t u.parent ns n) then Some (Names u.parent ns n (loop_thing x) (narrower t.parents.items v u.visibility)) else None) (sees_same c t table u.parent v ∙ seen)
      ∙ ap (λ (b : Bool). if b then Some (Names u.parent ns n (loop_thing x) (narrower t.parents.items v u.visibility)) else None) (hides_not c t table u.parent ns n free)
      ∙ ap (λ z. Some (Names u.parent ns n (loop_thing x) z)) (narrower_same c t table v u.visibility))

  -- a path reads a name where it stands
  step_found : (i k n : ℕ) (ns : Namespace) (x : Thing ℕ) (v : Visibility) (f : Fact ℕ ℕ) (u : PathImport ℕ) (w : code.Import.Import) (test : code.Import.Import → ℕ → Bool)
      → slice_get t.imports.items i ≡ Some w → IsRow u w → slice_get u.names k ≡ Some n → test w n ≡ true → reading i u k ns x v ≡ Some f → step_by t i k test ns (loop_thing x) v ≡ Some (loop_fact f)
  step_found i k n ns x v f u w test is row has holds says =
      ap (option_and_then (λ (z : code.Import.Import). option_and_then (λ wanted. if test z wanted then passed_name z i k ns (loop_thing x) v else None) (slice_get z.path.items k))) is
      ∙ ap (λ l. option_and_then (λ wanted. if test w wanted then passed_name w i k ns (loop_thing x) v else None) (slice_get l k)) row.names
      ∙ ap (option_and_then (λ wanted. if test w wanted then passed_name w i k ns (loop_thing x) v else None)) has
      ∙ ap (λ (b : Bool). if b then passed_name w i k ns (loop_thing x) v else None) holds
      ∙ passed_is u w i k ns x v row ∙ ap (option_map loop_fact) says

  found_reads : (i k m n : ℕ) (ns : Namespace) (name : Option ℕ) (x : Thing ℕ) (v : Visibility) (f : Fact ℕ ℕ) (u : PathImport ℕ) → IsImport c i u → Found (stands i k (a_module m)) → slice_get u.names k ≡ Some n
      → Found (names m ns name x v) → Covers c m ns name n → module_sees c.parents u.parent v ≡ true → reading i u k ns x v ≡ Some f → Found f
  unfolding concludes
  found_reads i k m n ns None x v f u is stand has named covers seen says =
      let r = row_of c t table i u is in
      read_found i u k ns x v f says (concluded (EveryName m ns v) (Stands i k (module_thing m)) (loop_fact f) named.1 stand
      (ap (λ (b : Bool). if b then step_by_veil t i k m ns v else None) (eq-eqb m m refl)
      ∙ step_found i k n ns unseen v f u r.0 (λ import wanted. module_sees t.parents.items import.home v && not (hides t m ns wanted)) r.1 r.2 has
      (ap (λ z. module_sees t.parents.items z v && not (hides t m ns n)) r.2.home ∙ ap (λ (b : Bool). b && not (hides t m ns n)) (sees_same c t table u.parent v ∙ seen) ∙ hides_not c t table m ns n covers)
      (subst (λ z. reading i u k ns z v ≡ Some f) named.0 says)))
  found_reads i k m n ns (Some y) x v f u is stand has named covers seen says =
      let r = row_of c t table i u is in
      read_found i u k ns x v f says (concluded (Names m ns y (loop_thing x) v) (Stands i k (module_thing m)) (loop_fact f) named stand
      (ap (λ (b : Bool). if b then step_by_name t i k ns y (loop_thing x) v else None) (eq-eqb m m refl)
      ∙ step_found i k n ns x v f u r.0 (λ import wanted. (wanted == y) && module_sees t.parents.items import.home v) r.1 r.2 has
      (ap (λ (b : Bool). b && module_sees t.parents.items r.0.home v) (eq-eqb n y (sym covers)) ∙ ap (λ z. module_sees t.parents.items z v) r.2.home ∙ sees_same c t table u.parent v ∙ seen) says))

  pub found : (f : Fact ℕ ℕ) → Derives c f → Found f
  found f (declared x has) = seed _ (by_declaration x has)
  found f (veiled x has) = (refl, seed _ (by_veil x has))
  found f (begins u is start) = seed _ (by_start u is start)
  found f (elsewhere {ns = ns} {n = n} {t = x} {v = v} {f = g} i u is leave first other free says) = read_found i u 0 ns x v g says (seed g (by_first i u is leave first other free says))
  found f (leads {i = i} {k = k} {m = m} {n = n} {name = name} {t = x} {v = v} u is stand has inner named covers seen) =
      found_reads i k m n Types name x v (stands i (suc k) x) u is (found (stands i k (a_module m)) stand) has (found (names m Types name x v) named) covers seen (reading_inner i u k x v inner)
  found f (ends {i = i} {k = k} {m = m} {ns = ns} {n = n} {name = name} {t = x} {v = v} u is stand has last wanted named covers seen) =
      found_reads i k m n ns name x v (gives i ns x v) u is (found (stands i k (a_module m)) stand) has (found (names m ns name x v) named) covers seen (reading_last i u k ns x v last wanted)
  found f (gives_start {i = i} {t = x} u is glob none stand) = found_start i x u is glob none (found (stands i 0 x) stand)
  found f (copies {i = i} {m = m} {ns = ns} {name = name} {t = x} {v = v} u is glob stand named seen free) =
      found_copies i m ns name x v u is glob (found (stands i (length u.names) (a_module m)) stand) (found (names m ns name x v) named) seen free
  found f (imports {i = i} {ns = ns} {n = n} {t = x} {v = v} u is binds given') = found_imports i ns n x v u is binds (found (gives i ns x v) given')
  found f (opens {i = i} {t = x} u ns is glob stand open') = found_opens i u ns x is glob (found (stands i (length u.names) x) stand) open'
  found f (exports {i = i} u is glob stand) = found_exports i u is glob (found (stands i (length u.names) (a_module 0)) stand)
  found f (passes {i = i} {k = k} {n = n} {t = x} {f = g} u ns is stand open' has says) = found_passes i k n x g u ns is (found (stands i k x) stand) open' has says
