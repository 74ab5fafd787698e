-- What the loop finds is what the rules derive.
use Rattle.std.proofs.Common.{◌≡◌, ◌<◌, ◌==◌, ◌&&◌, ℕ, suc, Bool, true, false, not, nat_lt, List, [], ◌∷◌, Option, Some, None, slice_get, if◌then◌else◌, refl, sym, ap, subst, ◌∙◌, length, arith, option_and_then, eqb-true, ltb-true}
use Rattle.std.proofs.lemmas.Bool.{false≢true}
use Rattle.std.proofs.lemmas.Option.{none-some, same_Some, slice_get-get_or}
use Rattle.def_map.specs.declared.kinds.{Namespace.Namespace, Visibility.Visibility}
use Rattle.def_map.specs.declared.kinds.Namespace.TheVariants.{Types, Values, Macros}
use Rattle.def_map.specs.declared.kinds.Visibility.TheVariants.{Public}
use Rattle.def_map.specs.declared.facts as code
use Rattle.def_map.specs.declared.facts.Fact.TheVariants.{Names, EveryName, Stands, Gives, Copies}
use Rattle.def_map.specs.declared.facts.ImportName.TheVariants.{Glob, Named, Unnamed}
use Rattle.def_map.specs.declared.facts.Thing.TheVariants.{Module as module_thing, Item, Scope, Unseen}
use Rattle.def_map.specs.Crates.{Crate, Thing, a_module, a_scope, unseen, Binding, a_glob, a_name, underscore, nameless, PathImport, module_sees, narrower, Hides}
use Rattle.def_map.specs.Facts.{Fact, names, stands, gives, is_glob_import, reading, IsOpen, IsImport, Covers, Derives, declared, veiled, begins, elsewhere, leads, ends, gives_start, copies, imports, opens, exports, passes}
use Rattle.def_map.specs.Closure as loop
use Rattle.def_map.specs.Closure.{are_types, are_macros, hides, passed_name, way_on, glob_of, path_end, named_fact, stand_of, follows, step_by, step_by_name, step_by_veil, step_of, copy_of, concludes, Closes, given, followed, concluded}
use Rattle.def_map.specs.Closing.{thing_of, binding_of, loop_thing, loop_binding, loop_fact, Begins, by_declaration, by_veil, by_start, by_first, IsLowered, AreSeeds, SaysOf, ClosesAlike}
use Rattle.def_map.proofs.NumberedLists.{map_source}
use Rattle.def_map.proofs.Reading.{reading_cases}
use Rattle.def_map.proofs.FoundFacts.{found, glob_copies}
use Rattle.def_map.proofs.TableRows.{back_again, there_again, IsRow, row_glob, passed_is, import_at, sees_same, narrower_same, not_hides}
use Rattle.def_map.proofs.Things.{bound}

module _ (c : Crate ℕ ℕ) (t : code.ImportTable.ImportTable) (seeds : List code.Fact.Fact) (table : IsLowered c t) (begun : AreSeeds c seeds) where
  -- ---- what is found is derived

  then_source : {X Y : Type 0} (h : X → Option Y) (o : Option X) (y : Y) → option_and_then h o ≡ Some y → (x : X) × (o ≡ Some x) × (h x ≡ Some y)
  then_source h None y e = absurd (none-some y e)
  then_source h (Some x) y e = (x, refl, e)

  if_source : {Y : Type 0} (b : Bool) (o : Option Y) (y : Y) → (if b then o else None) ≡ Some y → (b ≡ true) × (o ≡ Some y)
  if_source true o y e = (refl, e)
  if_source false o y e = absurd (none-some y e)

  and_parts : (a b : Bool) → (a && b) ≡ true → (a ≡ true) × (b ≡ true)
  and_parts true b e = (refl, e)
  and_parts false b e = absurd (false≢true e)

  same_namespace_is : (a b : Namespace) → loop.same_namespace a b ≡ true → a ≡ b
  same_namespace_is Types Types e = refl
  same_namespace_is Values Values e = refl
  same_namespace_is Macros Macros e = refl
  same_namespace_is Types Values e = absurd (false≢true e)
  same_namespace_is Types Macros e = absurd (false≢true e)
  same_namespace_is Values Types e = absurd (false≢true e)
  same_namespace_is Values Macros e = absurd (false≢true e)
  same_namespace_is Macros Types e = absurd (false≢true e)
  same_namespace_is Macros Values e = absurd (false≢true e)

  are_types_is : (ns : Namespace) → are_types ns ≡ true → ns ≡ Types
  are_types_is Types e = refl
  are_types_is Values e = absurd (false≢true e)
  are_types_is Macros e = absurd (false≢true e)

  are_macros_is : (ns : Namespace) → are_macros ns ≡ true → ns ≡ Macros
  are_macros_is Macros e = refl
  are_macros_is Types e = absurd (false≢true e)
  are_macros_is Values e = absurd (false≢true e)

  read_says : (i : ℕ) (u : PathImport ℕ) (k : ℕ) (ns : Namespace) (x : Thing ℕ) (v : Visibility) (f : Fact ℕ ℕ) → reading i u k ns x v ≡ Some f → Derives c f → SaysOf c (loop_fact f)
  read_says i u k ns x v f says = reading_cases (λ f. Derives c f → SaysOf c (loop_fact f)) i u k ns x v f says
      (λ inner types h. subst (λ z. Derives c (stands i (suc k) z)) (sym (back_again x)) h)
      (λ last wanted h. subst (λ z. Derives c (gives i ns z v)) (sym (back_again x)) h)

  begin_says : (f : Fact ℕ ℕ) → Begins c f → SaysOf c (loop_fact f)
  begin_says f (by_declaration x has) = subst (λ z. Derives c (names x.parent x.namespace (Some x.name) z x.visibility)) (sym (back_again x.thing)) (declared x has)
  begin_says f (by_veil x has) = veiled x has
  begin_says f (by_start u is start) = begins u is start
  begin_says f (by_first {ns = ns} {n = n} {t = x} {v = v} {f = g} i u is leave first other free says) = read_says i u 0 ns x v g says (elsewhere i u is leave first other free says)

  -- ---- one fact

  passes_says : (i k : ℕ) (ns : Namespace) (x : Thing ℕ) (u : PathImport ℕ) (w : code.Import.Import) (g : code.Fact.Fact) → IsImport c i u → IsRow u w → Derives c (stands i k x) → IsOpen x
      → k < length u.names → passed_name w i k ns Unseen Public ≡ Some g → SaysOf c g
  passes_says i k ns x u w g is row stand open' low e =
      let s = map_source loop_fact (reading i u k ns unseen Public) g (sym (passed_is u w i k ns unseen Public row) ∙ e) in
      subst (SaysOf c) s.2 (read_says i u k ns unseen Public s.0 s.1 (passes u ns is stand open' (slice_get-get_or u.names k 0 low) s.1))

  way_says : (i k : ℕ) (ns : Namespace) (x : code.Thing.Thing) (u : PathImport ℕ) (w : code.Import.Import) (g : code.Fact.Fact) → IsImport c i u → IsRow u w → Derives c (stands i k (thing_of x))
      → k < length u.names → way_on w i k ns x ≡ Some g → SaysOf c g
  way_says i k ns (module_thing m) u w g is row stand low e = absurd (none-some g e)
  way_says i k ns (Item y) u w g is row stand low e = absurd (none-some g e)
  way_says i k ns (Scope y) u w g is row stand low e = passes_says i k ns (a_scope y) u w g is row stand tt low e
  way_says i k ns Unseen u w g is row stand low e = passes_says i k ns unseen u w g is row stand tt low e

  opens_says : (i : ℕ) (ns : Namespace) (x : Thing ℕ) (u : PathImport ℕ) (w : code.Import.Import) (g : code.Fact.Fact) → IsImport c i u → IsRow u w → is_glob_import u ≡ true
      → Derives c (stands i (length u.names) x) → IsOpen x → Some (EveryName w.home ns w.visibility) ≡ Some g → SaysOf c g
  opens_says i ns x u w g is row glob stand open' e =
      subst (SaysOf c) (same_Some _ g e) (subst (λ z. Derives c (names z ns None unseen w.visibility)) (sym row.home)
      (subst (λ z. Derives c (names u.parent ns None unseen z)) (sym row.visibility) (opens u ns is glob stand open')))

  glob_says : (i : ℕ) (ns : Namespace) (x : code.Thing.Thing) (u : PathImport ℕ) (w : code.Import.Import) (g : code.Fact.Fact) → IsImport c i u → IsRow u w → is_glob_import u ≡ true
      → Derives c (stands i (length u.names) (thing_of x)) → glob_of w ns x ≡ Some g → SaysOf c g
  glob_says i ns (module_thing m) u w g is row glob stand e = by (are_types ns) e
    where
      by : (b : Bool) → (if b then Some (Copies m w.home w.visibility) else (if are_macros ns && (m == 0) then Some (EveryName w.home ns w.visibility) else None)) ≡ Some g → SaysOf c g
      by true h = subst (SaysOf c) (same_Some _ g h) (i, u, is, glob, sym row.home, sym row.visibility, stand)
      by false h =
          let s = if_source (are_macros ns && (m == 0)) (Some (EveryName w.home ns w.visibility)) g h in
          let p = and_parts (are_macros ns) (m == 0) s.0 in
          subst (SaysOf c) (same_Some _ g s.1) (subst (λ z. Derives c (names w.home z None unseen w.visibility)) (sym (are_macros_is ns p.0))
          (subst (λ z. Derives c (names z Macros None unseen w.visibility)) (sym row.home) (subst (λ z. Derives c (names u.parent Macros None unseen z)) (sym row.visibility)
          (exports u is glob (subst (λ z. Derives c (stands i (length u.names) (a_module z))) (eqb-true m 0 p.1) stand)))))
  glob_says i ns (Item y) u w g is row glob stand e = absurd (none-some g e)
  glob_says i ns (Scope y) u w g is row glob stand e = opens_says i ns (a_scope y) u w g is row glob stand tt e
  glob_says i ns Unseen u w g is row glob stand e = opens_says i ns unseen u w g is row glob stand tt e

  end_says : (i k : ℕ) (ns : Namespace) (x : code.Thing.Thing) (u : PathImport ℕ) (w : code.Import.Import) (g : code.Fact.Fact) → IsImport c i u → IsRow u w → Derives c (stands i k (thing_of x))
      → k ≡ length u.names → path_end w i k ns x ≡ Some g → SaysOf c g
  end_says i k ns x u w g is row stand end e = by (loop.is_glob_name w.name) refl e
    where
      none : (l : List ℕ) → length l ≡ 0 → l ≡ []
      none [] h = refl
      none (y ∷ l) h = absurd (omega (arith, h))

      by : (b : Bool) → loop.is_glob_name w.name ≡ b → (if b then glob_of w ns x else (if (k == 0) && are_types ns then Some (Gives i Types x Public) else None)) ≡ Some g → SaysOf c g
      by true glob h = glob_says i ns x u w g is row (sym (row_glob u w row) ∙ glob) (subst (λ z. Derives c (stands i z (thing_of x))) end stand) h
      by false glob h =
          let s = if_source ((k == 0) && are_types ns) (Some (Gives i Types x Public)) g h in
          let start : k ≡ 0 = eqb-true k 0 (and_parts (k == 0) (are_types ns) s.0).0 in
          subst (SaysOf c) (same_Some _ g s.1) (gives_start u is (sym (row_glob u w row) ∙ glob) (none u.names (sym end ∙ start)) (subst (λ z. Derives c (stands i z (thing_of x))) start stand))

  stand_says : (i k : ℕ) (ns : Namespace) (x : code.Thing.Thing) (u : PathImport ℕ) (w : code.Import.Import) (g : code.Fact.Fact) → IsImport c i u → IsRow u w → Derives c (stands i k (thing_of x))
      → stand_of w i k ns x ≡ Some g → SaysOf c g
  stand_says i k ns x u w g is row stand e = by (nat_lt k (length w.path.items)) refl e
    where
      lengths : length w.path.items ≡ length u.names
      lengths = ap (λ (l : List ℕ). length l) row.names

      by : (b : Bool) → nat_lt k (length w.path.items) ≡ b → (if b then way_on w i k ns x else (if k == length w.path.items then path_end w i k ns x else None)) ≡ Some g → SaysOf c g
      by true low h = way_says i k ns x u w g is row stand (ltb-true k (length u.names) (sym (ap (nat_lt k) lengths) ∙ low)) h
      by false low h =
          let s = if_source (k == length w.path.items) (path_end w i k ns x) g h in
          end_says i k ns x u w g is row stand (eqb-true k (length w.path.items) s.0 ∙ lengths) s.1

  give_says : (i : ℕ) (ns : Namespace) (x : code.Thing.Thing) (v : Visibility) (u : PathImport ℕ) (w : code.Import.Import) (g : code.Fact.Fact) → IsImport c i u → IsRow u w → Derives c (gives i ns (thing_of x) v)
      → (z : code.ImportName.ImportName) → w.name ≡ z → named_fact t w z ns x v ≡ Some g → SaysOf c g
  give_says i ns x v u w g is row h Glob same e = absurd (none-some g e)
  give_says i ns x v u w g is row h Unnamed same e = absurd (none-some g e)
  give_says i ns x v u w g is row h (Named n) same e =
      subst (SaysOf c) (same_Some _ g e) (subst (λ z. Derives c (names z ns (Some n) (thing_of x) (narrower t.parents.items v w.visibility))) (sym row.home)
      (subst (λ z. Derives c (names u.parent ns (Some n) (thing_of x) (narrower t.parents.items v z))) (sym row.visibility)
      (subst (λ z. Derives c (names u.parent ns (Some n) (thing_of x) z)) (sym (narrower_same c t table v u.visibility))
      (imports u is (named u.binding (sym row.binding ∙ ap binding_of same)) h))))
    where
      named : (b : Binding ℕ) → loop_binding b ≡ a_name n → b ≡ a_name n
      named a_glob h = absurd (none-some n (ap bound h))
      named (a_name m) h = h
      named underscore h = absurd (none-some n (ap bound h))
      named nameless h = absurd (none-some n (ap bound h))

  follow_says : (ns : Namespace) (f g : code.Fact.Fact) → SaysOf c f → follows t ns f ≡ Some g → SaysOf c g
  unfolding follows
  follow_says ns (Stands i k x) g stand e =
      let s = then_source (λ (z : code.Import.Import). stand_of z i k ns x) (slice_get t.imports.items i) g e in
      let r = import_at c t table i s.0 s.1 in stand_says i k ns x r.0 s.0 g r.1 r.2 stand s.2
  follow_says ns (Gives i own x v) g h e =
      let s = then_source (λ (z : code.Import.Import). if loop.same_namespace ns own then named_fact t z z.name ns x v else None) (slice_get t.imports.items i) g e in
      let r = import_at c t table i s.0 s.1 in
      let p = if_source (loop.same_namespace ns own) (named_fact t s.0 s.0.name ns x v) g s.2 in
      give_says i ns x v r.0 s.0 g r.1 r.2 (subst (λ z. Derives c (gives i z (thing_of x) v)) (sym (same_namespace_is ns own p.0)) h) s.0.name refl p.1
  follow_says ns (Names m s n x v) g h e = absurd (none-some g e)
  follow_says ns (EveryName m s v) g h e = absurd (none-some g e)
  follow_says ns (Copies from into v) g h e = absurd (none-some g e)

  -- ---- two facts

  -- what a name means in a path that stands in its module
  meets_says : (i k m : ℕ) (n : ℕ) (ns : Namespace) (name : Option ℕ) (x : Thing ℕ) (v : Visibility) (u : PathImport ℕ) (w : code.Import.Import) (g : code.Fact.Fact) → IsImport c i u → IsRow u w
      → Derives c (stands i k (a_module m)) → slice_get u.names k ≡ Some n → Derives c (names m ns name x v) → Covers c m ns name n → module_sees c.parents u.parent v ≡ true
      → passed_name w i k ns (loop_thing x) v ≡ Some g → SaysOf c g
  meets_says i k m n ns name x v u w g is row stand has named covers seen e =
      let s = map_source loop_fact (reading i u k ns x v) g (sym (passed_is u w i k ns x v row) ∙ e) in
      subst (SaysOf c) s.2 (read_says i u k ns x v s.0 s.1 (reading_cases (Derives c) i u k ns x v s.0 s.1
      (λ inner types. leads u is stand has inner (subst (λ z. Derives c (names m z name x v)) types named) (subst (λ z. Covers c m z name n) types covers) seen)
      (λ last wanted. ends u is stand has last wanted named covers seen)))

  step_says : (i k m : ℕ) (ns : Namespace) (name : Option ℕ) (x : code.Thing.Thing) (v : Visibility) (test : code.Import.Import → ℕ → Bool) (g : code.Fact.Fact)
      → Derives c (stands i k (a_module m)) → Derives c (names m ns name (thing_of x) v)
      → ((u : PathImport ℕ) (w : code.Import.Import) (n : ℕ) → IsRow u w → test w n ≡ true → Covers c m ns name n × (module_sees c.parents u.parent v ≡ true))
      → step_by t i k test ns x v ≡ Some g → SaysOf c g
  step_says i k m ns name x v test g stand named holds e =
      let s = then_source (λ (z : code.Import.Import). option_and_then (λ wanted. if test z wanted then passed_name z i k ns x v else None) (slice_get z.path.items k)) (slice_get t.imports.items i) g e in
      let r = import_at c t table i s.0 s.1 in
      let q = then_source (λ wanted. if test s.0 wanted then passed_name s.0 i k ns x v else None) (slice_get s.0.path.items k) g s.2 in
      let p = if_source (test s.0 q.0) (passed_name s.0 i k ns x v) g q.2 in
      let h = holds r.0 s.0 q.0 r.2 p.0 in
      meets_says i k m q.0 ns name (thing_of x) v r.0 s.0 g r.1 r.2 stand (ap (λ l. slice_get l k) (sym r.2.names) ∙ q.1) named h.0 h.1
      (ap (λ z. passed_name s.0 i k ns z v) (there_again x) ∙ p.1)

  sees_row : (u : PathImport ℕ) (w : code.Import.Import) (v : Visibility) → IsRow u w → module_sees t.parents.items w.home v ≡ true → module_sees c.parents u.parent v ≡ true
  sees_row u w v row e = sym (sees_same c t table u.parent v) ∙ ap (λ z. module_sees t.parents.items z v) (sym row.home) ∙ e

  place_says : (i k m : ℕ) (f g : code.Fact.Fact) → SaysOf c f → Derives c (stands i k (a_module m)) → step_of t i k m f ≡ Some g → SaysOf c g
  place_says i k m (Names home ns n x v) g named stand e =
      let p = if_source (home == m) (step_by_name t i k ns n x v) g e in
      step_says i k m ns (Some n) x v (λ import wanted. (wanted == n) && module_sees t.parents.items import.home v) g stand
      (subst (λ z. Derives c (names z ns (Some n) (thing_of x) v)) (eqb-true home m p.0) named)
      (λ u w wanted row h. let q = and_parts (wanted == n) (module_sees t.parents.items w.home v) h in (sym (eqb-true wanted n q.0), sees_row u w v row q.1)) p.1
  place_says i k m (EveryName home ns v) g named stand e =
      let p = if_source (home == m) (step_by_veil t i k home ns v) g e in
      let same = eqb-true home m p.0 in
      step_says i k m ns None Unseen v (λ import wanted. module_sees t.parents.items import.home v && not (hides t home ns wanted)) g stand
      (subst (λ z. Derives c (names z ns None unseen v)) same named)
      (λ u w wanted row h.
      let q = and_parts (module_sees t.parents.items w.home v) (not (hides t home ns wanted)) h in
      (subst (λ z. Hides c z ns wanted → ⊥) same (not_hides c t table home ns wanted q.1), sees_row u w v row q.0)) p.1
  place_says i k m (Stands j l x) g named stand e = absurd (none-some g e)
  place_says i k m (Gives j ns x v) g named stand e = absurd (none-some g e)
  place_says i k m (Copies from into v) g named stand e = absurd (none-some g e)

  copy_says : (from into : ℕ) (w : Visibility) (f g : code.Fact.Fact) → SaysOf c f → SaysOf c (Copies from into w) → copy_of t from into w f ≡ Some g → SaysOf c g
  copy_says from into w (Names home ns n x v) g named (i, u, is, glob, parent, visible, stand) e =
      let p = if_source ((home == from) && module_sees t.parents.items into v && not (hides t into ns n)) (Some (Names into ns n x (narrower t.parents.items v w))) g e in
      let a = and_parts ((home == from) && module_sees t.parents.items into v) (not (hides t into ns n)) p.0 in
      let b = and_parts (home == from) (module_sees t.parents.items into v) a.0 in
      subst (SaysOf c) (same_Some _ g p.1) (subst (λ z. Derives c (names into ns (Some n) (thing_of x) z)) (sym (narrower_same c t table v w))
      (subst (λ z. Derives c (names into ns (Some n) (thing_of x) (narrower c.parents v z))) visible
      (subst (λ z. Derives c (names z ns (Some n) (thing_of x) (narrower c.parents v u.visibility))) parent
      (copies u is glob stand (subst (λ z. Derives c (names z ns (Some n) (thing_of x) v)) (eqb-true home from b.0) named)
      (sym (sees_same c t table u.parent v) ∙ ap (λ z. module_sees t.parents.items z v) parent ∙ b.1) (subst (λ z. Hides c z ns n → ⊥) (sym parent) (not_hides c t table into ns n a.1))))))
  copy_says from into w (EveryName home ns v) g named (i, u, is, glob, parent, visible, stand) e =
      let p = if_source ((home == from) && module_sees t.parents.items into v) (Some (EveryName into ns (narrower t.parents.items v w))) g e in
      let b = and_parts (home == from) (module_sees t.parents.items into v) p.0 in
      subst (SaysOf c) (same_Some _ g p.1) (subst (λ z. Derives c (names into ns None unseen z)) (sym (narrower_same c t table v w))
      (subst (λ z. Derives c (names into ns None unseen (narrower c.parents v z))) visible
      (subst (λ z. Derives c (names z ns None unseen (narrower c.parents v u.visibility))) parent
      (copies u is glob stand (subst (λ z. Derives c (names z ns None unseen v)) (eqb-true home from b.0) named)
      (sym (sees_same c t table u.parent v) ∙ ap (λ z. module_sees t.parents.items z v) parent ∙ b.1) tt))))
  copy_says from into w (Stands j l x) g named h e = absurd (none-some g e)
  copy_says from into w (Gives j ns x v) g named h e = absurd (none-some g e)
  copy_says from into w (Copies a b v) g named h e = absurd (none-some g e)

  conclude_says : (f g h : code.Fact.Fact) → SaysOf c f → SaysOf c g → concludes t f g ≡ Some h → SaysOf c h
  unfolding concludes
  conclude_says f (Stands i k (module_thing m)) h a b e = place_says i k m f h a b e
  conclude_says f (Stands i k (Item x)) h a b e = absurd (none-some h e)
  conclude_says f (Stands i k (Scope x)) h a b e = absurd (none-some h e)
  conclude_says f (Stands i k Unseen) h a b e = absurd (none-some h e)
  conclude_says f (Copies from into w) h a b e = copy_says from into w f h a b e
  conclude_says f (Names m ns n x v) h a b e = absurd (none-some h e)
  conclude_says f (EveryName m ns v) h a b e = absurd (none-some h e)
  conclude_says f (Gives i ns x v) h a b e = absurd (none-some h e)

  says : (f : code.Fact.Fact) → Closes t seeds f → SaysOf c f
  says f (given f' has) = let s = begun.begin f' has in subst (SaysOf c) (sym s.2) (begin_says s.0 s.1)
  says f (followed ns f' g h e) = follow_says ns f' g (says f' h) e
  says f (concluded a b g h k e) = conclude_says a b g (says a h) (says b k) e

  -- ---- both

  closes : (f : code.Fact.Fact) → SaysOf c f → Closes t seeds f
  closes (Names m ns n x v) h = subst (λ z. Closes t seeds (Names m ns n z v)) (there_again x) (found c t seeds table begun (names m ns (Some n) (thing_of x) v) h)
  closes (EveryName m ns v) h = (found c t seeds table begun (names m ns None unseen v) h).1
  closes (Stands i k x) h = subst (λ z. Closes t seeds (Stands i k z)) (there_again x) (found c t seeds table begun (stands i k (thing_of x)) h)
  closes (Gives i ns x v) h = subst (λ z. Closes t seeds (Gives i ns z v)) (there_again x) (found c t seeds table begun (gives i ns (thing_of x) v) h)
  closes (Copies from into v) (i, u, is, glob, parent, visible, stand) = subst (λ z. Closes t seeds (Copies from z v)) parent
      (subst (λ z. Closes t seeds (Copies from u.parent z)) visible (glob_copies c t seeds table begun i from u is glob (found c t seeds table begun (stands i (length u.names) (a_module from)) stand)))

pub closes_alike : (c : Crate ℕ ℕ) (t : code.ImportTable.ImportTable) (seeds : List code.Fact.Fact) → ClosesAlike c t seeds
closes_alike c t seeds table begun f = (says c t seeds table begun f, closes c t seeds table begun f)
