-- What is told of the imports of a crate follows from its parts.
use Rattle.std.proofs.Common.{◌≡◌, ◌↔◌, ◌⊎◌, inl, inr, ⊎_elim, ◌<◌, ◌≤◌, ◌+◌, ℕ, zero, suc, nat_eq, Bool, true, false, List, [], ◌∷◌, ◌++◌, Option, Some, None, slice_get, refl, sym, ap, subst, ◌∙◌, length, arith, map, flat_map, unwrap_or, option_map, eqb-true, eq-eqb, Contains}
use Rattle.std.specs.{List.list_any, Option.option_map_or}
use Rattle.std.proofs.lemmas.Option.{none-some, same_Some, slice_get_within, slice_get-map}
use Rattle.std.proofs.lemmas.Bool.{true≢false}
use Rattle.std.proofs.lemmas.List.{length-append, length-map}
use Rattle.def_map.specs.declared.facts as code
use Rattle.def_map.specs.declared.collect.Collected.{Collected}
use Rattle.def_map.specs.declared.def_map.ResolvedImport.{ResolvedImport}
use Rattle.def_map.specs.declared.sources.Manifest as manifest_code
use Rattle.def_map.specs.Views.{crate_manifest_view, crate_row_view}
use Rattle.def_map.specs.declared.rows.ItemKey.{ItemKey}
use Rattle.def_map.specs.declared.told.{Found.Found, Told.Told}
use Rattle.def_map.specs.declared.verdict.Verdict.{Verdict}
use Rattle.def_map.specs.declared.verdict.Verdict.TheVariants.{Unknown}
use Rattle.def_map.specs.CrateView.{import_view}
use Rattle.def_map.specs.Crates.{Crate, Thing, Binding, a_glob, a_name, underscore, nameless, PathImport}
use Rattle.def_map.specs.Facts.{IsImport}
use Rattle.def_map.specs.Verdicts.{HasNoName, IsPrivate, LeadsTo}
use Rattle.def_map.specs.Numbering.{item_number, is_item_numbered}
use Rattle.def_map.specs.Numbers.{crate_by_numbers, renumbered_import, IsNumbering}
use Rattle.def_map.specs.Closure.{AreClosed, AreWhole}
use Rattle.def_map.specs.Closing.{table_import, loop_import, IsLowered, AreSeeds}
use Rattle.def_map.specs.Found.{verdict_of, AreVerdicts}
use Rattle.def_map.specs.Inner.Told.{verdict_told, verdict_at, AreToldUpto, IsToldAt, AreToldBy, AreAnswers, Answer, resolved_answer, told_answer, collected_crate, rows_answers}
use Rattle.def_map.specs.Private.{private_imports}
use Rattle.def_map.specs.Resolved.{IsTold, named, without_name, IsAnswer, ImportPlace, row_places, AreResolved}
use Rattle.def_map.specs.Tables.{CrateSources, CrateRow, declares, imports, veil, macro_veil, defines_macro, names_crate, rows_of, parents_of, crate_from, crate_of, row_imports}
use Rattle.def_map.specs.Targets.{AreTargetsBy}
use Rattle.def_map.specs.Told.{IsVerdict, AreFactsFound}
use Rattle.def_map.proofs.ReachedItems.{IsKnown}
use Rattle.def_map.proofs.Leading.{targets_hold}
use Rattle.def_map.proofs.CrateNumbers.{import_to}
use Rattle.def_map.proofs.NumberedVerdicts.{from_verdict, private_alike}
use Rattle.def_map.proofs.Outsiders.{map_twice}
use Rattle.def_map.proofs.Privacy.{are_private}
use Rattle.def_map.proofs.Telling.{any_of, of_any, finds_all, told_rightly}

past : {X : Type 0} (xs : List X) (i : ℕ) → i < length xs → slice_get xs i ≡ None → ⊥
past [] i low e = omega (arith, low)
past (x ∷ xs) zero low e = none-some x (sym e)
past (x ∷ xs) (suc i) low e = past xs i (omega (arith, low)) e

got_at : {X : Type 0} (xs : List X) (i : ℕ) → i < length xs → (x : X) × (slice_get xs i ≡ Some x)
got_at {X = X} xs i low = by (slice_get xs i) refl
  where
    by : (o : Option X) → slice_get xs i ≡ o → (x : X) × (slice_get xs i ≡ Some x)
    by None e = absurd (past xs i low e)
    by (Some x) e = (x, e)

get_behind : {X : Type 0} (xs : List X) (y : X) (i : ℕ) (x : X) → slice_get (xs ++ y ∷ []) i ≡ Some x → (slice_get xs i ≡ Some x) ⊎ ((i ≡ length xs) × (y ≡ x))
get_behind [] y zero x e = inr (refl, same_Some y x e)
get_behind [] y (suc i) x e = absurd (none-some x e)
get_behind (z ∷ xs) y zero x e = inl e
get_behind (z ∷ xs) y (suc i) x e = ⊎_elim (λ (h : slice_get xs i ≡ Some x). inl h) (λ (h : (i ≡ length xs) × (y ≡ x)). inr (ap suc h.0, h.1)) (get_behind xs y i x e)

-- ---- by what was found

pub found_more : (f : Found) (count : ℕ) (old new : List Told) (x : Told) → AreToldUpto f count old → IsToldAt f count x → new ≡ old ++ x ∷ [] → AreToldUpto f (count + 1) new
found_more f count old new x so one is = subst (AreToldUpto f (count + 1)) (sym is) (record {
  size = length-append old (x ∷ []) ∙ ap (λ n. n + 1) so.size;
  at = λ i y has. ⊎_elim (λ (h : slice_get old i ≡ Some y). so.at i y h) (λ (h : (i ≡ length old) × (x ≡ y)). subst (IsToldAt f i) h.1 (subst (λ n. IsToldAt f n x) (sym (h.0 ∙ so.size)) one)) (get_behind old x i y has);
})

pub told_by : (f : Found) (us : List (PathImport (List ℕ))) (facts : List code.Fact.Fact) (told : List Told) → map import_view f.imports.now ≡ us → f.closure.now.facts.keys ≡ facts
    → AreVerdicts f.table.now (length f.table.now.imports.items) facts f.verdicts.now → ((i : ℕ) → list_any (nat_eq i) f.hidden.now.keys ≡ list_any (nat_eq i) (private_imports f.table.now facts))
    → AreToldUpto f (length f.imports.now) told → AreToldBy f.table.now f.numbers.now.items.keys facts us told
told_by f us facts told same same_facts verdicts hidden so = record {
  size = so.size ∙ sym (length-map f.imports.now import_view) ∙ ap length same;
  at = λ i x is. let one = so.at i x is in record {
    verdict = λ low. one.verdict ∙ ap (λ l. verdict_at l f.verdicts.now i) same ∙ ap (λ o. option_map_or (λ u. verdict_told u.binding (unwrap_or o Unknown)) (slice_get us i) Unknown) (verdicts.told i low);
    hidden = one.hidden ∙ hidden i;
    targets = subst (λ l. AreTargetsBy f.table.now f.numbers.now.items.keys l i x.targets.items) same_facts one.targets;
  };
}

abbrev is_nameless : {N : Type 0} → Binding N → Bool
is_nameless nameless = true
is_nameless a_glob = false
is_nameless (a_name n) = false
is_nameless underscore = false

told_is : {N I : Type 0} (c : Crate N I) (i : ℕ) (u : PathImport N) (verdict : Verdict) → IsImport c i u → IsVerdict c i verdict → IsTold c i (verdict_told u.binding verdict)
told_is {N = N} c i u verdict is holds = by u.binding refl
  where
    other : (b : Binding N) → (nameless ≡ b → ⊥) → u.binding ≡ b → HasNoName c i → ⊥
    other b apart same (w, is', none) = apart (sym none ∙ ap (λ (z : PathImport N). z.binding) (same_Some w u (sym is' ∙ is)) ∙ same)

    by : (b : Binding N) → u.binding ≡ b → IsTold c i (verdict_told b verdict)
    by nameless same = without_name (u, is, same)
    by a_glob same = named (other a_glob (λ e. true≢false (ap is_nameless e)) same) holds
    by (a_name n) same = named (other (a_name n) (λ e. true≢false (ap is_nameless e)) same) holds
    by underscore same = named (other underscore (λ e. true≢false (ap is_nameless e)) same) holds

module _ {N : Type 0} (number : N → Option ℕ) (items : List ItemKey) (c : Crate N ItemKey) (ok : IsNumbering number (item_number items) c) (t : code.ImportTable.ImportTable) (seeds facts : List code.Fact.Fact)
    (table : IsLowered (crate_by_numbers number (item_number items) c) t) (begun : AreSeeds (crate_by_numbers number (item_number items) c) seeds) (closed : AreClosed t seeds facts) (whole : AreWhole t seeds facts)
    (known : (i : ℕ) (y : Thing ItemKey) → LeadsTo c i y → IsKnown (λ key. is_item_numbered items key ≡ true) y) where
  abbrev e : Crate ℕ ℕ
  e = crate_by_numbers number (item_number items) c

  found : AreFactsFound e facts
  found = finds_all e t seeds facts table begun closed whole

  lengths : length t.imports.items ≡ length c.imports
  lengths = sym (length-map t.imports.items table_import) ∙ ap (λ l. length l) table.imports ∙ length-map e.imports loop_import ∙ length-map c.imports (renumbered_import number (item_number items))

  hidden_is : (i : ℕ) (b : Bool) → b ≡ list_any (nat_eq i) (private_imports t facts) → (b ≡ true) ↔ IsPrivate c i
  hidden_is i b is =
      let hidden = are_private e t facts table found i in
      let alike = private_alike number (item_number items) c ok i in (
        λ yes. let y = any_of (nat_eq i) (private_imports t facts) (sym is ∙ yes) in alike.0 (hidden.0 (subst (Contains (private_imports t facts)) (sym (eqb-true i y.0 y.2)) y.1)),
        λ h. is ∙ of_any (nat_eq i) (private_imports t facts) i (hidden.1 (alike.1 h)) (eq-eqb i i refl),
      )

  pub answers_hold : (told : List Told) → AreToldBy t items facts c.imports told → AreAnswers c told
  answers_hold told by = record {
    size = by.size;
    at = λ i x is.
        let one = by.at i x is in
        let low : i < length c.imports = subst (λ z. i < z) by.size (slice_get_within told i x is) in
        let u = got_at c.imports i low in
        let w = import_to number (item_number items) c ok i u.0 u.1 in
        let verdict = told_is c i u.0 (verdict_of t facts i) u.1 (from_verdict number (item_number items) c ok i (verdict_of t facts i) (told_rightly e t facts table found i w.0 w.1)) in
        record {
          told = subst (IsTold c i) (sym (one.verdict (subst (λ z. i < z) (sym lengths) low) ∙ ap (λ o. option_map_or (λ (z : PathImport N). verdict_told z.binding (verdict_of t facts i)) o Unknown) u.1)) verdict;
          hidden = hidden_is i x.is_private one.hidden;
          leads = targets_hold number items c ok t facts table found known i u.0 x.targets.items u.1 one.targets;
        };
  }

-- ---- rows

places_are : (rows : List CrateRow) (told : List Told) → length (flat_map row_imports rows) ≤ length told → map (λ (a : Answer). a.0) (rows_answers rows told) ≡ flat_map row_places rows
places_are [] told fits = refl
places_are (imports at a v x ∷ rows) [] fits = absurd (omega (arith, fits))
places_are (imports at a v x ∷ rows) (y ∷ told) fits = ap (λ l. (at, a, x) ∷ l) (places_are rows told (omega (arith, fits)))
places_are (declares d ∷ rows) told fits = places_are rows told fits
places_are (veil at v ∷ rows) told fits = places_are rows told fits
places_are (macro_veil ∷ rows) told fits = places_are rows told fits
places_are (defines_macro name key ∷ rows) told fits = places_are rows told fits
places_are (names_crate name ∷ rows) told fits = places_are rows told fits

Told' : List Told → ℕ → Answer → Type 0
Told' told i a = (p : ImportPlace) × (x : Told) × (slice_get told i ≡ Some x) × (told_answer p x ≡ a)

told_at : (rows : List CrateRow) (told : List Told) (i : ℕ) (a : Answer) → slice_get (rows_answers rows told) i ≡ Some a → Told' told i a
unfolding Told'
told_at [] told i a is = absurd (none-some a is)
told_at (imports at b v x ∷ rows) [] i a is = told_at rows [] i a is
told_at (imports at b v x ∷ rows) (y ∷ told) zero a is = ((at, b, x), y, refl, same_Some (told_answer (at, b, x) y) a is)
told_at (imports at b v x ∷ rows) (y ∷ told) (suc i) a is = told_at rows told i a is
told_at (declares d ∷ rows) told i a is = told_at rows told i a is
told_at (veil at v ∷ rows) told i a is = told_at rows told i a is
told_at (macro_veil ∷ rows) told i a is = told_at rows told i a is
told_at (defines_macro name key ∷ rows) told i a is = told_at rows told i a is
told_at (names_crate name ∷ rows) told i a is = told_at rows told i a is

pub collected_same : (s : CrateSources) (collected : Collected) (manifest : manifest_code.Manifest) → crate_manifest_view manifest ≡ s.manifest → collected.parents.items ≡ parents_of s.modules
    → map crate_row_view collected.rows.items ≡ rows_of s → collected_crate collected manifest ≡ crate_of s
collected_same s collected manifest same parents rows = λ i. crate_from (parents i) (same i) (rows i)

pub resolved_hold : (s : CrateSources) (c : Crate (List ℕ) ItemKey) (told : List Told) (resolved : List ResolvedImport) → c ≡ crate_of s → AreAnswers c told → map resolved_answer resolved ≡ rows_answers (rows_of s) told
    → AreResolved s resolved
unfolding Told'
resolved_hold s c told resolved same all so = record {
  places = sym (map_twice (λ (a : Answer). a.0) resolved_answer resolved) ∙ ap (map (λ (a : Answer). a.0)) so ∙ places_are (rows_of s) told fits;
  told = λ i r is. subst (λ z. IsAnswer z i r.verdict r.is_private r.targets.items) same
      (let x = told_at (rows_of s) told i (resolved_answer r) (ap (λ l. slice_get l i) (sym so) ∙ slice_get-map resolved_answer resolved i ∙ ap (option_map resolved_answer) is) in
      subst (λ (a : Answer). IsAnswer c i a.1 a.2 a.3) x.3 (all.at i x.1 x.2));
}
  where
    fits : length (flat_map row_imports (rows_of s)) ≤ length told
    fits = let size : length told ≡ length (flat_map row_imports (rows_of s)) = all.size ∙ ap (λ (z : Crate (List ℕ) ItemKey). length z.imports) same in omega (arith, size)
