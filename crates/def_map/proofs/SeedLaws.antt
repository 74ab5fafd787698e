-- The list of seeds is what rules 1 to 4 give.
use Rattle.std.proofs.Common.{◌≡◌, ◌↔◌, ◌==◌, ◌+◌, ◌<◌, ⊎_elim, ℕ, zero, suc, Bool, true, false, not, List, [], ◌∷◌, ◌++◌, length, map, take, Option, Some, None, option_map, slice_get, if◌then◌else◌, refl, sym, ap, subst, ◌∙◌, arith, append_assoc, ◌||◌}
use Rattle.std.specs.{List.list_any, List.Contains, Option.option_map_or, Option.option_to_list}
use Rattle.std.proofs.lemmas.Bool.{eqb-true, false≢true}
use Rattle.std.proofs.lemmas.List.{append-nil, take_more, length-take}
use Rattle.std.proofs.lemmas.List.Elements.{Contains-append_left, Contains-append_right, Contains-append_cases}
use Rattle.std.proofs.lemmas.List.Folds.{list_any_at}
use Rattle.std.proofs.lemmas.Option.{none-some, same_Some, slice_get-map, slice_get_within, get_or_from_slice_get}
use Rattle.def_map.specs.declared.kinds.{Namespace.Namespace, PathStart.PathStart, Visibility.Visibility}
use Rattle.def_map.specs.declared.kinds.Namespace.TheVariants.{Types, Values, Macros}
use Rattle.def_map.specs.declared.kinds.PathStart.TheVariants.{Crate as from_root, Super, Plain, Abs}
use Rattle.def_map.specs.declared.kinds.Visibility.TheVariants.{Public, Module}
use Rattle.def_map.specs.declared.facts as code
use Rattle.def_map.specs.declared.facts.Fact.TheVariants.{Stands, Gives}
use Rattle.def_map.specs.declared.facts.Thing.TheVariants.{Module as module_thing, Unseen}
use Rattle.def_map.specs.Closing.{loop_fact, loop_import, table_import, loop_binding, Begins, by_declaration, by_veil, by_start, by_first, AreSeeds}
use Rattle.def_map.specs.Closure.{hides}
use Rattle.def_map.specs.Crates.{Crate, Thing, a_module, an_item, unseen, Binding, a_glob, a_name, underscore, nameless, PathImport, Hides}
use Rattle.def_map.specs.Facts.{Fact, names, stands, gives, is_inner_name, is_wanted, read_inner, reading, IsImport, import_start, may_leave, IsOther, IsElsewhere, an_other, any_other, a_macro}
use Rattle.def_map.specs.Seeding.{is_other_name, macro_named, macros_named, is_plain, declaration_seed, veil_seed, macro_seed, is_path_hidden, inner_seed, last_seed, last_seeds, gives_macros, macro_seeds, name_seeds, first_seeds, start_seed, import_seeds, imports_seeds, all_seeds, started_import}
use Rattle.def_map.proofs.Deciding.{both_of, both, itself}
use Rattle.def_map.proofs.Listing.{contains_here, contains_there, contains_cases, not_in_nil, contains_kept, contains_source, contains_mapped, mapped_source}

-- ---- options and tests

abbrev Fact' : Type 0
Fact' = code.Fact.Fact

in_option : {X : Type 0} (o : Option X) (x : X) → o ≡ Some x → Contains (option_to_list o) x
in_option o x e = subst (λ p. Contains (option_to_list p) x) (sym e) (contains_here x [])

of_option : {X : Type 0} (o : Option X) (x : X) → Contains (option_to_list o) x → o ≡ Some x
of_option None x has = absurd (not_in_nil x has)
of_option (Some y) x has = ⊎_elim (λ (e : y ≡ x). ap Some e) (λ (h : Contains [] x). absurd (not_in_nil x h)) (contains_cases y [] x has)

if_some : {X : Type 0} (b : Bool) (x y : X) → (if b then Some x else None) ≡ Some y → (b ≡ true) × (x ≡ y)
if_some true x y e = (refl, same_Some x y e)
if_some false x y e = absurd (none-some y e)

in_if : {X : Type 0} (b : Bool) (xs : List X) (x : X) → Contains (if b then xs else []) x → (b ≡ true) × Contains xs x
in_if true xs x has = (refl, has)
in_if false xs x has = absurd (not_in_nil x has)

not_true : (b : Bool) → not b ≡ true → b ≡ false
not_true false e = refl
not_true true e = absurd (false≢true e)

not_false : (b : Bool) → b ≡ false → not b ≡ true
not_false b e = ap not e

plain_start : (s : PathStart) → is_plain s ≡ true → s ≡ Plain
plain_start Plain e = refl
plain_start from_root e = absurd (false≢true e)
plain_start (Super k) e = absurd (false≢true e)
plain_start Abs e = absurd (false≢true e)

named_in : (n : ℕ) (p : ℕ × ℕ) (x : ℕ) → macro_named n p ≡ Some x → p ≡ (n, x)
named_in n p x e = let s = if_some (n == p.0) p.1 x e in λ i. (sym (eqb-true n p.0 s.0) i, s.1 i)

module _ (c : Crate ℕ ℕ) (t : code.ImportTable.ImportTable) (lowered : (m : ℕ) (ns : Namespace) (n : ℕ) → (hides t m ns n ≡ true) ↔ Hides c m ns n)
    (all_unseen : (n : ℕ) (x : Thing ℕ) → IsOther c.others n x → x ≡ unseen) where
  abbrev hidden : PathImport ℕ → Namespace → ℕ → Bool
  hidden = is_path_hidden c (is_other_name c) (macros_named c) (hides t)

  abbrev IsFreeAt : PathImport ℕ → Namespace → ℕ → Type 0
  IsFreeAt u ns n = (m : ℕ) → import_start c u ≡ Some m → Hides c m ns n → ⊥

  free_of : (u : PathImport ℕ) (ns : Namespace) (n : ℕ) → hidden u ns n ≡ false → IsFreeAt u ns n
  free_of u ns n e m is hides_it = false≢true (sym (sym (ap (λ o. option_map_or (λ m. hides t m ns n) o false) is) ∙ e) ∙ (lowered m ns n).1 hides_it)

  hidden_of : (u : PathImport ℕ) (ns : Namespace) (n : ℕ) → IsFreeAt u ns n → hidden u ns n ≡ false
  hidden_of u ns n free = by (import_start c u) refl
    where
      at : (m : ℕ) → import_start c u ≡ Some m → (b : Bool) → hides t m ns n ≡ b → b ≡ false
      at m is false e = refl
      at m is true e = absurd (free m is ((lowered m ns n).0 e))

      by : (o : Option ℕ) → import_start c u ≡ o → option_map_or (λ m. hides t m ns n) o false ≡ false
      by None is = refl
      by (Some m) is = at m is (hides t m ns n) refl

  -- ---- names of other crates
  other_true : (others : Option (List (ℕ × Thing ℕ))) (n : ℕ) (x : Thing ℕ) → IsOther others n x → option_map_or (list_any (λ p. n == p.0)) others true ≡ true
  other_true None n x is = refl
  other_true (Some others) n x (k, low, e) = list_any_at (λ (p : ℕ × Thing ℕ). n == p.0) others k (n, x) low (subst (λ (p : ℕ × Thing ℕ). (n == p.0) ≡ true) (sym e) (itself n))

  some_other : (others : List (ℕ × Thing ℕ)) (n : ℕ) → list_any (λ p. n == p.0) others ≡ true → (x : Thing ℕ) × Contains others (n, x)
  some_other [] n h = absurd (false≢true h)
  some_other (p ∷ ps) n h = by (n == p.0) refl (some_other ps n)
    where
      by : (b : Bool) → (n == p.0) ≡ b → (list_any (λ q. n == q.0) ps ≡ true → (x : Thing ℕ) × Contains ps (n, x)) → (x : Thing ℕ) × Contains (p ∷ ps) (n, x)
      by true e more = (p.1, subst (λ k. Contains (p ∷ ps) (k, p.1)) (sym (eqb-true n p.0 e)) (contains_here p ps))
      by false e more = let s = more (sym (ap (λ b. b || list_any (λ (q : ℕ × Thing ℕ). n == q.0) ps) e) ∙ h) in (s.0, contains_there p ps (n, s.0) s.1)

  is_other_of : (others : Option (List (ℕ × Thing ℕ))) (n : ℕ) → option_map_or (list_any (λ p. n == p.0)) others true ≡ true → (x : Thing ℕ) × IsOther others n x
  is_other_of None n e = (unseen, refl)
  is_other_of (Some others) n e = some_other others n e

  -- ---- what an import gives

  abbrev seeds_at : ℕ → PathImport ℕ → List Fact'
  seeds_at = import_seeds c (is_other_name c) (macros_named c) (hides t)

  abbrev firsts_at : ℕ → PathImport ℕ → List Fact'
  firsts_at = first_seeds c (is_other_name c) (macros_named c) (hides t)

  abbrev named_at : ℕ → PathImport ℕ → ℕ → List Fact'
  named_at = name_seeds c (is_other_name c) (macros_named c) (hides t)

  -- a fact of the loop is one that rules 1 to 4 give
  abbrev IsBegun : Fact' → Type 0
  IsBegun f = (g : Fact ℕ ℕ) × Begins c g × (f ≡ loop_fact g)

  begins_last : (i : ℕ) (u : PathImport ℕ) (ns : Namespace) (n : ℕ) (f : Fact') → IsImport c i u → may_leave u.start ≡ true → slice_get u.names 0 ≡ Some n → is_inner_name u 0 ≡ false
      → last_seed c (is_other_name c) (macros_named c) (hides t) i u n ns ≡ Some f → IsBegun f
  begins_last i u ns n f is may first last e =
      let s = if_some _ (Gives i ns Unseen Public) f e in let w = both_of _ _ s.0 in (
        gives i ns unseen Public,
        by_first i u is may first (any_other ns last) (free_of u ns n (not_true _ w.1))
            (ap (λ b. if b then read_inner i 0 ns unseen else (if is_wanted u ns then Some (gives i ns unseen Public) else None)) last ∙ ap (λ b. if b then Some (gives i ns unseen Public) else None) w.0),
        sym s.1,
      )

  begins_named : (i : ℕ) (u : PathImport ℕ) (n : ℕ) (f : Fact') → IsImport c i u → may_leave u.start ≡ true → slice_get u.names 0 ≡ Some n → Contains (named_at i u n) f → IsBegun f
  begins_named i u n f is may first = by (is_inner_name u 0) refl
    where
      inner : is_inner_name u 0 ≡ true → inner_seed c (is_other_name c) (macros_named c) (hides t) i u n ≡ Some f → IsBegun f
      inner leads e =
          let s = if_some _ (Stands i 1 Unseen) f e in let w = both_of _ _ s.0 in let o = is_other_of c.others n w.0 in (
            stands i 1 unseen,
            by_first i u is may first (an_other leads (subst (IsOther c.others n) (all_unseen n o.0 o.1) o.1)) (free_of u Types n (not_true _ w.1))
                (ap (λ b. if b then read_inner i 0 Types unseen else (if is_wanted u Types then Some (gives i Types unseen Public) else None)) leads),
            sym s.1,
          )

      macros : is_inner_name u 0 ≡ false → Contains (macro_seeds c (is_other_name c) (macros_named c) (hides t) i u n) f → IsBegun f
      macros last has =
          let g = in_if (gives_macros c (is_other_name c) (macros_named c) (hides t) u n) (map (macro_seed i) (macros_named c n)) f has in
          let w = both_of _ _ g.0 in let v = both_of _ _ w.0 in
          let x = mapped_source (macro_seed i) (macros_named c n) f g.1 in let p = contains_source (macro_named n) c.macro_rules x.0 x.1 in (
            gives i Macros (an_item x.0) (Module 0),
            by_first i u is may first (a_macro x.0 (plain_start u.start v.0) last (subst (Contains c.macro_rules) (named_in n p.0 x.0 p.2) p.1)) (free_of u Macros n (not_true _ w.1))
                (ap (λ b. if b then read_inner i 0 Macros (an_item x.0) else (if is_wanted u Macros then Some (gives i Macros (an_item x.0) (Module 0)) else None)) last
                ∙ ap (λ b. if b then Some (gives i Macros (an_item x.0) (Module 0)) else None) v.1),
            sym x.2,
          )

      lasts : is_inner_name u 0 ≡ false → Contains (last_seeds c (is_other_name c) (macros_named c) (hides t) i u n) f → IsBegun f
      lasts last has =
          let one = λ (ns : Namespace) (h : Contains (option_to_list (last_seed c (is_other_name c) (macros_named c) (hides t) i u n ns)) f). begins_last i u ns n f is may first last (of_option _ f h) in
          ⊎_elim (λ (h : Contains (option_to_list (last_seed c (is_other_name c) (macros_named c) (hides t) i u n Types) ++ option_to_list (last_seed c (is_other_name c) (macros_named c) (hides t) i u n Values)) f).
          ⊎_elim (one Types) (one Values) (Contains-append_cases _ _ f h)) (one Macros) (Contains-append_cases _ _ f has)

      by : (b : Bool) → is_inner_name u 0 ≡ b
          → Contains (if b then option_to_list (inner_seed c (is_other_name c) (macros_named c) (hides t) i u n)
          else last_seeds c (is_other_name c) (macros_named c) (hides t) i u n ++ macro_seeds c (is_other_name c) (macros_named c) (hides t) i u n) f → IsBegun f
      by true leads has = inner leads (of_option _ f has)
      by false last has = ⊎_elim (lasts last) (macros last) (Contains-append_cases _ _ f has)

  begins_first : (i : ℕ) (u : PathImport ℕ) (f : Fact') → IsImport c i u → Contains (firsts_at i u) f → IsBegun f
  begins_first i u f is has = let g = in_if (may_leave u.start) _ f has in by g.0 (slice_get u.names 0) refl g.1
    where
      by : may_leave u.start ≡ true → (o : Option ℕ) → slice_get u.names 0 ≡ o → Contains (option_map_or (named_at i u) o []) f → IsBegun f
      by may None e h = absurd (not_in_nil f h)
      by may (Some n) e h = begins_named i u n f is may e h

  begins_start : (i : ℕ) (u : PathImport ℕ) (f : Fact') → IsImport c i u → start_seed c (is_other_name c) (macros_named c) (hides t) i u ≡ Some f → IsBegun f
  begins_start i u f is = by (import_start c u) refl
    where
      by : (o : Option ℕ) → import_start c u ≡ o → option_map_or (λ m. Some (Stands i 0 (module_thing m))) o None ≡ Some f → IsBegun f
      by None e h = absurd (none-some f h)
      by (Some m) e h = (stands i 0 (a_module m), by_start u is e, sym (same_Some _ f h))

  begins_at : (i : ℕ) (u : PathImport ℕ) (f : Fact') → IsImport c i u → Contains (seeds_at i u) f → IsBegun f
  begins_at i u f is has =
      ⊎_elim (λ (h : Contains (option_to_list (start_seed c (is_other_name c) (macros_named c) (hides t) i u)) f). begins_start i u f is (of_option _ f h)) (begins_first i u f is)
      (Contains-append_cases (option_to_list (start_seed c (is_other_name c) (macros_named c) (hides t) i u)) (firsts_at i u) f has)

  -- ---- of all imports

  abbrev all_at : ℕ → List (PathImport ℕ) → List Fact'
  all_at = imports_seeds c (is_other_name c) (macros_named c) (hides t)

  imports_source : (j : ℕ) (us : List (PathImport ℕ)) (f : Fact') → Contains (all_at j us) f → (k : ℕ) × (u : PathImport ℕ) × (slice_get us k ≡ Some u) × Contains (seeds_at (j + k) u) f
  imports_source j [] f has = absurd (not_in_nil f has)
  imports_source j (u ∷ us) f has =
      let zero_more : j ≡ j + 0 = omega arith in
      ⊎_elim (λ (h : Contains (seeds_at j u) f). (0, u, refl, subst (λ i. Contains (seeds_at i u) f) zero_more h))
      (λ (h : Contains (all_at (j + 1) us) f). let s = imports_source (j + 1) us f h in let one_more : j + 1 + s.0 ≡ j + suc s.0 = omega arith in
      (suc s.0, s.1, s.2, subst (λ i. Contains (seeds_at i s.1) f) one_more s.3)) (Contains-append_cases (seeds_at j u) (all_at (j + 1) us) f has)

  imports_has : (j : ℕ) (us : List (PathImport ℕ)) (k : ℕ) (u : PathImport ℕ) (f : Fact') → slice_get us k ≡ Some u → Contains (seeds_at (j + k) u) f → Contains (all_at j us) f
  imports_has j [] k u f is has = absurd (none-some u is)
  imports_has j (v ∷ us) zero u f is has =
      let zero_more : j + 0 ≡ j = omega arith in
      Contains-append_left (seeds_at j v) (all_at (j + 1) us) f (subst (λ w. Contains (seeds_at j w) f) (sym (same_Some v u is)) (subst (λ i. Contains (seeds_at i u) f) zero_more has))
  imports_has j (v ∷ us) (suc k) u f is has =
      let one_more : j + suc k ≡ j + 1 + k = omega arith in
      Contains-append_right (seeds_at j v) (all_at (j + 1) us) f (imports_has (j + 1) us k u f is (subst (λ i. Contains (seeds_at i u) f) one_more has))

  abbrev everything : List Fact'
  everything = all_seeds c (is_other_name c) (macros_named c) (hides t)

  abbrev stated : List Fact'
  stated = map declaration_seed c.declarations ++ map veil_seed c.veils

  begins_all : (f : Fact') → Contains everything f → IsBegun f
  begins_all f has =
      ⊎_elim (λ (h : Contains stated f). ⊎_elim
      (λ (d : Contains (map declaration_seed c.declarations) f). let s = mapped_source declaration_seed c.declarations f d in (names s.0.parent s.0.namespace (Some s.0.name) s.0.thing s.0.visibility, by_declaration s.0 s.1, sym s.2))
      (λ (v : Contains (map veil_seed c.veils) f). let s = mapped_source veil_seed c.veils f v in (names s.0.parent s.0.namespace None unseen s.0.visibility, by_veil s.0 s.1, sym s.2))
      (Contains-append_cases (map declaration_seed c.declarations) (map veil_seed c.veils) f h))
      (λ (h : Contains (all_at 0 c.imports) f). let s = imports_source 0 c.imports f h in let from_zero : 0 + s.0 ≡ s.0 = omega arith in begins_at s.0 s.1 f s.2 (subst (λ i. Contains (seeds_at i s.1) f) from_zero s.3)) (Contains-append_cases stated (all_at 0 c.imports) f has)

  -- ---- all that rules 1 to 4 give is there

  at_import : (i : ℕ) (u : PathImport ℕ) (f : Fact') → IsImport c i u → Contains (seeds_at i u) f → Contains everything f
  at_import i u f is has = let from_zero : i ≡ 0 + i = omega arith in Contains-append_right stated (all_at 0 c.imports) f (imports_has 0 c.imports i u f is (subst (λ k. Contains (seeds_at k u) f) from_zero has))

  at_first : (i : ℕ) (u : PathImport ℕ) (n : ℕ) (f : Fact') → IsImport c i u → may_leave u.start ≡ true → slice_get u.names 0 ≡ Some n → Contains (named_at i u n) f → Contains everything f
  at_first i u n f is may first has =
      at_import i u f is (Contains-append_right (option_to_list (start_seed c (is_other_name c) (macros_named c) (hides t) i u)) (firsts_at i u) f
      (subst (λ (b : Bool). Contains (if b then option_map_or (named_at i u) (slice_get u.names 0) [] else []) f) (sym may)
      (subst (λ o. Contains (option_map_or (named_at i u) o []) f) (sym first) has)))

  abbrev as_inner : ℕ → PathImport ℕ → ℕ → List Fact'
  as_inner i u n = option_to_list (inner_seed c (is_other_name c) (macros_named c) (hides t) i u n)

  abbrev as_last : ℕ → PathImport ℕ → ℕ → List Fact'
  as_last i u n = last_seeds c (is_other_name c) (macros_named c) (hides t) i u n

  abbrev as_macro : ℕ → PathImport ℕ → ℕ → List Fact'
  as_macro i u n = macro_seeds c (is_other_name c) (macros_named c) (hides t) i u n

  when_inner : (i : ℕ) (u : PathImport ℕ) (n : ℕ) (f : Fact') → is_inner_name u 0 ≡ true → Contains (as_inner i u n) f → Contains (named_at i u n) f
  when_inner i u n f leads has = subst (λ (b : Bool). Contains (if b then as_inner i u n else as_last i u n ++ as_macro i u n) f) (sym leads) has

  when_last : (i : ℕ) (u : PathImport ℕ) (n : ℕ) (f : Fact') → is_inner_name u 0 ≡ false → Contains (as_last i u n ++ as_macro i u n) f → Contains (named_at i u n) f
  when_last i u n f last has = subst (λ (b : Bool). Contains (if b then as_inner i u n else as_last i u n ++ as_macro i u n) f) (sym last) has

  abbrev a_last : ℕ → PathImport ℕ → ℕ → Namespace → List Fact'
  a_last i u n ns = option_to_list (last_seed c (is_other_name c) (macros_named c) (hides t) i u n ns)

  in_lasts : (i : ℕ) (u : PathImport ℕ) (n : ℕ) (ns : Namespace) (f : Fact') → last_seed c (is_other_name c) (macros_named c) (hides t) i u n ns ≡ Some f → Contains (as_last i u n) f
  in_lasts i u n Types f e = Contains-append_left (a_last i u n Types ++ a_last i u n Values) (a_last i u n Macros) f (Contains-append_left (a_last i u n Types) (a_last i u n Values) f (in_option _ f e))
  in_lasts i u n Values f e = Contains-append_left (a_last i u n Types ++ a_last i u n Values) (a_last i u n Macros) f (Contains-append_right (a_last i u n Types) (a_last i u n Values) f (in_option _ f e))
  in_lasts i u n Macros f e = Contains-append_right (a_last i u n Types ++ a_last i u n Values) (a_last i u n Macros) f (in_option _ f e)

  -- what the first name gives that stands for a thing elsewhere
  whole_first : (i : ℕ) (u : PathImport ℕ) (n : ℕ) (ns : Namespace) (x : Thing ℕ) (v : Visibility) (g : Fact ℕ ℕ) → IsElsewhere c u n ns x v → hidden u ns n ≡ false → reading i u 0 ns x v ≡ Some g
      → Contains (named_at i u n) (loop_fact g)
  whole_first i u n ns t' v g (an_other {t = x} leads other) free read =
      let is : x ≡ unseen = all_unseen n x other in
      let same : stands i 1 x ≡ g = same_Some _ g (sym (ap (λ (b : Bool). if b then read_inner i 0 Types x else (if is_wanted u Types then Some (gives i Types x Public) else None)) leads) ∙ read) in
      when_inner i u n (loop_fact g) leads (in_option _ (loop_fact g)
      (ap (λ (b : Bool). if b then Some (Stands i 1 Unseen) else None) (both _ _ (other_true c.others n x other) (not_false _ free)) ∙ ap (λ (h : Fact ℕ ℕ). Some (loop_fact h)) (ap (stands i 1) (sym is) ∙ same)))
  whole_first i u n ns t' v g (any_other k last) free read =
      let s = if_some (is_wanted u k) (gives i k unseen Public) g (sym (ap (λ (b : Bool). if b then read_inner i 0 k unseen else (if is_wanted u k then Some (gives i k unseen Public) else None)) last) ∙ read) in
      when_last i u n (loop_fact g) last (Contains-append_left (as_last i u n) (as_macro i u n) (loop_fact g) (in_lasts i u n k (loop_fact g)
      (ap (λ (b : Bool). if b then Some (Gives i k Unseen Public) else None) (both _ _ s.0 (not_false _ free)) ∙ ap (λ (h : Fact ℕ ℕ). Some (loop_fact h)) s.1)))
  whole_first i u n ns t' v g (a_macro y plain last has) free read =
      let s = if_some (is_wanted u Macros) (gives i Macros (an_item y) (Module 0)) g
      (sym (ap (λ (b : Bool). if b then read_inner i 0 Macros (an_item y) else (if is_wanted u Macros then Some (gives i Macros (an_item y) (Module 0)) else None)) last) ∙ read) in
      let named : Contains (macros_named c n) y = contains_kept (macro_named n) c.macro_rules (n, y) y has (ap (λ (b : Bool). if b then Some y else None) (itself n)) in
      when_last i u n (loop_fact g) last (Contains-append_right (as_last i u n) (as_macro i u n) (loop_fact g)
      (subst (λ (b : Bool). Contains (if b then map (macro_seed i) (macros_named c n) else []) (loop_fact g))
      (sym (both _ _ (both _ _ (ap is_plain plain) s.0) (not_false _ free)))
      (subst (Contains (map (macro_seed i) (macros_named c n))) (ap loop_fact s.1) (contains_mapped (macro_seed i) (macros_named c n) y named))))

  has_all : (g : Fact ℕ ℕ) → Begins c g → Contains everything (loop_fact g)
  has_all g (by_declaration x has) =
      Contains-append_left stated (all_at 0 c.imports) _ (Contains-append_left (map declaration_seed c.declarations) (map veil_seed c.veils) _ (contains_mapped declaration_seed c.declarations x has))
  has_all g (by_veil x has) =
      Contains-append_left stated (all_at 0 c.imports) _ (Contains-append_right (map declaration_seed c.declarations) (map veil_seed c.veils) _ (contains_mapped veil_seed c.veils x has))
  has_all g (by_start {i = i} {m = m} u is e) =
      at_import i u _ is (Contains-append_left (option_to_list (start_seed c (is_other_name c) (macros_named c) (hides t) i u)) (firsts_at i u) _
      (in_option _ _ (ap (λ o. option_map_or (λ m. Some (Stands i 0 (module_thing m))) o None) e)))
  has_all g (by_first {ns = ns} {n = n} {t = x} {v = v} {f = f} i u is may first elsewhere free read) = at_first i u n _ is may first (whole_first i u n ns x v f elsewhere (hidden_of u ns n free) read)

  pub are_seeds : AreSeeds c everything
  are_seeds = record { begin = begins_all; whole = has_all }

-- ---- as far as a loop has come

module _ (c : Crate ℕ ℕ) (other : ℕ → Bool) (macros : ℕ → List ℕ) (hidden : ℕ → Namespace → ℕ → Bool) where
  abbrev of_one : ℕ → PathImport ℕ → List Fact'
  of_one = import_seeds c other macros hidden

  abbrev of_all : ℕ → List (PathImport ℕ) → List Fact'
  of_all = imports_seeds c other macros hidden

  pushed : (j k : ℕ) (us : List (PathImport ℕ)) (u : PathImport ℕ) → k ≡ j + length us → of_all j (us ++ u ∷ []) ≡ of_all j us ++ of_one k u
  pushed j k [] u e = let is : j ≡ k = omega (arith, e) in append-nil (of_one j u) ∙ ap (λ i. of_one i u) is
  pushed j k (v ∷ us) u e =
      let is : k ≡ j + 1 + length us = omega (arith, e) in
      ap (λ l. of_one j v ++ l) (pushed (j + 1) k us u is) ∙ sym (append_assoc (of_one j v) (of_all (j + 1) us) (of_one k u))

  -- what the binding is called does not matter
  any_name : (i parent : ℕ) (start : PathStart) (path : List ℕ) (types : Bool) (v : Visibility) (b : Binding ℕ)
      → of_one i (record { parent = parent; start = start; names = path; binding = loop_binding b; of_types = types; visibility = v })
      ≡ of_one i (record { parent = parent; start = start; names = path; binding = b; of_types = types; visibility = v })
  any_name i parent start path types v a_glob = refl
  any_name i parent start path types v (a_name n) = refl
  any_name i parent start path types v underscore = refl
  any_name i parent start path types v nameless = refl

  of_table : (i : ℕ) (u : PathImport ℕ) (w : code.Import.Import) → table_import w ≡ loop_import u → of_one i (started_import u.start w) ≡ of_one i u
  of_table i u w e =
      (λ j. of_one i (record { parent = (e j).parent; start = u.start; names = (e j).names; binding = (e j).binding; of_types = (e j).of_types; visibility = (e j).visibility }))
      ∙ any_name i u.parent u.start u.names u.of_types u.visibility u.binding

  -- one import more
  pub imports_more : (t : code.ImportTable.ImportTable) → map table_import t.imports.items ≡ map loop_import c.imports → (k : ℕ) (w : code.Import.Import) (u : PathImport ℕ)
      → slice_get t.imports.items k ≡ Some w → slice_get c.imports k ≡ Some u → of_all 0 (take (k + 1) c.imports) ≡ of_all 0 (take k c.imports) ++ of_one k (started_import u.start w)
  imports_more t same k w u at_w at_u =
      let within : k < length c.imports = slice_get_within c.imports k u at_u in
      let is : k ≡ 0 + length (take k c.imports) = omega (arith, length-take k c.imports, within) in
      let e : table_import w ≡ loop_import u = same_Some _ _ (sym (slice_get-map table_import t.imports.items k ∙ ap (option_map table_import) at_w) ∙ ap (λ l. slice_get l k) same ∙ slice_get-map loop_import c.imports k ∙ ap (option_map loop_import) at_u) in
      ap (of_all 0) (take_more c.imports k u within ∙ ap (λ v. take k c.imports ++ v ∷ []) (get_or_from_slice_get c.imports k u u at_u))
      ∙ pushed 0 k (take k c.imports) u is ∙ ap (λ l. of_all 0 (take k c.imports) ++ l) (sym (of_table k u w e))
