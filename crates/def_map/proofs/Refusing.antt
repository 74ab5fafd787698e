-- Why nothing is told of a crate, by why a part of it was refused.
use Rattle.std.proofs.Common.{◌≡◌, ◌<◌, ◌≤◌, ◌==◌, ◌+◌, ℕ, suc, Bool, true, false, List, [], ◌∷◌, Option, Some, None, slice_get, refl, sym, ap, subst, ◌∙◌, length, cond, if◌then◌else◌, option_map, eqb-true, eq-eqb, count_by, sum_by, Contains, arith}
use Rattle.std.specs.{List.filter_map, List.cons_option, Str.bytes_eq}
use Rattle.std.proofs.lemmas.Bool.{true≢false}
use Rattle.std.proofs.lemmas.List.Sums.{sum_by-cons}
use Rattle.std.proofs.lemmas.Option.{none-some, same_Some, slice_get-get_or}
use Rattle.std.proofs.lemmas.Slice.Eq.{bytes_eq-Decides}
use Rattle.module_tree.specs.Modules.{most_modules}
use Rattle.def_map.specs.declared.facts as code
use Rattle.def_map.specs.declared.collect.CollectError.{CollectError}
use Rattle.def_map.specs.declared.collect.CollectError.TheVariants as collect_code
use Rattle.def_map.specs.declared.def_map.DefMapError.{DefMapError}
use Rattle.def_map.specs.declared.def_map.DefMapError.TheVariants.{OutOfMemory, TooManyModules, OutOfOrder, TooManyNames, TooManyItems, TooManyImports, TooManyPairs, TooManyFacts, TooManyJoins}
use Rattle.def_map.specs.declared.closure.ClosureError.{ClosureError}
use Rattle.def_map.specs.declared.closure.ClosureError.TheVariants as closure_code
use Rattle.def_map.specs.declared.numbers.NumbersError.{NumbersError}
use Rattle.def_map.specs.declared.numbers.NumbersError.TheVariants as numbers_code
use Rattle.def_map.specs.declared.seeds.SeedsError.{SeedsError}
use Rattle.def_map.specs.declared.seeds.SeedsError.TheVariants as seeds_code
use Rattle.def_map.specs.declared.rows.ItemKey.{ItemKey}
use Rattle.def_map.specs.Closing.{IsLowered, AreSeeds}
use Rattle.def_map.specs.Closure.{Closes, HasTooManyFacts, HasTooManyJoins}
use Rattle.def_map.specs.Crates.{Crate, PathImport}
use Rattle.def_map.specs.Numbering.{path_names, asked_items}
use Rattle.def_map.specs.Numbers.{crate_by_numbers, renumbered_import, numbered_macro, IsNumbering}
use Rattle.def_map.specs.Refused.{macros_called, macro_pair_count, IsCrateRefused, AreImportsRefused, collect_error, numbers_error, seeds_error, closure_error}
use Rattle.def_map.specs.Seeding.{macro_count, macro_named, macros_named, pair_count}
use Rattle.def_map.specs.ModuleOrder.{are_behind}
use Rattle.def_map.specs.Tables.{CrateSources, crate_of, parents_of}
use Rattle.std.proofs.lemmas.List.Elements.{All-contains}
use Rattle.def_map.proofs.LoopFacts.{closes_alike}
use Rattle.def_map.proofs.Counting.{counted_of}
use Rattle.def_map.proofs.Listing.{contains_here, contains_there}
use Rattle.def_map.proofs.Outsiders.{sum_of_map}

sum_same : {X : Type 0} (f g : X → ℕ) (xs : List X) → ((x : X) → Contains xs x → f x ≡ g x) → sum_by f xs ≡ sum_by g xs
sum_same f g [] same = refl
sum_same f g (x ∷ xs) same = sum_by-cons f x xs ∙ ap (λ n. n + sum_by f xs) (same x (contains_here x xs))
    ∙ ap (λ n. g x + n) (sum_same f g xs (λ y has. same y (contains_there x xs y has))) ∙ sym (sum_by-cons g x xs)

pub numbers_refused : (c : Crate (List ℕ) ItemKey) (err : NumbersError) → (err ≡ numbers_code.TooManyNames → 4294967296 < length (path_names c)) → (err ≡ numbers_code.TooManyItems → 4294967296 < length (asked_items c)) → IsCrateRefused c (numbers_error err)
numbers_refused c numbers_code.OutOfMemory names items = tt
numbers_refused c numbers_code.TooManyNames names items = names refl
numbers_refused c numbers_code.TooManyItems names items = items refl

module _ (number : List ℕ → Option ℕ) (item : ItemKey → ℕ) (c : Crate (List ℕ) ItemKey) (ok : IsNumbering number item c) where
  abbrev e : Crate ℕ ℕ
  e = crate_by_numbers number item c

  -- ---- pairs of imports and macros

  module _ (n : List ℕ) (k : ℕ) (is : number n ≡ Some k) where
    called : List (List ℕ × ItemKey) → ℕ
    called ms = length (filter_map (macro_named k) (filter_map (numbered_macro number item) ms))

    agrees : (name : List ℕ) → number name ≡ Some k → bytes_eq n name ≡ true
    agrees name h = (bytes_eq-Decides n name).1 (ok.different n name k is h)

    differs : (name : List ℕ) → (number name ≡ Some k → ⊥) → bytes_eq n name ≡ false
    differs name never = by (bytes_eq n name) refl
      where
        by : (b : Bool) → bytes_eq n name ≡ b → b ≡ false
        by true h = absurd (never (ap number (sym ((bytes_eq-Decides n name).0 h)) ∙ is))
        by false h = refl

    one_called : (p : List ℕ × ItemKey) (ms : List (List ℕ × ItemKey)) → called (p ∷ ms) ≡ cond (bytes_eq n p.0) 1 0 + called ms
    unfolding called
    one_called p ms = by (number p.0) refl
      where
        none_more : (m : ℕ) → m ≡ 0 + m
        none_more m = omega arith

        one_more : (m : ℕ) → suc m ≡ 1 + m
        one_more m = omega arith

        counted : (b : Bool) → bytes_eq n p.0 ≡ b → cond b 1 0 + called ms ≡ cond (bytes_eq n p.0) 1 0 + called ms
        counted b h = sym (ap (λ (x : Bool). cond x 1 0 + called ms) h)

        by_name : (j : ℕ) → number p.0 ≡ Some j → (b : Bool) → (k == j) ≡ b → length (filter_map (macro_named k) ((j, item p.1) ∷ (filter_map (numbered_macro number item) ms))) ≡ cond (bytes_eq n p.0) 1 0 + called ms
        by_name j h true e' =
            ap (λ (b : Bool). length (cons_option (if b then Some (item p.1) else None) (filter_map (macro_named k) (filter_map (numbered_macro number item) ms)))) e'
            ∙ one_more (called ms) ∙ counted true (agrees p.0 (h ∙ ap Some (sym (eqb-true k j e'))))
        by_name j h false e' =
            ap (λ (b : Bool). length (cons_option (if b then Some (item p.1) else None) (filter_map (macro_named k) (filter_map (numbered_macro number item) ms)))) e'
            ∙ none_more (called ms) ∙ counted false (differs p.0 (λ h'. true≢false (sym (eq-eqb k j (same_Some k j (sym h' ∙ h))) ∙ e')))

        by : (o : Option ℕ) → number p.0 ≡ o → length (filter_map (macro_named k) (cons_option (option_map (λ m. (m, item p.1)) o) (filter_map (numbered_macro number item) ms))) ≡ cond (bytes_eq n p.0) 1 0 + called ms
        by None h = none_more (called ms) ∙ counted false (differs p.0 (λ h'. none-some k (sym h ∙ h')))
        by (Some j) h = by_name j h (k == j) refl

    all_called : (ms : List (List ℕ × ItemKey)) → called ms ≡ count_by (λ p. bytes_eq n p.0) ms
    unfolding called
    all_called [] = refl
    all_called (p ∷ ms) = one_called p ms ∙ ap (λ m. cond (bytes_eq n p.0) 1 0 + m) (all_called ms) ∙ sym (sum_by-cons (λ q. cond (bytes_eq n q.0) 1 0) p ms)

  path_called : (names : List (List ℕ)) → ((n : List ℕ) → Contains names n → (k : ℕ) × (number n ≡ Some k)) → macro_count (macros_named e) (filter_map number names) ≡ macros_called c.macro_rules names
  unfolding called
  path_called [] all = refl
  path_called (n ∷ []) all =
      let (k, is) = all n (contains_here n []) in
      ap (λ o. macro_count (macros_named e) (cons_option o [])) is ∙ all_called n k is c.macro_rules
  path_called (n ∷ (m ∷ ns)) all =
      let (k, is) = all n (contains_here n (m ∷ ns)) in
      let (j, is') = all m (contains_there n (m ∷ ns) m (contains_here m ns)) in
      ap (λ o. macro_count (macros_named e) (cons_option o (filter_map number (m ∷ ns)))) is ∙ ap (λ o. macro_count (macros_named e) (k ∷ cons_option o (filter_map number ns))) is'

  pairs_same : pair_count e ≡ macro_pair_count c
  pairs_same = sum_of_map (λ (u : PathImport ℕ). macro_count (macros_named e) u.names) (renumbered_import number item) c.imports
      ∙ sum_same (λ u. macro_count (macros_named e) (filter_map number u.names)) (λ u. macros_called c.macro_rules u.names) c.imports
      (λ u has. path_called u.names (λ n in'. let at = place c.imports u has in ok.asked at.0 u n at.1 in'))
    where
      place : {X : Type 0} (xs : List X) (x : X) → Contains xs x → (i : ℕ) × (slice_get xs i ≡ Some x)
      place xs x (i, low, is) = (i, slice_get-get_or xs i x low ∙ ap Some is)

  pub pairs_few : pair_count e ≤ 2097152 → macro_pair_count c ≤ 2097152
  pairs_few few = subst (λ n. n ≤ 2097152) pairs_same few

  pub seeds_refused : (err : SeedsError)
      → (err ≡ seeds_code.TooManyImports → 4294967296 < length c.imports) → (err ≡ seeds_code.TooManyPairs → 2097152 < pair_count e) → IsCrateRefused c (seeds_error err)
  seeds_refused seeds_code.OutOfMemory many pairs = tt
  seeds_refused seeds_code.TooManyImports many pairs = many refl
  seeds_refused seeds_code.TooManyPairs many pairs = subst (λ n. 2097152 < n) pairs_same (pairs refl)

  pub closure_refused : (t : code.ImportTable.ImportTable) (seeds : List code.Fact.Fact) (err : ClosureError) → IsLowered e t → AreSeeds e seeds
      → (err ≡ closure_code.TooManyFacts → HasTooManyFacts t seeds) → (err ≡ closure_code.TooManyJoins → HasTooManyJoins t seeds) → IsCrateRefused c (closure_error err)
  closure_refused t seeds closure_code.OutOfMemory lowered begun facts joins = tt
  closure_refused t seeds closure_code.TooManyFacts lowered begun facts joins =
      let found = facts refl in
      let d = counted_of number item c ok found.0.facts (λ g has. (closes_alike e t seeds lowered begun g).0 (All-contains (Closes t seeds) found.0.facts g found.0.closed has)) found.0.different in
      (d.0, subst (λ n. 2097152 < n) d.1 found.1)
  closure_refused t seeds closure_code.TooManyJoins lowered begun facts joins =
      (record { number = number; item = item; table = t; seeds = seeds; numbering = ok; lowered = lowered; begun = begun }, joins refl)

pub memory_refused : (c : Crate (List ℕ) ItemKey) (err : DefMapError) → err ≡ OutOfMemory → IsCrateRefused c err
memory_refused c err same = subst (IsCrateRefused c) (sym same) tt

-- ---- of all its parts

pub collect_refused : (s : CrateSources) (err : CollectError) → (err ≡ collect_code.TooManyModules → most_modules < length s.modules) → (err ≡ collect_code.OutOfOrder → are_behind 0 (parents_of s.modules) ≡ false)
    → AreImportsRefused s (collect_error err)
collect_refused s collect_code.OutOfMemory many unordered = tt
collect_refused s collect_code.TooManyModules many unordered = many refl
collect_refused s collect_code.OutOfOrder many unordered = unordered refl

pub crate_refused : (s : CrateSources) (c : Crate (List ℕ) ItemKey) (err : DefMapError) → c ≡ crate_of s → IsCrateRefused c err → AreImportsRefused s err
crate_refused s c OutOfMemory same h = tt
crate_refused s c TooManyModules same h = absurd h
crate_refused s c OutOfOrder same h = absurd h
crate_refused s c TooManyNames same h = subst (λ z. IsCrateRefused z TooManyNames) same h
crate_refused s c TooManyItems same h = subst (λ z. IsCrateRefused z TooManyItems) same h
crate_refused s c TooManyImports same h = subst (λ z. IsCrateRefused z TooManyImports) same h
crate_refused s c TooManyPairs same h = subst (λ z. IsCrateRefused z TooManyPairs) same h
crate_refused s c TooManyFacts same h = subst (λ z. IsCrateRefused z TooManyFacts) same h
crate_refused s c TooManyJoins same h = subst (λ z. IsCrateRefused z TooManyJoins) same h

pub sources_memory_refused : (s : CrateSources) (err : DefMapError) → err ≡ OutOfMemory → AreImportsRefused s err
sources_memory_refused s err same = subst (AreImportsRefused s) (sym same) tt
