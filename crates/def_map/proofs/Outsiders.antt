-- Names of other crates, and `macro_rules`, by numbers.
use Rattle.std.proofs.Common.{◌≡◌, ◌==◌, ◌||◌, ◌+◌, ◌<◌, ℕ, nat_eq, List, [], ◌∷◌, ◌++◌, length, take, map, get_or, Option, Some, None, option_map, refl, sym, ap, ◌∙◌}
use Rattle.std.specs.{Borrow.Bor, List.filter_map, List.list_any, List.cons_option, Option.option_to_list}
use Rattle.std.specs.List.{sum, sum_by}
use Rattle.std.proofs.lemmas.List.{map-append}
use Rattle.std.proofs.lemmas.List.Sums.{sum-map}
use Rattle.std.proofs.lemmas.Option.{none-some, same_Some}
use Rattle.def_map.specs.declared.facts as code
use Rattle.def_map.specs.Closing.{table_import, loop_import}
use Rattle.def_map.specs.Facts.{IsOther}
use Rattle.def_map.specs.Seeding.{macro_count, macro_pairs}
use Rattle.def_map.proofs.Listing.{contains_source, mapped_source}
use Rattle.std.proofs.lemmas.List.Elements.{filter_map-append}
use Rattle.def_map.specs.declared.numbers.Numbers.{Numbers}
use Rattle.def_map.specs.Crates.{Thing, unseen, PathImport}
use Rattle.def_map.specs.CrateView.{other_view}
use Rattle.def_map.specs.Lowering.{number_by, item_by}
use Rattle.def_map.specs.Numbers.{numbered_other}
use Rattle.def_map.proofs.Interning.{mapped_more}

one_other : (q : ℕ) (t : Thing ℕ) (o : Option ℕ) (a : List ℕ) (b : List (ℕ × Thing ℕ)) → list_any (nat_eq q) a ≡ list_any (λ p. q == p.0) b
    → list_any (nat_eq q) (cons_option o a) ≡ list_any (λ p. q == p.0) (cons_option (option_map (λ k. (k, t)) o) b)
one_other q t None a b e = e
one_other q t (Some k) a b e = ap (λ c. nat_eq q k || c) e

pub others_by : (n : Numbers) (q : ℕ) (names : List (Bor (List ℕ)))
    → list_any (nat_eq q) (filter_map (λ (name : Bor (List ℕ)). number_by n name.now) names) ≡ list_any (λ p. q == p.0) (filter_map (numbered_other (number_by n) (item_by n)) (map other_view names))
others_by n q [] = refl
others_by n q (x ∷ xs) = one_other q _ (number_by n x.now) _ _ (others_by n q xs)

-- what a list adds by its next element, of what is kept twice
pub twice_more : {X Y Z W : Type 0} (h : Z → Option W) (g : Y → Option Z) (v : X → Y) (xs : List X) (i : ℕ) (d : X) → i < length xs
    → filter_map h (filter_map g (map v (take (i + 1) xs))) ≡ filter_map h (filter_map g (map v (take i xs))) ++ filter_map h (option_to_list (g (v (get_or xs i d))))
twice_more h g v xs i d low = ap (filter_map h) (mapped_more g v xs i d low) ∙ filter_map-append h (filter_map g (map v (take i xs))) (option_to_list (g (v (get_or xs i d))))

pub one_mapped : {Z W : Type 0} (f : Z → W) (o : Option Z) → map f (option_to_list o) ≡ option_to_list (option_map f o)
one_mapped f None = refl
one_mapped f (Some z) = refl

pub kept_and_mapped_more : {X Y Z W : Type 0} (f : Z → W) (g : Y → Option Z) (v : X → Y) (xs : List X) (i : ℕ) (d : X) → i < length xs
    → map f (filter_map g (map v (take (i + 1) xs))) ≡ map f (filter_map g (map v (take i xs))) ++ option_to_list (option_map f (g (v (get_or xs i d))))
kept_and_mapped_more f g v xs i d low = ap (map f) (mapped_more g v xs i d low) ∙ map-append f (filter_map g (map v (take i xs))) (option_to_list (g (v (get_or xs i d))))
    ∙ ap (λ l. map f (filter_map g (map v (take i xs))) ++ l) (one_mapped f (g (v (get_or xs i d))))

-- names of other crates stand for what is unseen
module _ (n : Numbers) {V : Type 0} (items : V → List (Bor (List ℕ))) (q : ℕ) (x : Thing ℕ) where
  other_unseen : (o : Option ℕ) → option_map {U = ℕ × Thing ℕ} (λ k. (k, unseen)) o ≡ Some (q, x) → x ≡ unseen
  other_unseen None e = absurd (none-some (q, x) e)
  other_unseen (Some k) e = sym (ap (λ (p : ℕ × Thing ℕ). p.1) (same_Some (k, unseen) (q, x) e))

  pub all_unseen : (o : Option V) → IsOther (option_map (filter_map (numbered_other (number_by n) (item_by n))) (option_map (λ v. map other_view (items v)) o)) q x → x ≡ unseen
  all_unseen None e = e
  all_unseen (Some v) has =
      let s = contains_source (numbered_other (number_by n) (item_by n)) (map other_view (items v)) (q, x) has in
      let m = mapped_source other_view (items v) s.0 s.1 in
      other_unseen (number_by n m.0.now) (ap (numbered_other (number_by n) (item_by n)) m.2 ∙ s.2)

-- ---- pairs

pub map_twice : {X Y Z : Type 0} (f : Y → Z) (g : X → Y) (xs : List X) → map f (map g xs) ≡ map (λ x. f (g x)) xs
map_twice f g [] = refl
map_twice f g (x ∷ xs) = ap (λ l. f (g x) ∷ l) (map_twice f g xs)

pub sum_of_map : {X Y : Type 0} (f : Y → ℕ) (g : X → Y) (xs : List X) → sum_by f (map g xs) ≡ sum_by (λ x. f (g x)) xs
sum_of_map f g xs = sym (sum-map f (map g xs)) ∙ ap sum (map_twice f g xs) ∙ sum-map (λ x. f (g x)) xs

pub pairs_of : (macros named : ℕ → List ℕ) → ((n : ℕ) → macros n ≡ named n) → (ws : List code.Import.Import) (us : List (PathImport ℕ)) → map table_import ws ≡ map loop_import us
    → macro_pairs macros ws ≡ sum_by (λ u. macro_count named u.names) us
pairs_of macros named same ws us e =
    sym (sum_of_map (λ (u : PathImport ℕ). macro_count macros u.names) table_import ws) ∙ ap (sum_by (λ (u : PathImport ℕ). macro_count macros u.names)) e
    ∙ sum_of_map (λ (u : PathImport ℕ). macro_count macros u.names) loop_import us ∙ (λ i. sum_by (λ (u : PathImport ℕ). macro_count (λ n. same n i) u.names) us)
