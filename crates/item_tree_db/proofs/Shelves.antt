-- What a shelf has at each place.
use Rattle.std.proofs.Common.{◌≡◌, ◌≢◌, ℕ, zero, suc, ◌+◌, ◌<◌, ◌≤◌, Bool, true, false, cond, List, [], ◌∷◌, length, map, set, get_or, Some, None, Option, IfSome, slice_get, refl, sym, ap, subst, ◌∙◌, arith, true≢false}
use Rattle.item_tree_db.proofs.Common.{AllByRecursion, option_map, unwrap_or, keys_of, is_at, is_eq, Ordering, length-map, get_or-map, sorted_head, sorted_tail, slice_get-map, unwrap_or-slice_get, CrateView, Place, Row, place_cmp, TreeFits, settle_all, settled_row, clear_all, empty_row, Shelved, Places, placed_at, syntax_in, row_in, HasPut, set_to, change_at, recast_one, recast_each, IsInOrder, PlacesFit, HasFew, HasFewRows, Walk, walk_over, over_all, rows_in, crate_limit}
use Rattle.item_tree_db.proofs.Places.{IsBelow, equal_of, itself}

-- ---- lists in order

-- no place below the first of a list is in it
none_below : (k : Place) (l : Places) → AllByRecursion (IsBelow k) (keys_of l) → placed_at l k ≡ None
none_below k [] h = refl
none_below k (e ∷ l) h = ap (λ (o : Ordering). cond (is_eq o) (Some e.1) (placed_at l k)) h.0 ∙ none_below k l h.1

not_behind : (e : Place × Shelved) (l : Places) → IsInOrder (e ∷ l) → (q : Place) → is_at (place_cmp q) e.0 ≡ true → placed_at l q ≡ None
not_behind e l s q t = ap (placed_at l) (equal_of q e.0 t) ∙ none_below e.0 l (sorted_head place_cmp e.0 (keys_of l) s)

-- what holds of what each place has, holds of each entry
each : (P : Shelved → Type 0) (l : Places) → IsInOrder l → ((q : Place) → IfSome (placed_at l q) P) → AllByRecursion (λ e. P e.1) l
each P [] s h = tt
each P (e ∷ l) s h = (
  subst (λ (b : Bool). IfSome (cond b (Some e.1) (placed_at l e.0)) P) (itself e.0) (h e.0),
  each P l (sorted_tail place_cmp e.0 (keys_of l) s) (λ q. elim (is_at (place_cmp q) e.0) as (λ b. is_at (place_cmp q) e.0 ≡ b → IfSome (cond b (Some e.1) (placed_at l q)) P → IfSome (placed_at l q) P) [
    | true ↦ λ t g. subst (λ (o : Option Shelved). IfSome o P) (sym (not_behind e l s q t)) tt
    | false ↦ λ t g. g
  ] refl (h q)),
)

-- ---- walks

few_each : (l : Places) → AllByRecursion (λ e. length e.1.rows ≤ crate_limit) l → HasFew (over_all l)
few_each [] h = tt
few_each (e ∷ l) h = (h.0, few_each l h.1)

-- each place of a walk over all has few rows
pub few_over_all : (l : Places) → IsInOrder l → HasFewRows l → HasFew (over_all l)
few_over_all l s h = few_each l (each (λ placed. length placed.rows ≤ crate_limit) l s h)

few_in : (o : Option Shelved) → IfSome o (λ placed. length placed.rows ≤ crate_limit) → length (rows_in o) ≤ crate_limit
few_in None h = omega arith
few_in (Some placed) h = h

-- and of one over these
pub few_over : (l : Places) → HasFewRows l → (places : List Place) → HasFew (walk_over l places)
few_over l h [] = tt
few_over l h (place ∷ places) = (few_in (placed_at l place) (h place), few_over l h places)

-- how many steps a walk over these places makes
abbrev pub steps : Walk → ℕ
steps [] = 0
steps (slot ∷ slots) = length slot.1 + 1 + steps slots

-- ---- one crate

-- what it is brought of each place
abbrev pub fresh_each : (Place → Shelved → Row) → Places → List (Place × Row)
fresh_each r = map (λ e. (e.0, r e.0 e.1))

module _ (n i : ℕ) (r : Place → Shelved → Row) where
  recast_none : (l : Places) (q : Place) (o : Option Shelved) → placed_at l q ≡ None → recast_each n i (fresh_each r l) q o ≡ o
  recast_none [] q o h = refl
  recast_none (e ∷ l) q o h = elim (is_at (place_cmp q) e.0) as (λ b. cond b (Some e.1) (placed_at l q) ≡ None → recast_each n i (fresh_each r l) q (cond b (option_map (recast_one n i (r e.0 e.1)) o) o) ≡ o) [
    | true ↦ λ g. cc
    | false ↦ λ g. recast_none l q o g
  ] h

  -- each place is given its tree once
  pub recast_is : (l : Places) → IsInOrder l → (q : Place) → recast_each n i (fresh_each r l) q (placed_at l q) ≡ option_map (λ placed. recast_one n i (r q placed) placed) (placed_at l q)
  recast_is [] s q = refl
  recast_is (e ∷ l) s q = elim (is_at (place_cmp q) e.0) as (λ b. is_at (place_cmp q) e.0 ≡ b → recast_each n i (fresh_each r l) q (cond b (option_map (recast_one n i (r e.0 e.1)) (cond b (Some e.1) (placed_at l q))) (cond b (Some e.1) (placed_at l q))) ≡ option_map (λ placed. recast_one n i (r q placed) placed) (cond b (Some e.1) (placed_at l q))) [
    | true ↦ λ t. recast_none l q _ (not_behind e l s q t) ∙ ap (λ (p : Place). Some (recast_one n i (r p e.1) e.1)) (sym (equal_of q e.0 t))
    | false ↦ λ t. recast_is l (sorted_tail place_cmp e.0 (keys_of l) s) q
  ] refl

-- the next place is given its tree
pub recast_step : (n i : ℕ) (k : Place) (row : Row) (old new : Places) (more : List (Place × Row)) → HasPut k (option_map (recast_one n i row) (placed_at old k)) old new → (q : Place) → recast_each n i more q (placed_at new q) ≡ recast_each n i ((k, row) ∷ more) q (placed_at old q)
recast_step n i k row old new more put q = elim (is_at (place_cmp q) k) as (λ b. is_at (place_cmp q) k ≡ b → recast_each n i more q (placed_at new q) ≡ recast_each n i more q (cond b (option_map (recast_one n i row) (placed_at old q)) (placed_at old q))) [
  | true ↦ λ t. let same = equal_of q k t in ap (recast_each n i more q) (ap (placed_at new) same ∙ put.here ∙ ap (λ (p : Place). option_map (recast_one n i row) (placed_at old p)) (sym same))
  | false ↦ λ t. ap (recast_each n i more q) (put.others q (λ e. true≢false (sym (ap (λ (p : Place). is_at (place_cmp p) k) e ∙ itself k) ∙ t)))
] refl

-- what is set at a place passes no size there
abbrev pub SlotFits : List (List ℕ) → Option CrateView → Place × Shelved → Type 0
SlotFits skipped krate e = TreeFits skipped e.0 krate (syntax_in (Some e.1))

pub fits_at : (skipped : List (List ℕ)) (krate : Option CrateView) (l : Places) → AllByRecursion (SlotFits skipped krate) l → PlacesFit skipped krate l
fits_at skipped krate [] h q = tt
fits_at skipped krate (e ∷ l) h q = elim (is_at (place_cmp q) e.0) as (λ b. is_at (place_cmp q) e.0 ≡ b → TreeFits skipped q krate (syntax_in (cond b (Some e.1) (placed_at l q)))) [
  | true ↦ λ t. subst (λ (p : Place). TreeFits skipped p krate (syntax_in (Some e.1))) (sym (equal_of q e.0 t)) h.0
  | false ↦ λ t. fits_at skipped krate l h.1 q
] refl

-- ---- one element of a list changed

module _ {A : Type 0} (f : A → A) where
  pub length-change_at : (i : ℕ) (xs : List A) → length (change_at i f xs) ≡ length xs
  length-change_at i [] = refl
  length-change_at zero (x ∷ xs) = refl
  length-change_at (suc i) (x ∷ xs) = ap suc (length-change_at i xs)

  pub get_here : (i : ℕ) (xs : List A) → slice_get (change_at i f xs) i ≡ option_map f (slice_get xs i)
  get_here i [] = refl
  get_here zero (x ∷ xs) = refl
  get_here (suc i) (x ∷ xs) = get_here i xs

  pub get_other : (i j : ℕ) (xs : List A) → i ≢ j → slice_get (change_at i f xs) j ≡ slice_get xs j
  get_other i j [] h = refl
  get_other zero zero (x ∷ xs) h = absurd (h refl)
  get_other zero (suc j) (x ∷ xs) h = refl
  get_other (suc i) zero (x ∷ xs) h = refl
  get_other (suc i) (suc j) (x ∷ xs) h = get_other i j xs (λ e. h (ap suc e))

  -- a write of what it becomes
  pub written_at : (xs : List A) (i : ℕ) (x v : A) → x ≡ get_or xs i x → v ≡ f x → i < length xs → set xs i v ≡ change_at i f xs
  written_at [] i x v e q h = absurd (omega arith)
  written_at (y ∷ xs) zero x v e q h = ap (λ (z : A). z ∷ xs) (q ∙ ap f e)
  written_at (y ∷ xs) (suc i) x v e q h = ap (λ (zs : List A). y ∷ zs) (written_at xs i x v e q (omega arith))

  -- no element is there
  pub unwritten_at : (xs : List A) (i : ℕ) → length xs ≤ i → xs ≡ change_at i f xs
  unwritten_at [] i h = refl
  unwritten_at (y ∷ xs) zero h = absurd (omega arith)
  unwritten_at (y ∷ xs) (suc i) h = ap (λ (zs : List A). y ∷ zs) (unwritten_at xs i (omega arith))

  map_or : (d : A) (xs : List A) (i : ℕ) → i < length xs → unwrap_or (slice_get (map f xs) i) d ≡ f (get_or xs i d)
  map_or d xs i p = unwrap_or-slice_get (map f xs) i d ∙ get_or-map f xs i d d p

  pub map_within : (d : A) (xs : List A) (i : ℕ) → i < length xs → unwrap_or (option_map f (slice_get xs i)) d ≡ f (unwrap_or (slice_get xs i) d)
  map_within d xs i p = ap (λ (o : Option A). unwrap_or o d) (sym (slice_get-map f xs i)) ∙ map_or d xs i p ∙ ap f (sym (unwrap_or-slice_get xs i d))

-- ---- rows

get_settled : (n : ℕ) (d : Row) (rows news : List Row) (i : ℕ) → i < length rows → i < length news → unwrap_or (slice_get (settle_all n rows news) i) d ≡ settled_row n (unwrap_or (slice_get rows i) d) (get_or news i d)
get_settled n d [] news i p q = absurd (omega arith)
get_settled n d (x ∷ rows) [] i p q = absurd (omega arith)
get_settled n d (x ∷ rows) (y ∷ news) zero p q = refl
get_settled n d (x ∷ rows) (y ∷ news) (suc i) p q = get_settled n d rows news i (omega arith) (omega arith)

pub get_cleared : (n : ℕ) (d : Row) (rows : List Row) (i : ℕ) → i < length rows → unwrap_or (slice_get (clear_all n rows) i) d ≡ settled_row n (unwrap_or (slice_get rows i) d) (empty_row n)
get_cleared n d rows i p = let f : Row → Row = λ row. settled_row n row (empty_row n) in map_or f d rows i p ∙ ap f (sym (unwrap_or-slice_get rows i d))

length-settled : (n : ℕ) (xs ys : List Row) → length (settle_all n xs ys) ≡ length xs
length-settled n [] ys = refl
length-settled n (x ∷ xs) [] = refl
length-settled n (x ∷ xs) (y ∷ ys) = ap suc (length-settled n xs ys)

-- the rows of a place that is set
module _ (start n : ℕ) (fresh : List Row) where
  pub row_set : (source : _) (o : Option Shelved) (i : ℕ) → IfSome o (λ p. length p.rows ≡ length fresh) → i < length fresh → row_in start (Some (set_to start n source fresh o)) i ≡ settled_row n (row_in start o i) (get_or fresh i (empty_row start))
  row_set source None i h p = map_or (settled_row n (empty_row start)) (empty_row start) fresh i p
  row_set source (Some placed) i h p = get_settled n (empty_row start) placed.rows fresh i (rw h p) p

  pub length-set : (source : _) (o : Option Shelved) → IfSome o (λ p. length p.rows ≡ length fresh) → length (set_to start n source fresh o).rows ≡ length fresh
  length-set source None h = length-map fresh _
  length-set source (Some placed) h = length-settled n placed.rows fresh ∙ h
