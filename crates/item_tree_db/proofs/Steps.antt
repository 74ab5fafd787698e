-- One edit, by place and crate.
use Rattle.std.proofs.Common.{◌≡◌, ◌≢◌, inl, inr, ℕ, zero, ◌+◌, ◌<◌, ◌≤◌, Bool, true, false, not, List, [], ◌∷◌, length, map, cond, Some, None, Option, IfSome, slice_get, refl, sym, ap, subst, ◌∙◌, arith, nat_eq, get_or}
use Rattle.item_tree_db.proofs.Common.{option_and_then, option_map, unwrap_or, is_at, nat_tests, length-map, slice_get-map, AtomView, SyntaxView, CrateData, CrateView, crate_view, unfolding_code, same, same_itself, equal_of_same, SetCfg, Place, Row, Source, place_cmp, same_place, Held, State, find, with_cfg, present, unfolding_of, unfolding_at, change_number, EditView, edit_view, set, remove, set_cfg, sets, gives, under_options, present_after, unfolding_after, changed_after, IsAfter, IsFooting, TreeFits, TreePasses, FitsAfter, UnlessMemory, IsRefusal, settled_row, empty_row, fresh_row, brought, Shelved, Places, placed_at, syntax_in, row_in, HasPut, set_to, take_out, change_at, recast_one, recast_each, fresh_of, IsInOrder, CratesFit, PlacesFit, PlacesPass, IsGrounded, source_place, source_syntax, edit_of, Table, table_from, held_of, state_of, syntax_at, row_at, lowered_at, next_number, next_table, IsSound, IsLed, IsStep, IsRowOf}
use Rattle.hir_input.specs.declared.ids.Crate.{Crate}
use Rattle.item_tree.specs.declared.fault.EditFault.TheVariants.{Lower}
use Rattle.item_tree.specs.declared.fault.LowerError.{LowerError}
use Rattle.item_tree.specs.Node.{Unfolding, nothing}
use Rattle.item_tree_db.specs.declared.source.Source.TheVariants.{File, Block}
use Rattle.item_tree_db.proofs.Places.{same_is, other_of, same_here}
use Rattle.item_tree_db.proofs.Histories.{footing}
use Rattle.item_tree_db.proofs.Crates.{fresh_get, given_here}
use Rattle.item_tree_db.proofs.Shelves.{fresh_each, recast_is, length-change_at, get_here, get_other, map_within, get_cleared, row_set, length-set}

-- ---- what callers see

pub found : (l : Places) (q : Place) → find (map (λ e. (e.0, held_of e.1)) l) q ≡ option_map held_of (placed_at l q)
found [] q = refl
found (e ∷ l) q = elim (is_at (place_cmp q) e.0) as (λ b. cond b (Some (held_of e.1)) (find (map (λ e. (e.0, held_of e.1)) l) q) ≡ option_map held_of (cond b (Some e.1) (placed_at l q))) [ true ↦ refl | false ↦ found l q ]

held_syntax : (o : Option Shelved) → option_and_then (λ held. held.syntax) (option_map held_of o) ≡ syntax_in o
held_syntax None = refl
held_syntax (Some p) = refl

held_changed : (start i : ℕ) (o : Option Shelved) → unwrap_or (option_and_then (λ held. slice_get held.changed i) (option_map held_of o)) start ≡ (row_in start o i).changed
held_changed start i None = refl
held_changed start i (Some p) =
    ap (λ (o : Option ℕ). unwrap_or o start) (slice_get-map (λ (row : Row). row.changed) p.rows i)
    ∙ elim (slice_get p.rows i) as (λ o. unwrap_or (option_map (λ (row : Row). row.changed) o) start ≡ (unwrap_or o (empty_row start)).changed) [ None ↦ refl | Some row ↦ refl ]

module _ (t : Table) (place : Place) where
  pub present_is : present (state_of t) place ≡ syntax_at t place
  present_is = ap (option_and_then (λ (held : Held). held.syntax)) (found t.places place) ∙ held_syntax (placed_at t.places place)

  pub unfolding_is : (i : ℕ) → unfolding_at (state_of t) place i ≡ lowered_at t place i
  unfolding_is i = ap (unfolding_of t.skipped place (slice_get t.crates i)) present_is

  pub change_is : (i : ℕ) → change_number (state_of t) place i ≡ (row_at t place i).changed
  change_is i = ap (λ (o : Option Held). unwrap_or (option_and_then (λ held. slice_get held.changed i) o) t.start) (found t.places place) ∙ held_changed t.start i (placed_at t.places place)

  row_is : IsSound t → (i : ℕ) → i < length t.crates → IsRowOf (state_of t) place i (row_at t place i)
  row_is h i p = record { tree = h.trees place i p ∙ sym (unfolding_is i); changed = sym (change_is i) }

  -- what the shelf has of a crate
  pub row_seen : IsSound t → (s : State) → state_of t ≡ s → (i : ℕ) → i < length s.crates → (row : Option Row) → row ≡ option_and_then (λ p. slice_get p.rows i) (placed_at t.places place) → IsRowOf s place i (unwrap_or row (empty_row s.start))
  row_seen h s is i p row e =
      subst (λ (z : State). i < length z.crates → IsRowOf z place i (unwrap_or row (empty_row z.start))) is
      (λ q. subst (λ (o : Option Row). IsRowOf (state_of t) place i (unwrap_or o (empty_row t.start))) (sym e) (row_is h i q)) p

-- ---- a settled row

-- its tree is the new one already
same_kept : (n : ℕ) (r : Row) (x : Unfolding) → r.tree ≡ x → r ≡ settled_row n r (record { tree = x; changed = n })
same_kept n r x e =
    sym (ap (λ b. cond b r (record { tree = r.tree; changed = n })) (same_itself unfolding_code r.tree))
    ∙ ap (λ (y : Unfolding). settled_row n r (record { tree = y; changed = n })) e

settled_changed : (n : ℕ) (r : Row) (x : Unfolding) → (settled_row n r (record { tree = x; changed = n })).changed ≡ cond (same unfolding_code r.tree x) r.changed n
settled_changed n r x = elim (same unfolding_code r.tree x) as (λ b. (cond b r (record { tree = x; changed = n })).changed ≡ cond b r.changed n) [ true ↦ refl | false ↦ refl ]

-- what holds of the old one where its tree is the new one already, and of the new one, holds of it
settled_by : (P : Row → Type 0) (n : ℕ) (r : Row) (x : Unfolding) → (r.tree ≡ x → P r) → P (record { tree = x; changed = n }) → P (settled_row n r (record { tree = x; changed = n }))
settled_by P n r x old new = elim (same unfolding_code r.tree x) as (λ b. same unfolding_code r.tree x ≡ b → P (cond b r (record { tree = x; changed = n }))) [
  | true ↦ λ h. old (equal_of_same unfolding_code r.tree x h)
  | false ↦ λ h. new
] refl

-- ---- edits of one place

module _ (t : Table) (sound : IsSound t) (k : Place) (e : EditView) where
  -- another place keeps what it has
  kept : (q : Place) → sets q e ≡ None → IsLed t t.crates e q (placed_at t.places q) (placed_at t.places q)
  kept q none = record {
    own = sound.own q;
    long = sound.rows q;
    syntax = ap (λ o. unwrap_or o (syntax_at t q)) (sym none);
    fits = sound.fits q;
    rows = λ i p. same_kept (next_number t) (row_at t q i) (lowered_at t q i) (sound.trees q i p);
  }

  one_place : (w : Option Shelved) (new : Places) → ((q : Place) → same_place k q ≡ false → sets q e ≡ None) → ((i : ℕ) → gives i e ≡ None) → HasPut k w t.places new → IsLed t t.crates e k (placed_at t.places k) w → IsStep t e t.crates new
  one_place w new others none put here = record {
    count = refl;
    under_it = λ i. ap (λ g. under_options g (slice_get t.crates i)) (sym (none i));
    led = λ q. elim (same_place k q) as (λ b. same_place k q ≡ b → IsLed t t.crates e q (placed_at t.places q) (placed_at new q)) [
      | true ↦ λ h. subst (λ (p : Place). IsLed t t.crates e p (placed_at t.places p) (placed_at new p)) (sym (same_is q k h)) (subst (IsLed t t.crates e k (placed_at t.places k)) (sym put.here) here)
      | false ↦ λ h. subst (IsLed t t.crates e q (placed_at t.places q)) (sym (put.others q (other_of k q h))) (kept q (others q h))
    ] refl;
  }

removed_led : (t : Table) (k : Place) (old : Option Shelved) → IfSome old (λ p. length p.rows ≡ length t.crates) → IsLed t t.crates (remove k) k old (option_map (take_out (next_number t)) old)
removed_led t k None h = record {
  own = tt;
  long = tt;
  syntax = ap (λ b. unwrap_or (cond b (Some None) None) None) (sym (same_here k));
  fits = λ i. tt;
  rows = λ i p. same_kept (next_number t) (empty_row t.start) nothing refl;
}
removed_led t k (Some placed) h = record {
  own = tt;
  long = length-map placed.rows _ ∙ h;
  syntax = ap (λ b. unwrap_or (cond b (Some None) None) (syntax_in (Some placed))) (sym (same_here k));
  fits = λ i. tt;
  rows = λ i p. get_cleared (next_number t) (empty_row t.start) placed.rows i (rw h p);
}

-- ---- other options of a crate

equal : (k i : ℕ) → nat_eq k i ≡ true → k ≡ i
equal k i h = grind (arith, nat_tests)

not_equal : (k i : ℕ) → nat_eq k i ≡ false → k ≢ i
not_equal k i h = grind (arith, nat_tests)

module _ (t : Table) (k : ℕ) (o : List AtomView) where
  abbrev crates_now : List CrateView
  crates_now = change_at k (with_cfg o) t.crates

  given_at : (i : ℕ) → slice_get crates_now i ≡ under_options (cond (nat_eq k i) (Some o) None) (slice_get t.crates i)
  given_at i = elim (nat_eq k i) as (λ b. nat_eq k i ≡ b → slice_get crates_now i ≡ under_options (cond b (Some o) None) (slice_get t.crates i)) [
    | true ↦ λ h. ap (slice_get crates_now) (sym (equal k i h)) ∙ get_here (with_cfg o) k t.crates ∙ ap (λ (m : ℕ). option_map (with_cfg o) (slice_get t.crates m)) (equal k i h)
    | false ↦ λ h. get_other (with_cfg o) k i t.crates (not_equal k i h)
  ] refl

  -- what fits in it under these options and in the others, fits in each
  each_fits : (q : Place) (x : Option SyntaxView) → TreeFits t.skipped q (slice_get crates_now k) x → ((i : ℕ) → TreeFits t.skipped q (slice_get t.crates i) x) → (i : ℕ) → TreeFits t.skipped q (slice_get crates_now i) x
  each_fits q x here there i = elim (nat_eq k i) as (λ b. nat_eq k i ≡ b → TreeFits t.skipped q (slice_get crates_now i) x) [
    | true ↦ λ h. subst (λ (m : ℕ). TreeFits t.skipped q (slice_get crates_now m) x) (equal k i h) here
    | false ↦ λ h. subst (λ (c : Option CrateView). TreeFits t.skipped q c x) (sym (get_other (with_cfg o) k i t.crates (not_equal k i h))) (there i)
  ] refl

  -- what a place has then
  abbrev recast_at : Place → Shelved → Shelved
  recast_at q placed = recast_one (next_number t) k (fresh_of (next_number t) t.skipped (slice_get crates_now k) q placed) placed

  cfg_row : (q : Place) (p : Shelved) → length p.rows ≡ length t.crates → (i : ℕ) → i < length t.crates
      → (row_in t.start (Some p) i).tree ≡ unfolding_of t.skipped q (slice_get t.crates i) (syntax_in (Some p))
      → row_in t.start (Some (recast_at q p)) i ≡ settled_row (next_number t) (row_in t.start (Some p) i) (fresh_row (next_number t) t.skipped q (slice_get crates_now i) (syntax_in (Some p)))
  cfg_row q p long i within tree =
      let n = next_number t in
      let d = empty_row t.start in
      let f : Row → Row = λ row. settled_row n row (fresh_of n t.skipped (slice_get crates_now k) q p) in
      elim (nat_eq k i) as (λ b. nat_eq k i ≡ b → row_in t.start (Some (recast_at q p)) i ≡ settled_row n (row_in t.start (Some p) i) (fresh_row n t.skipped q (slice_get crates_now i) (syntax_in (Some p)))) [
        | true ↦ λ h. subst (λ (m : ℕ). m < length p.rows → row_in t.start (Some (recast_at q p)) m ≡ settled_row n (row_in t.start (Some p) m) (fresh_row n t.skipped q (slice_get crates_now m) (syntax_in (Some p)))) (equal k i h)
            (λ w. ap (λ (r : Option Row). unwrap_or r d) (get_here f k p.rows) ∙ map_within f d p.rows k w) (rw long within)
        | false ↦ λ h. let e = not_equal k i h in
            ap (λ (r : Option Row). unwrap_or r d) (get_other f k i p.rows e)
            ∙ same_kept n (row_in t.start (Some p) i) _ (tree ∙ ap (λ c. unfolding_of t.skipped q c (syntax_in (Some p))) (sym (get_other (with_cfg o) k i t.crates e)))
      ] refl

  cfg_led : (q : Place) (old : Option Shelved) → IfSome (option_and_then (λ p. p.source) old) (λ s. source_place s ≡ q) → IfSome old (λ p. length p.rows ≡ length t.crates)
      → ((i : ℕ) → i < length t.crates → (row_in t.start old i).tree ≡ unfolding_of t.skipped q (slice_get t.crates i) (syntax_in old)) → ((i : ℕ) → TreeFits t.skipped q (slice_get crates_now i) (syntax_in old))
      → IsLed t crates_now (set_cfg k o) q old (option_map (recast_at q) old)
  cfg_led q None own long trees fits = record { own = tt; long = tt; syntax = refl; fits = fits; rows = λ i p. same_kept (next_number t) (empty_row t.start) nothing refl }
  cfg_led q (Some p) own long trees fits = record { own = own; long = length-change_at _ k p.rows ∙ long; syntax = refl; fits = fits; rows = λ i w. cfg_row q p long i w (trees i w) }

-- ---- what a step leaves

first_number : (m : ℕ) (b : Bool) (now : ℕ) → cond b now (m + 1) ≡ unwrap_or (option_map (λ n. m + n + 1) (cond (not b) (Some zero) None)) now
first_number m true now = refl
first_number m false now = omega arith

-- the table is sound, and what the edit makes of what callers saw as s
pub record IsMade (s : State) (e : EditView) (u : Table) : Type 0 where
  pub sound : IsSound u
  pub after : IsAfter s (e ∷ []) (state_of u)

module _ (t : Table) (e : EditView) (crates : List CrateView) (new : Places) (sound : IsSound t) (step : IsStep t e crates new) where
  abbrev u : Table
  u = next_table t crates new

  row_now : (place : Place) (i : ℕ) → i < length t.crates → row_at u place i ≡ settled_row (t.number + 1) (row_at t place i) (record { tree = lowered_at u place i; changed = t.number + 1 })
  row_now place i p = (step.led place).rows i p

  row_by : (P : Row → Type 0) (place : Place) (i : ℕ) → i < length crates → ((row_at t place i).tree ≡ lowered_at u place i → P (row_at t place i)) → P (record { tree = lowered_at u place i; changed = t.number + 1 }) → P (row_at u place i)
  row_by P place i p old new = subst P (sym (row_now place i (rw (← step.count) p))) (settled_by P (t.number + 1) (row_at t place i) (lowered_at u place i) old new)

  step_sound : IsSound u
  step_sound = record {
    own = λ place. (step.led place).own;
    rows = λ place. rw step.count (step.led place).long;
    started = let c = sound.started in omega arith;
    trees = λ place i p. row_by (λ r. r.tree ≡ lowered_at u place i) place i p (λ e. e) refl;
    fits = λ place. (step.led place).fits;
    bounded = λ place i p. let b = sound.bounded place i (rw (← step.count) p) in row_by (λ r. r.changed ≤ t.number + 1) place i p (λ e. omega arith) (omega arith);
    grounded = λ place i p. let s = sound.started in row_by (λ r. r.changed ≤ t.start → r.tree ≡ nothing) place i p (λ e. sound.grounded place i (rw (← step.count) p)) (λ low. absurd (omega arith));
  }

  syntax_after : (place : Place) → present (state_of u) place ≡ present_after (state_of t) (e ∷ []) place
  syntax_after place = present_is u place ∙ (step.led place).syntax ∙ ap (unwrap_or (sets place e)) (sym (present_is t place))

  tree_after : (place : Place) (i : ℕ) → unfolding_at (state_of u) place i ≡ unfolding_after (state_of t) (e ∷ []) place i
  tree_after place i j = unfolding_of t.skipped place (step.under_it i j) (syntax_after place j)

  number_after : (place : Place) (i : ℕ) → i < length t.crates → change_number (state_of u) place i ≡ changed_after (state_of t) (e ∷ []) place i
  number_after place i p =
      let r = row_is t place sound i p in
      change_is u place i
      ∙ ap (λ (r : Row). r.changed) (row_now place i p)
      ∙ settled_changed (t.number + 1) (row_at t place i) (lowered_at u place i)
      ∙ (λ j. cond (same unfolding_code (r.tree j) ((sym (unfolding_is u place i) ∙ tree_after place i) j)) (r.changed j) (t.number + 1))
      ∙ first_number t.number (same unfolding_code (unfolding_at (state_of t) place i) (unfolding_after (state_of t) (e ∷ []) place i)) (change_number (state_of t) place i)

  pub made : (s : State) → state_of t ≡ s → IsMade s e u
  made s is = subst (λ (z : State). IsMade z e u) is (record {
    sound = step_sound;
    after = record {
      number = refl;
      start = refl;
      count = step.count;
      crates = step.under_it;
      skipped = refl;
      syntaxes = syntax_after;
      unfoldings = λ place i p. tree_after place i;
      changes = number_after;
    };
  })

pub grounded : (t : Table) → IsSound t → IsGrounded (state_of t)
grounded t h = record { started = h.started; bounded = λ place i p. rw (change_is t place i) (h.bounded place i p); empty = λ place i p low. unfolding_is t place i ∙ sym (h.trees place i p) ∙ h.grounded place i p (rw (← change_is t place i) low) }

-- a table to which edits led
pub footing_of : (t : Table) → IsSound t → (s u : State) (es : List EditView) → state_of t ≡ u → IsAfter s es u → IsFooting s u
footing_of t h s u es is after = footing s u es (subst (λ (z : State). (place : Place) (i : ℕ) → i < length z.crates → change_number z place i ≤ z.number) is (grounded t h).bounded) after

-- ---- what each edit makes of the table

set_is : (s : Source) → set (source_place s) (source_syntax s) ≡ edit_view (edit_of s)
set_is (File file syntax) = refl
set_is (Block block syntax) = refl

module _ (crates : List CrateData) (skipped : List (List ℕ)) (start number : ℕ) (places new : Places) (s : State) (sound : IsSound (table_from crates skipped start number places)) (is : state_of (table_from crates skipped start number places) ≡ s) where
  abbrev t : Table
  t = table_from crates skipped start number places

  pub set_made : (source : Source) (fresh : List Row) → fresh ≡ map (λ krate. brought (number + 1) skipped (source_place source) (source_syntax source) (crate_view krate)) crates
      → CratesFit t.crates skipped (source_place source) (source_syntax source)
      → HasPut (source_place source) (Some (set_to start (number + 1) source fresh (placed_at places (source_place source)))) places new → IsMade s (edit_view (edit_of source)) (next_table t t.crates new)
  set_made source fresh e fits put =
      let k = source_place source in
      let view = source_syntax source in
      let old = placed_at places k in
      let many : length fresh ≡ length t.crates = ap length e ∙ length-map crates _ ∙ sym (length-map crates crate_view) in
      let brings : (i : ℕ) → i < length t.crates → get_or fresh i (empty_row start) ≡ fresh_row (number + 1) skipped k (slice_get t.crates i) (Some view) = λ i p. ap (λ (rows : List Row). get_or rows i (empty_row start)) e ∙ fresh_get (number + 1) skipped k view (empty_row start) crates i p in
      let step = one_place t sound k (set k view) _ new (λ q h. ap (λ b. cond b (Some (Some view)) None) h) (λ i. refl) put (record {
        own = refl;
        long = length-set start (number + 1) fresh source old (rw many (sound.rows k)) ∙ many;
        syntax = ap (λ b. unwrap_or (cond b (Some (Some view)) None) (syntax_in old)) (sym (same_here k));
        fits = fits;
        rows = λ i p. row_set start (number + 1) fresh source old i (rw many (sound.rows k)) (rw many p) ∙ ap (settled_row (number + 1) (row_at t k i)) (brings i p);
      }) in
      subst (λ (e : EditView). IsMade s e (next_table t t.crates new)) (set_is source) (made t (set k view) t.crates new sound step s is)

  pub again_made : (k : Place) (view : SyntaxView) → present s k ≡ Some view → IsMade s (set k view) (next_table t t.crates places)
  again_made k view had =
      let is_had : syntax_at t k ≡ Some view = sym (present_is t k) ∙ ap (λ (z : State). present z k) is ∙ had in
      let step = one_place t sound k (set k view) (placed_at places k) places (λ q h. ap (λ b. cond b (Some (Some view)) None) h) (λ i. refl) (record { here = refl; others = λ q n. refl }) (record {
        own = sound.own k;
        long = sound.rows k;
        syntax = is_had ∙ ap (λ b. unwrap_or (cond b (Some (Some view)) None) (syntax_at t k)) (sym (same_here k));
        fits = sound.fits k;
        rows = λ i p. same_kept (number + 1) (row_at t k i) (lowered_at t k i) (sound.trees k i p);
      }) in
      made t (set k view) t.crates places sound step s is

  pub again_fits : (k : Place) (view : SyntaxView) → present s k ≡ Some view → FitsAfter s [] (set k view)
  again_fits k view had =
      let is_had : syntax_at t k ≡ Some view = sym (present_is t k) ∙ ap (λ (z : State). present z k) is ∙ had in
      subst (λ (z : State). FitsAfter z [] (set k view)) is (λ i. subst (TreeFits skipped k (slice_get t.crates i)) is_had (sound.fits k i))

  pub removed_made : (k : Place) → HasPut k (option_map (take_out (number + 1)) (placed_at places k)) places new → IsMade s (remove k) (next_table t t.crates new)
  removed_made k put =
      let step = one_place t sound k (remove k) _ new (λ q h. ap (λ b. cond b (Some None) None) h) (λ i. refl) put (removed_led t k (placed_at places k) (sound.rows k)) in
      made t (remove k) t.crates new sound step s is

  -- options are given to a crate, which is this one then
  module _ (k : Crate) (o : List AtomView) (krate : CrateView) (at : slice_get (change_at k.0 (with_cfg o) (map crate_view crates)) k.0 ≡ Some krate) where
    pub cfg_made : (after : List CrateData) → map crate_view after ≡ change_at k.0 (with_cfg o) (map crate_view crates) → (fresh : List (Place × Row)) → fresh ≡ fresh_each (fresh_of (number + 1) skipped (Some krate)) places
        → IsInOrder places → PlacesFit skipped (Some krate) places → ((q : Place) → placed_at new q ≡ recast_each (number + 1) k.0 fresh q (placed_at places q)) → IsMade s (set_cfg k.0 o) (table_from after skipped start (number + 1) new)
    cfg_made after same fresh e order fits each =
        let n = number + 1 in
        let now = change_at k.0 (with_cfg o) t.crates in
        let fresh_now : Option CrateView → List (Place × Row) = λ c. fresh_each (fresh_of n skipped c) places in
        let placed = λ (q : Place). each q ∙ ap (λ (l : List (Place × Row)). recast_each n k.0 l q (placed_at places q)) (e ∙ ap fresh_now (sym at)) ∙ recast_is n k.0 (fresh_of n skipped (slice_get now k.0)) places order q in
        let fit = λ (q : Place). each_fits t k.0 o q (syntax_at t q) (subst (λ (c : Option CrateView). TreeFits skipped q c (syntax_at t q)) (sym at) (fits q)) (sound.fits q) in
        let step : IsStep t (set_cfg k.0 o) now new = record {
          count = length-change_at (with_cfg o) k.0 t.crates;
          under_it = given_at t k.0 o;
          led = λ q. subst (IsLed t now (set_cfg k.0 o) q (placed_at places q)) (sym (placed q)) (cfg_led t k.0 o q (placed_at places q) (sound.own q) (sound.rows q) (sound.trees q) (fit q));
        } in
        subst (λ (l : List CrateView). IsMade s (set_cfg k.0 o) (next_table t l new)) (sym same) (made t (set_cfg k.0 o) now new sound step s is)

    -- it is lowered under them
    lowers : (P : Option CrateView → Option SyntaxView → Type 0) (place : Place) → P (Some krate) (syntax_in (placed_at places place)) → P (under_options (Some o) (slice_get (map crate_view crates) k.0)) (present (state_of t) place)
    lowers P place h = subst (λ (z : Option CrateView × Option SyntaxView). P z.0 z.1) (λ j. ((sym at ∙ get_here (with_cfg o) k.0 (map crate_view crates)) j, sym (present_is t place) j)) h

    pub cfg_fits : PlacesFit skipped (Some krate) places → FitsAfter s [] (set_cfg k.0 o)
    cfg_fits h = subst (λ (z : State). FitsAfter z [] (set_cfg k.0 o)) is (λ place. lowers (TreeFits skipped place) place (h place))

    pub cfg_refused : (error : LowerError) → UnlessMemory (PlacesPass skipped (Some krate) places) error → IsRefusal s (record { edit = SetCfg k o; cause = Lower error })
    cfg_refused error h = subst (λ (z : State). IsRefusal z (record { edit = SetCfg k o; cause = Lower error })) is (elim h as (λ _. IsRefusal (state_of t) (record { edit = SetCfg k o; cause = Lower error })) [
      | inl e ↦ inl e
      | inr p ↦ inr (p.0, lowers (λ c x. TreePasses skipped p.0 c x error) p.0 p.1)
    ])

  -- what each place is brought under options that are given to a crate, which is this one after it
  pub cfg_brought : (k : Crate) (o : List AtomView) (after : List CrateData) (krate : CrateData) → krate ≡ get_or after k.0 krate → k.0 < length s.crates → length after ≡ length crates → map crate_view after ≡ change_at k.0 (with_cfg o) (map crate_view crates)
      → (names : List (List ℕ)) → names ≡ skipped → (fresh : List (Place × Row)) → fresh ≡ fresh_each (fresh_of (number + 1) names (Some (crate_view krate))) places → IsInOrder places → PlacesFit names (Some (crate_view krate)) places
      → ((q : Place) → placed_at new q ≡ recast_each (number + 1) k.0 fresh q (placed_at places q)) → IsMade s (set_cfg k.0 o) (table_from after skipped start (number + 1) new) × FitsAfter s [] (set_cfg k.0 o)
  cfg_brought k o after krate e known same gives_it names named fresh f order fits each =
      let at = given_here o crates after k.0 krate e (subst (λ (z : State). k.0 < length z.crates) (sym is) known) same gives_it in
      let fit = subst (λ (l : List (List ℕ)). PlacesFit l (Some (crate_view krate)) places) named fits in
      let lowered = f ∙ (λ j. fresh_each (fresh_of (number + 1) (named j) (Some (crate_view krate))) places) in
      (cfg_made k o (crate_view krate) at after gives_it fresh lowered order fit each, cfg_fits k o (crate_view krate) at fit)
