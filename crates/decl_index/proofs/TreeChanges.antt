-- A change of what is held of one tree.
use Rattle.decl_index.proofs.Common.{◌≡◌, ℕ, [], Bool, true, false, cond, Option, unwrap_or, refl, ap, subst, ◌∙◌, is_at, is_eq, nat_cmp, place_cmp, Place, BTreeSet, Entry, entry_cmp, FiledTrees, tree_cmp, is_filed, IsTotalOrder, exact_pairs, exact_unsigned, tells_apart, tied_itself}
use Rattle.std.specs.BTreeMap.{get}
use Rattle.std.specs.BTreeSet.{contains}
use Rattle.std.specs.Cmp.{nat_cmp_total, on_total, then_total}
use Rattle.item_tree_db.specs.PlaceOrder.{place_cmp_total}
use Rattle.decl_index.proofs.Order.{at_is, empty_has, exact_places, held_same, held_update}

abbrev Key : Type 0
Key = Place × ℕ

abbrev none : BTreeSet Entry
none = record { keys = [] }

abbrev same : Key → Key → Bool
same a b = is_at (tree_cmp a) b

tree_cmp_total : IsTotalOrder tree_cmp
tree_cmp_total = then_total (on_total (λ (k : Key). k.0) place_cmp_total) (on_total (λ (k : Key). k.1) nat_cmp_total)

exact : (a b : Key) → same a b ≡ true → a ≡ b
exact a b t = tells_apart (exact_pairs place_cmp nat_cmp exact_places exact_unsigned) a b t

itself : (a : Key) → same a a ≡ true
itself a = ap is_eq (tied_itself tree_cmp_total a)

abbrev key_of : Entry → Key
key_of e = (e.place, e.krate.0)

abbrev held : FiledTrees → Key → BTreeSet Entry
held t k = unwrap_or (get tree_cmp t k) none

module _ (t u : FiledTrees) (entry : Entry) (w : Option (BTreeSet Entry)) (put : (k : Key) → get tree_cmp u k ≡ cond (same (key_of entry) k) w (get tree_cmp t k)) where
  abbrev set : BTreeSet Entry
  set = unwrap_or w none

  here : (k : Key) → held u k ≡ cond (same (key_of entry) k) set (held t k)
  here k = ap (λ (o : Option (BTreeSet Entry)). unwrap_or o none) (put k) ∙ elim (same (key_of entry) k) as (λ b. unwrap_or (cond b w (get tree_cmp t k)) none ≡ cond b set (held t k)) [ true ↦ refl | false ↦ refl ]

  -- the entry alone changed
  pub filed_then : (b : Bool) → ((q : Entry) → contains entry_cmp set q ≡ cond (is_at (entry_cmp entry) q) b (contains entry_cmp (held t (key_of entry)) q)) → (q : Entry) → is_filed u q ≡ cond (is_at (entry_cmp entry) q) b (is_filed t q)
  filed_then b member = held_update same exact itself key_of (held t) (held u) entry set b here member

-- what is held of a tree has the same entries
pub filed_still : (t u : FiledTrees) (at : Key) (w : Option (BTreeSet Entry)) → ((k : Key) → get tree_cmp u k ≡ cond (same at k) w (get tree_cmp t k)) → (unwrap_or w none).keys ≡ (held t at).keys → (q : Entry) → is_filed u q ≡ is_filed t q
filed_still t u at w put alike =
    held_same same exact key_of (held t) (held u) at (unwrap_or w none)
    (λ k. ap (λ (o : Option (BTreeSet Entry)). unwrap_or o none) (put k) ∙ elim (same at k) as (λ b. unwrap_or (cond b w (get tree_cmp t k)) none ≡ cond b (unwrap_or w none) (held t k)) [ true ↦ refl | false ↦ refl ])
    alike

-- what is not held may be taken out
pub filed_never : (t : FiledTrees) (entry : Entry) → (held t (key_of entry)).keys ≡ [] → (q : Entry) → is_filed t q ≡ cond (is_at (entry_cmp entry) q) false (is_filed t q)
filed_never t entry h q = elim (is_at (entry_cmp entry) q) as (λ b. is_at (entry_cmp entry) q ≡ b → is_filed t q ≡ cond b false (is_filed t q)) [
  | true ↦ λ b. subst (λ (e : Entry). contains entry_cmp (held t (key_of e)) q ≡ false) (at_is entry q b) (empty_has (held t (key_of entry)) h q)
  | false ↦ λ b. refl
] refl
