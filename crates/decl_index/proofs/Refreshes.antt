-- What a refresh leaves is the index of the table.
use Rattle.decl_index.proofs.Common.{◌≡◌, ◌↔◌, ◌⊎◌, inl, inr, Bool, ℕ, ◌<◌, ◌≤◌, true, false, true≢false, cond, nat_lt, nat_eq, pointwise, List, [], ◌∷◌, length, Option, Some, None, refl, sym, ap, subst, ◌∙◌, arith, All, Contains, slice_index_or, unwrap_or, nat_tests, none-some, same_Some, option_map_or, flat_map, Unfolding, of_id, Place, State, IsKnown, change_number, node_name, FiledTrees, Entry, entry_cmp, entry_name, IsDeclared, IsListing, IsBehind, IsBehindAt, entries_at, entries_of, is_declared, is_filed, gone_at, gone_by, filed_at, AreChangedEntries, AreGone, IsOfOne, IsStrictlySortedBy, All-contains, All-contains_itself, All-cons, All-nil, All-weaker, Crate, of_id_nothing, Change, IsGrounded, IsSince, IsLate}
use Rattle.std.proofs.lemmas.Bool.{cases_lt}
use Rattle.std.proofs.lemmas.Slice.Eq.{bytes_eq-Decides}
use Rattle.decl_index.proofs.Lists.{flat_map_all, flat_map_contains}
use Rattle.decl_index.proofs.Order.{in_set}
use Rattle.decl_index.proofs.Trees.{all_declared, declared_there}

-- the number of the last edit that changed an entry's tree
abbrev number_of : State → Entry → ℕ
number_of s e = change_number s e.place e.krate.0

-- ---- the test whether an entry is declared

has_name : (o : Option (List ℕ)) (name : List ℕ) → option_map_or (pointwise nat_eq name) o false ≡ true → o ≡ Some name
has_name None name t = absurd (true≢false (sym t))
has_name (Some own) name t = ap Some (sym ((bytes_eq-Decides name own).0 t))

named : (o : Option (List ℕ)) (name : List ℕ) → o ≡ Some name → option_map_or (pointwise nat_eq name) o false ≡ true
named None name h = absurd (none-some name h)
named (Some own) name h = (bytes_eq-Decides name own).1 (sym (same_Some own name h))

known_first : (a b : ℕ) (c : Bool) → cond (nat_lt a b) c false ≡ true → (a < b) × (c ≡ true)
known_first a b c h = (grind (arith, nat_tests), grind (arith, nat_tests))

known_then : (a b : ℕ) (c : Bool) → a < b → c ≡ true → cond (nat_lt a b) c false ≡ true
known_then a b c p t = grind (arith, nat_tests)

pub declared_by_test : (s : State) (e : Entry) → is_declared s e ≡ true → IsDeclared s e
declared_by_test s e t = let p = known_first e.krate.0 (length s.crates) _ t in record { known = p.0; named = has_name (entry_name s e.place e.krate e.id) e.name p.1 }

pub tested_declared : (s : State) (e : Entry) → IsDeclared s e → is_declared s e ≡ true
tested_declared s e d = known_then e.krate.0 (length s.crates) _ d.known (named (entry_name s e.place e.krate e.id) e.name d.named)

-- ---- what is gone

lost_by : (s : State) (e : Entry) → All (λ x. is_declared s x ≡ false) (gone_by s e)
lost_by s e = elim (is_declared s e) as (λ b. is_declared s e ≡ b → All (λ x. is_declared s x ≡ false) (cond b [] (e ∷ []))) [
  | true ↦ λ t. All-nil (λ x. is_declared s x ≡ false)
  | false ↦ λ f. All-cons (λ x. is_declared s x ≡ false) e [] f (All-nil (λ x. is_declared s x ≡ false))
] refl

all_lost : (s : State) (entries : List Entry) → All (λ x. is_declared s x ≡ false) (flat_map (gone_by s) entries)
all_lost s entries = flat_map_all (gone_by s) (λ x. is_declared s x ≡ false) entries (λ k d l. lost_by s (slice_index_or entries k d))

gone_here : (s : State) (entries : List Entry) (e : Entry) → Contains entries e → is_declared s e ≡ false → Contains (flat_map (gone_by s) entries) e
gone_here s entries e c f = flat_map_contains (gone_by s) entries e e c (subst (λ (b : Bool). Contains (cond b [] (e ∷ [])) e) (sym f) (0, omega arith, refl))

pub gone_of_all : (s : State) (entries : List Entry) → AreGone s entries (flat_map (gone_by s) entries)
gone_of_all s entries = record { lost = all_lost s entries; all = gone_here s entries }

pub gone_of_trees : (s : State) (trees : FiledTrees) (old : List Entry) (changes : List Change) → ((e : Entry) → Contains old e → is_filed trees e ≡ true) → ((e : Entry) → Contains old e → is_declared s e ≡ false → IsOfOne changes e) → AreGone s old (flat_map (λ c. gone_at s trees c.0 c.1) changes)
gone_of_trees s trees old changes filed late = record {
  lost = flat_map_all (λ (c : Change). gone_at s trees c.0 c.1) (λ x. is_declared s x ≡ false) changes (λ k d l. let c = slice_index_or changes k d in all_lost s (filed_at trees c.0 c.1.0).keys);
  all = λ e i f.
      let one = late e i f in
      let there = (in_set (filed_at trees e.place e.krate.0) e).0 (filed e i) in
      flat_map_contains (λ (c : Change). gone_at s trees c.0 c.1) changes one.0 e one.1
      (subst (λ (p : Place). Contains (gone_at s trees p one.0.1) e) (sym one.2) (subst (λ (k : Crate). Contains (gone_at s trees e.place k) e) (sym one.3) (gone_here s (filed_at trees e.place e.krate.0).keys e there f)));
}

-- ---- trees that did not change

module _ (s : State) (old : List Entry) where
  sound : (number : Option ℕ) → IsBehind (number, old) s → (e : Entry) → Contains old e → IsKnown s e.krate → number_of s e ≤ unwrap_or number 0 → IsDeclared s e
  sound None h e c known low = absurd (omega (arith, c.1, ap length h))
  sound (Some n) h e c known low = (h.unchanged e known low).0 c

  below : (number : Option ℕ) → IsBehind (number, old) s → (e : Entry) → Contains old e → (number_of s e ≤ unwrap_or number 0) ⊎ (number_of s e ≤ s.start) → number_of s e ≤ unwrap_or number 0
  below None h e c low = absurd (omega (arith, c.1, ap length h))
  below (Some n) h e c low = elim low as (λ _. number_of s e ≤ n) [ inl p ↦ p | inr p ↦ omega (arith, h.started) ]

  whole : (number : Option ℕ) → IsBehind (number, old) s → IsGrounded s → (e : Entry) → IsDeclared s e → (number_of s e ≤ unwrap_or number 0) ⊎ (number_of s e ≤ s.start) → Contains old e × (number_of s e ≤ unwrap_or number 0)
  whole None h g e d low =
      absurd (none-some e.name (sym (of_id_nothing None node_name e.id) ∙ ap (λ (u : Unfolding). of_id u None node_name e.id) (sym (g.empty e.place e.krate.0 d.known (elim low as (λ _. number_of s e ≤ s.start) [ inl p ↦ omega arith | inr p ↦ p ]))) ∙ d.named))
  whole (Some n) h g e d low =
      let below : number_of s e ≤ n = elim low as (λ _. number_of s e ≤ n) [ inl p ↦ p | inr p ↦ omega (arith, h.started) ] in
      ((h.unchanged e d.known below).1 d, below)

  -- where no tree changed, the index is that of the table
  module _ (number : Option ℕ) (places : List Place) (behind : IsBehindAt (number, old) places s) (grounded : IsGrounded s) (none : (c : Change) → IsLate s (unwrap_or number 0) c → ⊥) where
    low : (e : Entry) → IsKnown s e.krate → (number_of s e ≤ unwrap_or number 0) ⊎ (number_of s e ≤ s.start)
    low e known = elim (cases_lt (unwrap_or number 0) (number_of s e)) as (λ _. (number_of s e ≤ unwrap_or number 0) ⊎ (number_of s e ≤ s.start)) [
      | inr p ↦ inl p
      | inl p ↦ elim (cases_lt s.start (number_of s e)) as (λ _. (number_of s e ≤ unwrap_or number 0) ⊎ (number_of s e ≤ s.start)) [
        | inl q ↦ absurd (none (e.place, e.krate, number_of s e) (record { known = known; number = refl; above = p; above_start = q }))
        | inr q ↦ inr q
      ]
    ]

    still : (e : Entry) → Contains old e → IsKnown s e.krate → number_of s e ≤ unwrap_or number 0
    still e c known = below number behind.behind e c (low e known)

    pub unmoved : IsStrictlySortedBy entry_cmp old → IsListing s old
    unmoved rises = record {
      declared = λ k d l.
          let e = slice_index_or old k d in
          let c = All-contains_itself old k d l in
          let known = behind.known k d l in
          sound number behind.behind e c known (still e c known);
      whole = λ e d. (whole number behind.behind grounded e d (low e d.known)).0;
      in_order = rises;
    }

  -- where places may have changed, what is gone is of a tree that did
  pub gone_late : (number : Option ℕ) (places : List Place) (changes : List Change) → IsBehindAt (number, old) places s → IsSince s (unwrap_or number 0) changes → (e : Entry) → Contains old e → is_declared s e ≡ false → IsOfOne changes e
  gone_late number places changes behind since e c f =
      let known = All-contains (λ (x : Entry). IsKnown s x.krate) old e behind.known c in
      let not_low = λ (low : (number_of s e ≤ unwrap_or number 0) ⊎ (number_of s e ≤ s.start)). true≢false (sym (tested_declared s e (sound number behind.behind e c known (below number behind.behind e c low))) ∙ f) in
      elim (cases_lt (unwrap_or number 0) (number_of s e)) as (λ _. IsOfOne changes e) [
        | inr p ↦ absurd (not_low (inl p))
        | inl p ↦ elim (cases_lt s.start (number_of s e)) as (λ _. IsOfOne changes e) [
          | inr q ↦ absurd (not_low (inr q))
          | inl q ↦
              let change : Change = (e.place, e.krate, number_of s e) in
              (change, since.whole change (record { known = known; number = refl; above = p; above_start = q }), refl, refl)
        ]
      ]

-- ---- trees that changed

module _ (s : State) (n : ℕ) (changes : List Change) (since : IsSince s n changes) where
  abbrev entries_in : Change → List Entry
  entries_in c = entries_at s c.0 c.1

  news_declared : All (IsDeclared s) (entries_of s changes)
  news_declared = flat_map_all entries_in (IsDeclared s) changes (All-weaker (IsLate s n) (λ c. All (IsDeclared s) (entries_in c)) (λ c l. all_declared s c.0 c.1 l.known) changes since.late)

  news_whole : (e : Entry) → IsDeclared s e → n < number_of s e → s.start < number_of s e → Contains (entries_of s changes) e
  news_whole e d p q =
      let change : Change = (e.place, e.krate, number_of s e) in
      flat_map_contains entries_in changes change e (since.whole change (record { known = d.known; number = refl; above = p; above_start = q })) (declared_there s e d)

-- with the entries of those, and without what is gone
pub refreshed : (s : State) (number : Option ℕ) (old fresh gone mid new : List Entry) → IsBehind (number, old) s → AreChangedEntries s (unwrap_or number 0) fresh → AreGone s old gone → ((e : Entry) → Contains mid e ↔ (Contains old e ⊎ Contains fresh e)) → ((e : Entry) → Contains new e ↔ (Contains mid e × (Contains gone e → ⊥)))
    → IsStrictlySortedBy entry_cmp new → IsListing s new
refreshed s number old fresh gone mid new behind read lost put left rises =
    let n = unwrap_or number 0 in
    let news : All (IsDeclared s) fresh = subst (All (IsDeclared s)) (sym read.items) (news_declared s n read.changes read.since) in
    let is_news = λ (e : Entry) (i : Contains (entries_of s read.changes) e). subst (λ (xs : List Entry). Contains xs e) (sym read.items) i in
    let is_whole = λ (e : Entry) (d : IsDeclared s e).
    elim (cases_lt n (number_of s e)) as (λ _. Contains old e ⊎ Contains fresh e) [
      | inl p ↦ elim (cases_lt s.start (number_of s e)) as (λ _. Contains old e ⊎ Contains fresh e) [ inl q ↦ inr (is_news e (news_whole s n read.changes read.since e d p q)) | inr q ↦ inl (whole s old number behind read.grounded e d (inr q)).0 ]
      | inr p ↦ inl (whole s old number behind read.grounded e d (inl p)).0
    ] in
    let is_sound = λ (e : Entry) (c : Contains new e).
    let kept = (left e).0 c in
    elim (is_declared s e) as (λ b. is_declared s e ≡ b → IsDeclared s e) [
      | true ↦ λ t. declared_by_test s e t
      | false ↦ λ f. elim ((put e).0 kept.0) as (λ _. IsDeclared s e) [ inl i ↦ absurd (kept.1 (lost.all e i f)) | inr i ↦ All-contains (IsDeclared s) fresh e news i ]
    ] refl in
    record {
      declared = λ k d l. is_sound (slice_index_or new k d) (All-contains_itself new k d l);
      whole = λ e d. (left e).1 ((put e).1 (is_whole e d), λ i. true≢false (sym (tested_declared s e d) ∙ All-contains (λ (x : Entry). is_declared s x ≡ false) gone e lost.lost i));
      in_order = rises;
    }
