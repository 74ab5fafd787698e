-- What is listed after entries were added or taken out.
use Rattle.decl_index.proofs.Common.{◌≡◌, ◌↔◌, ◌⊎◌, ◌||◌, ◌&&◌, inl, inr, not, Bool, true, false, true≢false, List, Contains, filter, refl, sym, ◌∙◌, Entry, Shelves, FiledTrees, is_shelved, shelf_entries, is_entry_among, is_filed, AreShelved}
use Rattle.decl_index.proofs.ShelfOrder.{listed_standing, stands_listed}
use Rattle.decl_index.proofs.Lists.{filter_contains, filter_from}
use Rattle.decl_index.proofs.Order.{among, is_among_from}

or_cases : (b c : Bool) → (b || c) ≡ true → (b ≡ true) ⊎ (c ≡ true)
or_cases true c h = inl refl
or_cases false c h = inr h

or_left : (b c : Bool) → b ≡ true → (b || c) ≡ true
or_left true c h = refl
or_left false c h = absurd (true≢false (sym h))

or_right : (b c : Bool) → c ≡ true → (b || c) ≡ true
or_right true c h = refl
or_right false c h = h

and_both : (b c : Bool) → (b && c) ≡ true → (b ≡ true) × (c ≡ true)
and_both true c h = (refl, h)
and_both false c h = absurd (true≢false (sym h))

both_and : (b c : Bool) → b ≡ true → c ≡ true → (b && c) ≡ true
both_and true c h k = k
both_and false c h k = absurd (true≢false (sym h))

not_true : (b : Bool) → not b ≡ true → b ≡ false
not_true true h = absurd (true≢false (sym h))
not_true false h = refl

not_false : (b : Bool) → b ≡ false → not b ≡ true
not_false true h = absurd (true≢false h)
not_false false h = refl

-- the entries that do not stand there yet
abbrev pub news : Shelves → List Entry → List Entry
news m fresh = filter (λ e. not (is_shelved m e)) fresh

pub news_apart : (m : Shelves) (fresh : List Entry) (q : Entry) → is_entry_among q (news m fresh) ≡ true → is_shelved m q ≡ false
news_apart m fresh q h = not_true (is_shelved m q) (filter_from (λ e. not (is_shelved m e)) fresh q (among q (news m fresh) h)).1

module _ (m n : Shelves) (h : AreShelved m) (k : AreShelved n) where
  module _ (fresh : List Entry) (put : (q : Entry) → is_shelved n q ≡ (is_shelved m q || is_entry_among q (news m fresh))) where
    put_from : (e : Entry) → Contains (shelf_entries n) e → Contains (shelf_entries m) e ⊎ Contains fresh e
    put_from e c = elim (or_cases (is_shelved m e) (is_entry_among e (news m fresh)) (sym (put e) ∙ stands_listed n k e c)) as (λ _. Contains (shelf_entries m) e ⊎ Contains fresh e) [
      | inl t ↦ inl (listed_standing m h e t)
      | inr t ↦ inr (filter_from (λ e. not (is_shelved m e)) fresh e (among e (news m fresh) t)).0
    ]

    old_put : (e : Entry) → is_shelved m e ≡ true → Contains (shelf_entries n) e
    old_put e t = listed_standing n k e (put e ∙ or_left (is_shelved m e) (is_entry_among e (news m fresh)) t)

    new_put : (e : Entry) → Contains fresh e → Contains (shelf_entries n) e
    new_put e c = elim (is_shelved m e) as (λ b. is_shelved m e ≡ b → Contains (shelf_entries n) e) [
      | true ↦ λ t. old_put e t
      | false ↦ λ f. listed_standing n k e (put e ∙ or_right (is_shelved m e) (is_entry_among e (news m fresh)) (is_among_from e (news m fresh) (filter_contains (λ e. not (is_shelved m e)) fresh e c (not_false (is_shelved m e) f))))
    ] refl

    pub listed_put : (e : Entry) → Contains (shelf_entries n) e ↔ (Contains (shelf_entries m) e ⊎ Contains fresh e)
    listed_put e = (put_from e, λ c. elim c as (λ _. Contains (shelf_entries n) e) [ inl i ↦ old_put e (stands_listed m h e i) | inr i ↦ new_put e i ])

  module _ (gone : List Entry) (left : (q : Entry) → is_shelved n q ≡ (is_shelved m q && not (is_entry_among q gone))) where
    pub listed_left : (e : Entry) → Contains (shelf_entries n) e ↔ (Contains (shelf_entries m) e × (Contains gone e → ⊥))
    listed_left e = (
      λ c. let b = and_both (is_shelved m e) (not (is_entry_among e gone)) (sym (left e) ∙ stands_listed n k e c) in (listed_standing m h e b.0, λ i. true≢false (sym (is_among_from e gone i) ∙ not_true (is_entry_among e gone) b.1)),
      λ c. listed_standing n k e (left e ∙ both_and (is_shelved m e) (not (is_entry_among e gone)) (stands_listed m h e c.0) (elim (is_entry_among e gone) as (λ b. is_entry_among e gone ≡ b → not b ≡ true) [ true ↦ λ t. absurd (c.1 (among e gone t)) | false ↦ λ f. refl ] refl)),
    )

-- ---- what stands on a shelf is held of its tree

module _ (m n : Shelves) (t u : FiledTrees) (filed : (e : Entry) → is_shelved m e ≡ true → is_filed t e ≡ true) where
  pub filed_put : (news : List Entry) → ((q : Entry) → is_filed t q ≡ true → is_filed u q ≡ true) → ((q : Entry) → is_entry_among q news ≡ true → is_filed u q ≡ true) → ((q : Entry) → is_shelved n q ≡ (is_shelved m q || is_entry_among q news)) → (e : Entry) → is_shelved n e ≡ true → is_filed u e ≡ true
  filed_put news kept here put e s = elim (or_cases (is_shelved m e) (is_entry_among e news) (sym (put e) ∙ s)) as (λ _. is_filed u e ≡ true) [ inl a ↦ kept e (filed e a) | inr a ↦ here e a ]

  pub filed_same : ((q : Entry) → is_filed t q ≡ true → is_filed u q ≡ true) → ((q : Entry) → is_shelved n q ≡ is_shelved m q) → (e : Entry) → is_shelved n e ≡ true → is_filed u e ≡ true
  filed_same kept same e s = kept e (filed e (sym (same e) ∙ s))

  pub filed_left : (gone : List Entry) → ((q : Entry) → is_shelved n q ≡ (is_shelved m q && not (is_entry_among q gone))) → ((q : Entry) → is_filed u q ≡ (is_filed t q && not (is_entry_among q gone))) → (e : Entry) → is_shelved n e ≡ true → is_filed u e ≡ true
  filed_left gone left out e s = let b = and_both (is_shelved m e) (not (is_entry_among e gone)) (sym (left e) ∙ s) in out e ∙ both_and (is_filed t e) (not (is_entry_among e gone)) (filed e b.0) b.1
