-- A constructor is seen exactly from where the struct and each of its fields are.
use Rattle.std.proofs.Common.{◌≡◌, Bool, true, false, List, [], ◌∷◌, ◌++◌, Option, Some, None, refl, ap, sym, ◌∙◌, inl, inr}
use Rattle.item_tree.proofs.Common.{cases_Bool, cond_both, false≢true, and_from, and_parts, list_any, list_all, find, same_from_decides, NamedView, FieldsView, record_fields, tuple_fields, no_fields, ItemView, ItemViews, SyntaxView, items_of, listed_module, no_items, item_and, Module, PubSelf, PubCrate, Public, VisibilityExplicitness, Path, is_private, is_pub_crate, crate_or_public, or_one, deciding_by, deciding, same_visibility, firsts_behind, distinct_visibilities}
use Rattle.hir_input.specs.Syntax.{struct_item}
use Rattle.item_tree.specs.Sees.{Where, inside, in_crate, outside, Place, seen_from, sees_all, written_vis, CtorIsSeen, CtorIsSeenIn, CtorsAreSeenIn, CtorsAreSeen}
use Rattle.item_tree.proofs.Arena.{V}
use Rattle.item_tree.proofs.Constructors.{ctor_vis_from}
use Rattle.item_tree.proofs.VisibilityEq.{same-sound}

-- From a place that is not inside, what is public is seen and what is private is not, and who sees a module's sees the crate's.
module _ (p : V → Bool) (public : p Public ≡ true) (private : (e : VisibilityExplicitness) → p (PubSelf e) ≡ false) (wider : (q : Path) (e : VisibilityExplicitness) → p (Module q e) ≡ true → p PubCrate ≡ true) where
  abbrev All : List V → Type 0
  All [] = Unit {0}
  All (v ∷ vs) = (p v ≡ true) × All vs

  All-from : (vs : List V) → list_all p vs ≡ true → All vs
  All-from [] h = tt
  All-from (v ∷ vs) h = let b = and_parts (p v) (list_all p vs) h in (b.0, All-from vs b.1)

  All-to : (vs : List V) → All vs → list_all p vs ≡ true
  All-to [] h = refl
  All-to (v ∷ vs) h = and_from (p v) (list_all p vs) h.0 (All-to vs h.1)

  All-push : (ms : List V) (v : V) → All ms → p v ≡ true → All (ms ++ v ∷ [])
  All-push [] v h t = (t, tt)
  All-push (m ∷ ms) v h t = (h.0, All-push ms v h.1 t)

  All-same : (ms : List V) (v : V) → list_any (same_visibility v) ms ≡ true → All ms → p v ≡ true
  All-same [] v t h = absurd (false≢true t)
  All-same (m ∷ ms) v t h = elim (cases_Bool (same_visibility v m)) [
    | inl s ↦ ap p (same-sound v m s) ∙ h.0
    | inr s ↦ All-same ms v (rw s at t) h.1
  ]

  -- nobody sees all of them, nor the first private one, where one is private
  hidden : (vs : List V) (v : V) → find is_private vs ≡ Some v → (p v ≡ false) × (All vs → ⊥)
  hidden [] v e = cc
  hidden (PubSelf x ∷ vs) v e = let s : PubSelf x ≡ v = cc in (ap p (sym s) ∙ private x, λ h. false≢true (sym (private x) ∙ h.0))
  hidden (_ ∷ vs) v e = let r = hidden vs v e in (r.0, λ h. r.1 h.1)

  -- ---- who sees all of them sees those that decide

  All-firsts : (before vs : List V) → All vs → All (firsts_behind before vs)
  All-firsts before [] h = tt
  All-firsts before (Module q e ∷ vs) h = cond_both (list_any (same_visibility (Module q e)) before) _ _ All (λ t. All-firsts before vs h.1) (λ t. (h.0, All-firsts (before ++ Module q e ∷ []) vs h.1))
  All-firsts before (_ ∷ vs) h = All-firsts before vs h.1

  crate-seen : (vs : List V) → All vs → list_any is_pub_crate vs ≡ true → p PubCrate ≡ true
  crate-seen [] h t = absurd (false≢true t)
  crate-seen (PubCrate ∷ vs) h t = h.0
  crate-seen (_ ∷ vs) h t = crate-seen vs h.1 t

  widest-seen : (ms : List V) (b : Bool) → All ms → (b ≡ true → p PubCrate ≡ true) → All (or_one ms (crate_or_public b))
  widest-seen [] true h f = (f refl, tt)
  widest-seen [] false h f = (public, tt)
  widest-seen (m ∷ ms) b h f = h

  deciding-seen : (o : Option V) (vs : List V) → find is_private vs ≡ o → All vs → All (deciding_by o vs)
  deciding-seen (Some v) vs e h = absurd ((hidden vs v e).1 h)
  deciding-seen None vs e h = widest-seen (distinct_visibilities vs) (list_any is_pub_crate vs) (All-firsts [] vs h) (crate-seen vs h)

  -- ---- and who sees those sees all

  All-behind : (before vs : List V) → find is_private vs ≡ None → All before → All (firsts_behind before vs) → (list_any is_pub_crate vs ≡ true → p PubCrate ≡ true) → All vs
  All-behind before [] e b h f = tt
  All-behind before (PubSelf x ∷ vs) e b h f = cc
  All-behind before (PubCrate ∷ vs) e b h f = (f refl, All-behind before vs e b h (λ t. f refl))
  All-behind before (Public ∷ vs) e b h f = (public, All-behind before vs e b h f)
  All-behind before (Module q x ∷ vs) e b h f =
      elim (cases_Bool (list_any (same_visibility (Module q x)) before)) [
        | inl t ↦ (All-same before (Module q x) t b, All-behind before vs e b (rw t at h) f)
        | inr t ↦ let k : All (Module q x ∷ firsts_behind (before ++ Module q x ∷ []) vs) = rw t at h in (k.0, All-behind (before ++ Module q x ∷ []) vs e (All-push before (Module q x) b k.0) k.1 f)
      ]

  first-wider : (before vs : List V) (m : V) (ms : List V) → firsts_behind before vs ≡ m ∷ ms → p m ≡ true → p PubCrate ≡ true
  first-wider before [] m ms e h = cc
  first-wider before (Module q x ∷ vs) m ms e h =
      elim (cases_Bool (list_any (same_visibility (Module q x)) before)) [
        | inl t ↦ first-wider before vs m ms (rw t at e) h
        | inr t ↦ let k : Module q x ∷ firsts_behind (before ++ Module q x ∷ []) vs ≡ m ∷ ms = rw t at e in
            let s : Module q x ≡ m = cc in wider q x (ap p s ∙ h)
      ]
  first-wider before (_ ∷ vs) m ms e h = first-wider before vs m ms e h

  widest-back : (vs ms : List V) (b : Bool) → distinct_visibilities vs ≡ ms → All (or_one ms (crate_or_public b)) → All ms × (b ≡ true → p PubCrate ≡ true)
  widest-back vs [] true e h = (tt, (λ t. h.0))
  widest-back vs [] false e h = (tt, (λ t. absurd (false≢true t)))
  widest-back vs (m ∷ ms) b e h = (h, (λ t. first-wider [] vs m ms e h.0))

  all-seen : (o : Option V) (vs : List V) → find is_private vs ≡ o → All (deciding_by o vs) → All vs
  all-seen (Some v) vs e h = absurd (false≢true (sym (hidden vs v e).0 ∙ h.0))
  all-seen None vs e h = let r = widest-back vs (distinct_visibilities vs) (list_any is_pub_crate vs) refl h in All-behind [] vs e tt r.0 r.1

  pub decide : (vs : List V) → list_all p (deciding vs) ≡ list_all p vs
  decide vs =
      same_from_decides (list_all p (deciding vs)) (list_all p vs)
      ((λ h. All-to vs (all-seen (find is_private vs) vs refl (All-from (deciding vs) h))), (λ h. All-to (deciding vs) (deciding-seen (find is_private vs) vs refl (All-from vs h))))
      ((λ h. h), (λ h. h))

inside-sees : (modules : List Path) (vs : List V) → list_all (seen_from inside modules) vs ≡ true
inside-sees modules [] = refl
inside-sees modules (v ∷ vs) = inside-sees modules vs

deciding-decide : (at : Where) (modules : List Path) (vs : List V) → list_all (seen_from at modules) (deciding vs) ≡ list_all (seen_from at modules) vs
deciding-decide inside modules vs = inside-sees modules (deciding vs) ∙ sym (inside-sees modules vs)
deciding-decide in_crate modules vs = decide (seen_from in_crate modules) refl (λ e. refl) (λ q e h. refl) vs
deciding-decide outside modules vs = decide (seen_from outside modules) refl (λ e. refl) (λ q e h. cc) vs

ctor-seen : (place : Place) (n : NamedView) (fields : FieldsView) → CtorIsSeen place n fields
ctor-seen place n record_fields = tt
ctor-seen place n no_fields = refl
ctor-seen place n (tuple_fields fields) =
    let vs = written_vis n (tuple_fields fields) in
    ap (sees_all place) (ctor_vis_from (deciding vs)) ∙ deciding-decide place.at place.modules vs

mutual
  item-seen : (place : Place) (i : ItemView) → CtorIsSeenIn place i
  item-seen place (struct_item n fields) = ctor-seen place n fields
  item-seen place (listed_module n semicolon is) = items-seen place is
  item-seen place _ = tt

  items-seen : (place : Place) (is : ItemViews) → CtorsAreSeenIn place is
  items-seen place no_items = tt
  items-seen place (item_and i is) = (item-seen place i, items-seen place is)

pub ctors_are_seen : (s : SyntaxView) → CtorsAreSeen s
ctors_are_seen s = record { everywhere = λ place. items-seen place (items_of s) }
