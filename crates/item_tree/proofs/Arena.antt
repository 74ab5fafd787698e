-- The arena of visibilities: what stands in it has one id, which stays as more is met.
use Rattle.std.proofs.Common.{◌≡◌, ◌<◌, ◌≤◌, ◌+◌, ◌-◌, ℕ, zero, suc, true, false, cond, eqb, List, [], ◌∷◌, ◌++◌, length, map, get_or, Option, None, Some, refl, ap, sym, ◌∙◌, arith, append_assoc, append-nil, length-append, inl, inr, slice_get, not}
use Rattle.item_tree.proofs.Common.{cases_Bool, cases_lt, cond_both, eqb-true, ne_eqb, lt-ltb, le-ltb, false≢true, map-id, prefix_len-append, position_or_len_push, list_any_at, prefix_len-le-length, passes_at_first, slice_get-get_or, slice_get_within, same_Some, list_any, Path, VisibilityExplicitness, Explicit, RawVisibility, Module, PubSelf, ctor_with_min, Leaf, struct_item, Trunk, inline, Forest, fixed_visibilities, first_fixed, arena_place, vis_id, or_public, vis_value, value_at, leaf_map, trunk_map, leaf_vis, trunk_vis, forest_vis, arena_of, meet, meet_all, same_visibility, firsts_behind, distinct_visibilities}
use Rattle.item_tree.proofs.Pieces.{get-left, get-at-seam}
use Rattle.item_tree.proofs.VisibilityEq.{same-sound, same-itself}

abbrev pub V : Type 0
V = RawVisibility

-- ---- places

-- the visibility stands in the arena
abbrev pub Has : List V → V → Type 0
Has xs v = arena_place xs v < length xs

Has-any : (xs : List V) (v : V) → list_any (same_visibility v) xs ≡ true → Has xs v
Has-any [] v h = cc
Has-any (x ∷ xs) v h = elim (cases_Bool (same_visibility v x)) [ inl e ↦ rw e (omega arith) | inr e ↦ rw e (omega (arith, Has-any xs v (rw e at h))) ]

Has-at : (xs : List V) (v : V) → Has xs v → slice_get xs (arena_place xs v) ≡ Some v
Has-at xs v h = slice_get-get_or xs (arena_place xs v) v h ∙ ap Some (sym (same-sound v _ (passes_at_first (same_visibility v) xs v h)))

place-absent : (xs : List V) (v : V) → list_any (same_visibility v) xs ≡ false → arena_place xs v ≡ length xs
place-absent xs v e =
    elim (cases_lt (arena_place xs v) (length xs)) [
      | inl h ↦ absurd (false≢true (sym e ∙ list_any_at (same_visibility v) xs (arena_place xs v) v h (passes_at_first (same_visibility v) xs v h)))
      | inr h ↦ omega (arith, prefix_len-le-length (λ w. not (same_visibility v w)) xs)
    ]

place-right : (xs ys : List V) (v : V) → Has xs v → arena_place (xs ++ ys) v ≡ arena_place xs v
place-right xs ys v h = prefix_len-append (λ w. not (same_visibility v w)) xs ys ∙ rw (ne_eqb (arena_place xs v) (length xs) (λ e. omega arith)) refl

place-push : (xs : List V) (v : V) → arena_place (xs ++ v ∷ []) v ≡ arena_place xs v
place-push xs v =
    position_or_len_push (same_visibility v) xs v
    ∙ rw (same-itself v) (cond_both (eqb (arena_place xs v) (length xs)) (length xs + 0) (arena_place xs v) (λ k. k ≡ arena_place xs v) (λ e. omega (arith, eqb-true (arena_place xs v) (length xs) e)) (λ e. refl))

abbrev pub insert : List V → V → List V
insert xs v = cond (list_any (same_visibility v) xs) xs (xs ++ v ∷ [])

Has-insert : (xs : List V) (v : V) → Has (insert xs v) v
Has-insert xs v =
    cond_both (list_any (same_visibility v) xs) xs (xs ++ v ∷ []) (λ ys. Has ys v) (Has-any xs v)
    (λ e. omega (arith, place-push xs v, prefix_len-le-length (λ w. not (same_visibility v w)) xs, length-append xs (v ∷ [])))

place-insert : (xs : List V) (v : V) → arena_place (insert xs v) v ≡ arena_place xs v
place-insert xs v = cond_both (list_any (same_visibility v) xs) xs (xs ++ v ∷ []) (λ ys. arena_place ys v ≡ arena_place xs v) (λ e. refl) (λ e. place-push xs v)

-- ---- what stands in an arena stays in it

-- ys begins with xs
abbrev pub Extends : List V → List V → Type 0
Extends xs ys = (zs : List V) × (ys ≡ xs ++ zs)

pub length-Extends : (xs ys : List V) → Extends xs ys → length xs ≤ length ys
length-Extends xs ys h = omega (arith, ap length h.1, length-append xs h.0)

meet_all-firsts : (ms vs : List V) → meet_all ms vs ≡ ms ++ firsts_behind ms vs
meet_all-firsts ms [] = sym (append-nil ms)
meet_all-firsts ms (Module p e ∷ vs) =
    elim (cases_Bool (list_any (same_visibility (Module p e)) ms)) [
      | inl t ↦ rw t (meet_all-firsts ms vs)
      | inr t ↦ rw t (meet_all-firsts (ms ++ Module p e ∷ []) vs ∙ append_assoc ms (Module p e ∷ []) (firsts_behind (ms ++ Module p e ∷ []) vs))
    ]
meet_all-firsts ms (_ ∷ vs) = meet_all-firsts ms vs

pub Extends-meet_all : (xs vs : List V) → Extends xs (meet_all xs vs)
Extends-meet_all xs vs = (firsts_behind xs vs, meet_all-firsts xs vs)

pub meet_distinct : (vs : List V) → meet_all [] vs ≡ distinct_visibilities vs
meet_distinct vs = meet_all-firsts [] vs

-- the arena of a forest is what is met in it
pub arena_met : (f : Forest) → arena_of f ≡ meet_all [] (forest_vis f)
unfolding arena_of
arena_met f = sym (meet_distinct (forest_vis f))

pub meet_all-append : (ms vs ws : List V) → meet_all ms (vs ++ ws) ≡ meet_all (meet_all ms vs) ws
meet_all-append ms [] ws = refl
meet_all-append ms (v ∷ vs) ws = meet_all-append (meet ms v) vs ws

-- the arena has the visibilities, or needs not
abbrev pub Knows : List V → V → Type 0
Knows xs (Module p e) = Has xs (Module p e)
Knows xs v = Unit {0}

abbrev pub KnowsAll : List V → List V → Type 0
KnowsAll xs [] = Unit {0}
KnowsAll xs (v ∷ vs) = Knows xs v × KnowsAll xs vs

pub Knows-meet : (xs : List V) (v : V) → Knows (meet xs v) v
Knows-meet xs (Module p e) = Has-insert xs (Module p e)
Knows-meet xs _ = tt

Knows-extend : (xs ys : List V) (v : V) → Extends xs ys → Knows xs v → Knows ys v
Knows-extend xs ys (Module p e) h k = rw h.1 (omega (arith, place-right xs h.0 (Module p e) k, length-append xs h.0))
Knows-extend xs ys _ h k = tt

pub Knows-id : (xs ys : List V) (v : V) → Extends xs ys → Knows xs v → vis_id ys v ≡ vis_id xs v
Knows-id xs ys (Module p e) h k = ap (λ t. arena_place t (Module p e)) h.1 ∙ place-right xs h.0 (Module p e) k
Knows-id xs ys (PubSelf Explicit) h k = refl
Knows-id xs ys _ h k = refl

pub KnowsAll-extend : (xs ys vs : List V) → Extends xs ys → KnowsAll xs vs → KnowsAll ys vs
KnowsAll-extend xs ys [] h k = tt
KnowsAll-extend xs ys (v ∷ vs) h k = (Knows-extend xs ys v h k.0, KnowsAll-extend xs ys vs h k.1)

pub KnowsAll-parts : (xs us vs : List V) → KnowsAll xs (us ++ vs) → KnowsAll xs us × KnowsAll xs vs
KnowsAll-parts xs [] vs k = (tt, k)
KnowsAll-parts xs (u ∷ us) vs k = let p = KnowsAll-parts xs us vs k.1 in ((k.0, p.0), p.1)

pub KnowsAll-meet_all : (xs vs : List V) → KnowsAll (meet_all xs vs) vs
KnowsAll-meet_all xs [] = tt
KnowsAll-meet_all xs (v ∷ vs) = (Knows-extend (meet xs v) (meet_all (meet xs v) vs) v (Extends-meet_all (meet xs v) vs) (Knows-meet xs v), KnowsAll-meet_all (meet xs v) vs)

pub Knows-arena : (f : Forest) → KnowsAll (arena_of f) (forest_vis f)
Knows-arena f = rw (arena_met f) (KnowsAll-meet_all [] (forest_vis f))

-- ---- ids and their visibilities

Knows-at : (xs : List V) (v : V) → length xs ≤ first_fixed → Knows xs v → value_at xs (vis_id xs v) ≡ Some v
Knows-at xs (Module p e) few k = rw (lt-ltb (arena_place xs (Module p e)) first_fixed (omega arith)) (Has-at xs (Module p e) k)
Knows-at xs (PubSelf Explicit) few k = refl
Knows-at xs _ few k = refl

-- each visibility of the arena has its place as its id
abbrev IsSettled : List V → Type 0
IsSettled xs = (k : ℕ) (v : V) → slice_get xs k ≡ Some v → vis_id xs v ≡ k

settled-right : (xs ys : List V) (k : ℕ) (v : V) → k < length xs → vis_id xs v ≡ k → vis_id (xs ++ ys) v ≡ k
settled-right xs ys k (Module p e) l h = place-right xs ys (Module p e) (omega arith) ∙ h
settled-right xs ys k (PubSelf Explicit) l h = h
settled-right xs ys k _ l h = h

settled-push : (xs : List V) (p : Path) (e : VisibilityExplicitness) → list_any (same_visibility (Module p e)) xs ≡ false → IsSettled xs → IsSettled (xs ++ Module p e ∷ [])
settled-push xs p e absent h = λ k v g.
    elim (cases_lt k (length xs)) [
      | inl l ↦ let there = slice_get-get_or xs k v l in
          let same_visibility : get_or xs k v ≡ v = same_Some _ _ (sym (get-left xs (Module p e ∷ []) k _ there) ∙ g) in
          settled-right xs (Module p e ∷ []) k v l (h k v (there ∙ ap Some same_visibility))
      | inr l ↦ let end : k ≡ length xs = omega (arith, slice_get_within (xs ++ Module p e ∷ []) k v g, length-append xs (Module p e ∷ [])) in
          let same_visibility : Module p e ≡ v = same_Some _ _ (sym (get-at-seam xs (Module p e) []) ∙ ap (slice_get (xs ++ Module p e ∷ [])) (sym end) ∙ g) in
          ap (vis_id (xs ++ Module p e ∷ [])) (sym same_visibility) ∙ place-push xs (Module p e) ∙ place-absent xs (Module p e) absent ∙ sym end
    ]

settled-meet : (xs : List V) (v : V) → IsSettled xs → IsSettled (meet xs v)
settled-meet xs (Module p e) h = cond_both (list_any (same_visibility (Module p e)) xs) xs (xs ++ Module p e ∷ []) IsSettled (λ t. h) (λ t. settled-push xs p e t h)
settled-meet xs _ h = h

settled-meet_all : (xs vs : List V) → IsSettled xs → IsSettled (meet_all xs vs)
settled-meet_all xs [] h = h
settled-meet_all xs (v ∷ vs) h = settled-meet_all (meet xs v) vs (settled-meet xs v h)

settled-arena : (f : Forest) → IsSettled (arena_of f)
settled-arena f = rw (arena_met f) (settled-meet_all [] (forest_vis f) (λ k v g. cc))

-- no visibility stands in it twice
pub arena_once : (f : Forest) (j k : ℕ) (v : V) → slice_get (arena_of f) j ≡ Some v → slice_get (arena_of f) k ≡ Some v → j ≡ k
arena_once f j k v g h = sym (settled-arena f j v g) ∙ settled-arena f k v h

fixed-id : (xs : List V) (j : ℕ) (v : V) → slice_get fixed_visibilities j ≡ Some v → vis_id xs v ≡ first_fixed + j
fixed-id xs zero v h = ap (vis_id xs) (same_Some _ _ (sym h))
fixed-id xs (suc zero) v h = ap (vis_id xs) (same_Some _ _ (sym h))
fixed-id xs (suc (suc zero)) v h = ap (vis_id xs) (same_Some _ _ (sym h))
fixed-id xs (suc (suc (suc zero))) v h = ap (vis_id xs) (same_Some _ _ (sym h))
fixed-id xs (suc (suc (suc (suc j)))) v h = cc

-- so an id is that of its visibility
pub vis_id-at : (f : Forest) (i : ℕ) (v : V) → value_at (arena_of f) i ≡ Some v → vis_id (arena_of f) v ≡ i
vis_id-at f i v h =
    elim (cases_lt i first_fixed) [
      | inl l ↦ settled-arena f i v (rw (lt-ltb i first_fixed l) at h)
      | inr l ↦ omega (arith, fixed-id (arena_of f) (i - first_fixed) v (rw (le-ltb i first_fixed l) at h))
    ]

-- ---- items over ids and over visibilities

-- functions that agree at the visibilities of an item make one item of it
leaf-agree : {A B : Type 0} (f g : A → B) (l : Leaf A) → map f (leaf_vis l) ≡ map g (leaf_vis l) → leaf_map f l ≡ leaf_map g l
leaf-agree f g (struct_item n v s (ctor_with_min vs)) h = cc
leaf-agree f g _ h = cc

trunk-agree : {A B : Type 0} (f g : A → B) (t : Trunk A) → map f (trunk_vis t) ≡ map g (trunk_vis t) → trunk_map f t ≡ trunk_map g t
trunk-agree f g (inline n v) h = cc
trunk-agree f g _ h = cc

map-map : {A B C : Type 0} (f : B → C) (g : A → B) (vs : List A) → map f (map g vs) ≡ map (λ v. f (g v)) vs
map-map f g [] = refl
map-map f g (v ∷ vs) = ap (λ z. f (g v) ∷ z) (map-map f g vs)

leaf_map-map : {A B C : Type 0} (f : B → C) (g : A → B) (l : Leaf A) → leaf_map f (leaf_map g l) ≡ leaf_map (λ v. f (g v)) l
leaf_map-map f g (struct_item n v s (ctor_with_min vs)) = ap (λ ws. struct_item n (f (g v)) s (ctor_with_min ws)) (map-map f g vs)
leaf_map-map f g _ = refl

trunk_map-map : {A B C : Type 0} (f : B → C) (g : A → B) (t : Trunk A) → trunk_map f (trunk_map g t) ≡ trunk_map (λ v. f (g v)) t
trunk_map-map f g (inline n v) = refl
trunk_map-map f g _ = refl

leaf_map-itself : {A : Type 0} (l : Leaf A) → leaf_map (λ v. v) l ≡ l
leaf_map-itself (struct_item n v s (ctor_with_min vs)) = ap (λ ws. struct_item n v s (ctor_with_min ws)) (map-id vs)
leaf_map-itself _ = refl

trunk_map-itself : {A : Type 0} (t : Trunk A) → trunk_map (λ v. v) t ≡ t
trunk_map-itself (inline n v) = refl
trunk_map-itself _ = refl

ids-stay : (xs ys vs : List V) → Extends xs ys → KnowsAll xs vs → map (vis_id ys) vs ≡ map (vis_id xs) vs
ids-stay xs ys [] h k = refl
ids-stay xs ys (v ∷ vs) h k = λ i. Knows-id xs ys v h k.0 i ∷ ids-stay xs ys vs h k.1 i

pub leaf-stable : (xs ys : List V) (l : Leaf V) → Extends xs ys → KnowsAll xs (leaf_vis l) → leaf_map (vis_id ys) l ≡ leaf_map (vis_id xs) l
leaf-stable xs ys l h k = leaf-agree (vis_id ys) (vis_id xs) l (ids-stay xs ys (leaf_vis l) h k)

pub trunk-stable : (xs ys : List V) (t : Trunk V) → Extends xs ys → KnowsAll xs (trunk_vis t) → trunk_map (vis_id ys) t ≡ trunk_map (vis_id xs) t
trunk-stable xs ys t h k = trunk-agree (vis_id ys) (vis_id xs) t (ids-stay xs ys (trunk_vis t) h k)

-- what an id of a known visibility says, where the arena is not too long
module _ {B : Type 0} (xs : List V) (few : length xs ≤ first_fixed) (says : Option V → B) where
  values-said : (vs : List V) → KnowsAll xs vs → map (λ v. says (value_at xs (vis_id xs v))) vs ≡ map (λ v. says (Some v)) vs
  values-said [] k = refl
  values-said (v ∷ vs) k = λ i. says (Knows-at xs v few k.0 i) ∷ values-said vs k.1 i

  pub leaf-said : (l : Leaf V) → KnowsAll xs (leaf_vis l) → leaf_map (λ i. says (value_at xs i)) (leaf_map (vis_id xs) l) ≡ leaf_map (λ v. says (Some v)) l
  leaf-said l k = leaf_map-map (λ i. says (value_at xs i)) (vis_id xs) l ∙ leaf-agree (λ v. says (value_at xs (vis_id xs v))) (λ v. says (Some v)) l (values-said (leaf_vis l) k)

  pub trunk-said : (t : Trunk V) → KnowsAll xs (trunk_vis t) → trunk_map (λ i. says (value_at xs i)) (trunk_map (vis_id xs) t) ≡ trunk_map (λ v. says (Some v)) t
  trunk-said t k = trunk_map-map (λ i. says (value_at xs i)) (vis_id xs) t ∙ trunk-agree (λ v. says (value_at xs (vis_id xs v))) (λ v. says (Some v)) t (values-said (trunk_vis t) k)

pub leaf-back : (xs : List V) (l : Leaf V) → length xs ≤ first_fixed → KnowsAll xs (leaf_vis l) → leaf_map (vis_value xs) (leaf_map (vis_id xs) l) ≡ l
leaf-back xs l few k = leaf-said xs few or_public l k ∙ leaf_map-itself l

pub trunk-back : (xs : List V) (t : Trunk V) → length xs ≤ first_fixed → KnowsAll xs (trunk_vis t) → trunk_map (vis_value xs) (trunk_map (vis_id xs) t) ≡ t
trunk-back xs t few k = trunk-said xs few or_public t k ∙ trunk_map-itself t

-- the other way, from what ids say: a function that takes each visibility that one says to the id gives the item over ids back
module _ (g : ℕ → Option V) (b : V → ℕ) (back : (i : ℕ) (v : V) → g i ≡ Some v → b v ≡ i) where
  abbrev number : Option V → ℕ
  number None = 0
  number (Some v) = b v

  numbers-back : (is : List ℕ) (vs : List V) → map g is ≡ map Some vs → map (λ i. number (g i)) is ≡ map (λ i. i) is
  numbers-back [] vs h = refl
  numbers-back (i ∷ is) [] h = absurd (cc)
  numbers-back (i ∷ is) (v ∷ vs) h =
      let e : g i ≡ Some v = cc in let r : map g is ≡ map Some vs = cc in λ j. (ap number e ∙ back i v e) j ∷ numbers-back is vs r j

  leaf_vis-map : {A B : Type 0} (f : A → B) (l : Leaf A) → leaf_vis (leaf_map f l) ≡ map f (leaf_vis l)
  leaf_vis-map f (struct_item n v s (ctor_with_min vs)) = refl
  leaf_vis-map f _ = refl

  trunk_vis-map : {A B : Type 0} (f : A → B) (t : Trunk A) → trunk_vis (trunk_map f t) ≡ map f (trunk_vis t)
  trunk_vis-map f (inline n v) = refl
  trunk_vis-map f _ = refl

  pub leaf-ids : (l : Leaf ℕ) (m : Leaf V) → leaf_map g l ≡ leaf_map Some m → leaf_map b m ≡ l
  leaf-ids l m h =
      sym (leaf_map-map number Some m) ∙ ap (leaf_map number) (sym h) ∙ leaf_map-map number g l
      ∙ leaf-agree (λ i. number (g i)) (λ i. i) l (numbers-back (leaf_vis l) (leaf_vis m) (sym (leaf_vis-map g l) ∙ ap leaf_vis h ∙ leaf_vis-map Some m))
      ∙ leaf_map-itself l

  pub trunk-ids : (t : Trunk ℕ) (w : Trunk V) → trunk_map g t ≡ trunk_map Some w → trunk_map b w ≡ t
  trunk-ids t w h =
      sym (trunk_map-map number Some w) ∙ ap (trunk_map number) (sym h) ∙ trunk_map-map number g t
      ∙ trunk-agree (λ i. number (g i)) (λ i. i) t (numbers-back (trunk_vis t) (trunk_vis w) (sym (trunk_vis-map g t) ∙ ap trunk_vis h ∙ trunk_vis-map Some w))
      ∙ trunk_map-itself t

-- ---- what lowering meets

-- a value that was inserted was met
pub inserted-met : (xs ys : List V) (v : V) (p : Path) (e : VisibilityExplicitness) → v ≡ Module p e → ys ≡ insert xs v → ys ≡ meet xs v
inserted-met xs ys v p e m i = i ∙ ap (insert xs) m ∙ ap (meet xs) (sym m)

-- and this is its id
pub inserted-id : (xs ys : List V) (v : V) (p : Path) (e : VisibilityExplicitness) → v ≡ Module p e → ys ≡ insert xs v → arena_place xs v ≡ vis_id ys v
inserted-id xs ys v p e m i = sym (place-insert xs v) ∙ ap (λ z. arena_place z v) (sym i) ∙ ap (arena_place ys) m ∙ ap (vis_id ys) (sym m)

pub inserted-fits : (xs ys : List V) (v : V) (n : ℕ) → ys ≡ insert xs v → arena_place xs v < n → length xs ≤ n → length ys ≤ n
inserted-fits xs ys v n i h k =
    rw i (cond_both (list_any (same_visibility v) xs) xs (xs ++ v ∷ []) (λ zs. length zs ≤ n) (λ e. k) (λ e. omega (arith, place-absent xs v e, length-append xs (v ∷ []))))

-- a visibility that was met changes nothing when it is met again
pub meet-twice : (xs : List V) (v : V) → meet (meet xs v) v ≡ meet xs v
meet-twice xs (Module p e) =
    elim (cases_Bool (list_any (same_visibility (Module p e)) (insert xs (Module p e)))) [
      | inl t ↦ rw t refl
      | inr t ↦ absurd (let h = Has-insert xs (Module p e) in omega (arith, place-absent (insert xs (Module p e)) (Module p e) t))
    ]
meet-twice xs _ = refl
