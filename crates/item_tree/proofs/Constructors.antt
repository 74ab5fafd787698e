-- The constructors of structs.
use Rattle.std.proofs.Common.{◌≡◌, ℕ, ◌≤◌, List, [], ◌∷◌, ◌++◌, length, map, refl, ap, sym, ◌∙◌, subst, arith, append_assoc}
use Rattle.item_tree.proofs.Common.{attr_limit, LowerError, Rows, ctor_from, Ctor, Head, struct_item, leaf, empty, more, meet, meet_all, vis_id, ctor_map, ctor_vis, leaf_row, Lowers, sizes_with, Meets, MeetsAll, MeetsUpTo, HasId, sizes_meeting, Pushes, IsPassed}
use Rattle.item_tree.specs.declared.items.FieldsShape.{FieldsShape}
use Rattle.item_tree.proofs.Arena.{V, Extends, length-Extends, Extends-meet_all, Knows, Knows-meet, Knows-id, meet-twice}
use Rattle.item_tree.proofs.Lowering.{kept-adds, Adds-join, Lowers-leaf, passes-visibilities}

pub has_id : (o a : Rows) (v : V) (i : ℕ) → Meets o a v i → HasId a v i
has_id o a v i m = record { given = m.given; met = ap (λ z. meet z v) m.met ∙ meet-twice o.arena v ∙ sym m.met }

-- the id of a visibility stays while more are met
id-stays : {o a : Rows} {v : V} {i : ℕ} {ys : List V} → Meets o a v i → Extends a.arena ys → i ≡ vis_id ys v
id-stays {o} {a} {v} {i} {ys} m h = m.given ∙ sym (Knows-id a.arena ys v h (subst (λ z. Knows z v) (sym m.met) (Knows-meet o.arena v)))

-- one more of several is met
pub MeetsUpTo-step :
    {o a b : Rows} {v : V} {vs all : List V} {i : ℕ} {is js : List ℕ} (rest : List V) → rest ≡ v ∷ vs → MeetsUpTo o a all rest is → Meets a b v i → js ≡ is ++ i ∷ [] → MeetsUpTo o b all vs js
MeetsUpTo-step {o} {a} {b} {v} {vs} {all} {i} {is} {js} rest e h m push =
    let end = meet_all b.arena vs in
    let whole : meet_all a.arena rest ≡ end = ap (meet_all a.arena) e ∙ ap (λ z. meet_all z vs) (sym m.met) in
    let id : i ≡ vis_id end v = id-stays m (Extends-meet_all b.arena vs) in
    record {
      met = sym whole ∙ h.met;
      given =
          rw push
          (append_assoc is (i ∷ []) (map (vis_id end) vs) ∙ (λ j. is ++ id j ∷ map (vis_id end) vs) ∙ ap (λ z. is ++ map (vis_id end) z) (sym e)
          ∙ subst (λ k. is ++ map (vis_id k) rest ≡ map (vis_id k) all) whole h.given);
      kept = m.kept ∙ ap (λ (r : Rows). record r { arena = b.arena }) h.kept;
      within = m.within;
    }

pub Lowers-struct :
    {o a b d : Rows} {i u : ℕ} (h q : Head) (n p : List ℕ) (v : V) (s t : FieldsShape) (c : Ctor V) (k : Ctor ℕ) → Meets o a v u → MeetsAll a b (ctor_vis c) → k ≡ ctor_map (vis_id b.arena) c →
    p ≡ n → t ≡ s → q ≡ h → length h.attrs.attrs ≤ attr_limit → Pushes b d (q, leaf_row (struct_item p u t k)) i → Lowers o d 0 (more (leaf h (struct_item n v s c)) empty) (i ∷ [])
Lowers-struct {o} {a} {b} {d} {i} {u} h q n p v s t c k m w x e y z few push =
    let given = id-stays m (subst (λ z. Extends a.arena z) (sym w.met) (Extends-meet_all a.arena (ctor_vis c))) in
    Lowers-leaf h q (struct_item n v s c) (struct_item p u t k) (Adds-join (kept-adds o a m.kept) (kept-adds a b w.kept))
    (w.met ∙ ap (λ r. meet_all r (ctor_vis c)) m.met) (λ j. struct_item (e j) (given j) (y j) (x j)) z few (omega arith) (omega arith) push

pub ctor_vis_from : (vs : List V) → ctor_vis (ctor_from vs) ≡ vs
ctor_vis_from [] = refl
ctor_vis_from (v ∷ []) = refl
ctor_vis_from (v ∷ w ∷ vs) = refl

pub ctor_map_from : {A B : Type 0} (f : A → B) (vs : List A) → ctor_map f (ctor_from vs) ≡ ctor_from (map f vs)
ctor_map_from f [] = refl
ctor_map_from f (v ∷ []) = refl
ctor_map_from f (v ∷ w ∷ vs) = refl

-- ---- sizes

-- the first that is left of several passes the limit
pub unmet-first : (o a : Rows) (v : V) (vs all : List V) (e : LowerError) → meet_all a.arena (v ∷ vs) ≡ meet_all o.arena all → IsPassed (sizes_meeting a (v ∷ [])) e → IsPassed (sizes_meeting o all) e
unmet-first o a v vs all e h =
    let x = meet a.arena v in
    passes-visibilities (length x) (sizes_meeting o all) e (omega (arith, ap length h, length-Extends x (meet_all x vs) (Extends-meet_all x vs)))

pub own-unmet : (o : Rows) (h : Head) (n : List ℕ) (v : V) (s : FieldsShape) (c : Ctor V) (e : LowerError) → IsPassed (sizes_meeting o (v ∷ [])) e → IsPassed (sizes_with o 0 (more (leaf h (struct_item n v s c)) empty)) e
own-unmet o h n v s c e =
    let x = meet o.arena v in
    passes-visibilities (length x) (sizes_with o 0 (more (leaf h (struct_item n v s c)) empty)) e (omega (arith, length-Extends x (meet_all x (ctor_vis c ++ [])) (Extends-meet_all x (ctor_vis c ++ []))))
