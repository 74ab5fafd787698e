-- A visibility has one id, so an id lends one item.
use Rattle.std.proofs.Common.{◌≡◌, ℕ, Some, refl, ap, sym, ◌∙◌, subst}
use Rattle.item_tree.proofs.Common.{RawVisibility, leaf_kind, trunk_kind, leaf, parent, file_id, Unfolding, vis_id, leaf_map, trunk_map, arena_of, vis_at, Lent, lent_leaf, lent_parent, IsLent, LendAlike}
use Rattle.item_tree.proofs.Arena.{vis_id-at, leaf-ids, trunk-ids}

vis-number : (u : Unfolding) (i : ℕ) (v : RawVisibility) → vis_at u.forest i ≡ Some v → vis_id (arena_of u.forest) v ≡ i
unfolding vis_at
vis-number u i v h = vis_id-at u.forest i v h

pub vis_once : (u : Unfolding) (i j : ℕ) (v : RawVisibility) → vis_at u.forest i ≡ Some v → vis_at u.forest j ≡ Some v → i ≡ j
vis_once u i j v h k = sym (vis-number u i v h) ∙ vis-number u j v k

lent_once : (u : Unfolding) (i : ℕ) (x y : Lent) → IsLent u i x → IsLent u i y → x ≡ y
lent_once u i (lent_leaf a l) (lent_leaf b m) p q =
    let e : Some (leaf p.head p.item) ≡ Some (leaf q.head q.item) = sym p.found ∙ q.found in
    let one = leaf-ids (vis_at u.forest) (vis_id (arena_of u.forest)) (vis-number u) l p.item p.visible in
    let other = leaf-ids (vis_at u.forest) (vis_id (arena_of u.forest)) (vis-number u) m q.item q.visible in
    let head : p.head ≡ q.head = cc in
    let item : p.item ≡ q.item = cc in
    let id : a ≡ b = p.ast_id ∙ (λ j. file_id (leaf_kind (item j)) (head j)) ∙ sym q.ast_id in
    λ j. lent_leaf (id j) ((sym one ∙ ap (leaf_map (vis_id (arena_of u.forest))) item ∙ other) j)
lent_once u i (lent_parent a t is) (lent_parent b w js) p q =
    let e : Some (parent p.head p.item p.below) ≡ Some (parent q.head q.item q.below) = sym p.found ∙ q.found in
    let one = trunk-ids (vis_at u.forest) (vis_id (arena_of u.forest)) (vis-number u) t p.item p.visible in
    let other = trunk-ids (vis_at u.forest) (vis_id (arena_of u.forest)) (vis-number u) w q.item q.visible in
    let head : p.head ≡ q.head = cc in
    let item : p.item ≡ q.item = cc in
    let id : a ≡ b = p.ast_id ∙ (λ j. file_id (trunk_kind (item j)) (head j)) ∙ sym q.ast_id in
    λ j. lent_parent (id j) ((sym one ∙ ap (trunk_map (vis_id (arena_of u.forest))) item ∙ other) j) ((p.ids ∙ sym q.ids) j)
lent_once u i (lent_leaf a l) (lent_parent b w js) p q = let e : Some (leaf p.head p.item) ≡ Some (parent q.head q.item q.below) = sym p.found ∙ q.found in absurd (cc)
lent_once u i (lent_parent a t is) (lent_leaf b m) p q = let e : Some (parent p.head p.item p.below) ≡ Some (leaf q.head q.item) = sym p.found ∙ q.found in absurd (cc)

-- a tree lends as itself
alike_itself : (u : Unfolding) → LendAlike u u
alike_itself u = record {
  items = lent_once u;
  attributes = λ i. refl;
  visibilities = λ i j v h. ((λ k. vis_once u i j v h k), (λ e. subst (λ k. vis_at u.forest k ≡ Some v) e h));
}

pub alike : (u w : Unfolding) → u ≡ w → LendAlike u w
alike u w e = subst (LendAlike u) e (alike_itself u)
