-- How many rows have a kind, and how many rows there are.
use Rattle.std.proofs.Common.{◌≡◌, ℕ, ◌+◌, Bool, cond, zero-add, List, [], ◌∷◌, ◌++◌, length, map, refl, ap, sym, ◌∙◌, arith, length-append, count_by}
use Rattle.item_tree.proofs.Common.{map-append, sum_by-append, AstIdKind, RawVisibility, Node, Forest, leaf, parent, empty, more, leaf_kind, trunk_kind, node_count, count, Unfolding, vis_id, leaf_map, trunk_map, LayoutRow, parent_row, row_tag, arena_of, node_walk, walk, node_rows, rows_of, ids, layout, has_tag, same_decides, same_from_decides}
use Rattle.item_tree.specs.Stats.{kind_is, one_if, node_count_of, count_of}
use Rattle.item_tree.proofs.Equality.{tag_decides}
use Rattle.hir_input.specs.contracts.ids.AstIdKind as kinds
use Rattle.item_tree.proofs.Lookup.{leaf_kind-map, trunk_kind-map}

mutual
  length-node_walk : (n : Node) → length (node_walk n) ≡ node_count n
  length-node_walk (leaf h l) = refl
  length-node_walk (parent h t f) = omega (arith, length-append (walk f) (parent h t f ∷ []), length-walk f)

  -- a walk meets each node once
  pub length-walk : (f : Forest) → length (walk f) ≡ count f
  length-walk empty = refl
  length-walk (more n f) = omega (arith, length-append (node_walk n) (walk f), length-node_walk n, length-walk f)

module _ {X : Type 0} (p : X → Bool) where
  pub count-append : (xs ys : List X) → count_by p (xs ++ ys) ≡ count_by p xs + count_by p ys
  count-append xs ys = sum_by-append (λ x. cond (p x) 1 0) xs ys

  pub count-one : (x : X) → count_by p (x ∷ []) ≡ one_if (p x)
  count-one x = zero-add (one_if (p x))

module _ (k : AstIdKind) (arena : List RawVisibility) where
  abbrev counted : List LayoutRow → ℕ
  counted rs = count_by (kind_is k) (map row_tag rs)

  counted-append : (rs qs : List LayoutRow) → counted (rs ++ qs) ≡ counted rs + counted qs
  counted-append rs qs = ap (count_by (kind_is k)) (map-append row_tag rs qs) ∙ count-append (kind_is k) (map row_tag rs) (map row_tag qs)

  mutual
    counted-node : (n : Node) (b : ℕ) → counted (node_rows arena n b) ≡ node_count_of k n
    counted-node (leaf h l) b = count-one (kind_is k) (leaf_kind (leaf_map (vis_id arena) l)) ∙ ap (λ z. one_if (kind_is k z)) (sym (leaf_kind-map (vis_id arena) l))
    counted-node (parent h t f) b =
        let r : LayoutRow = (h, parent_row (trunk_map (vis_id arena) t) (ids b f)) in
        let o : counted (r ∷ []) ≡ one_if (kind_is k (trunk_kind t)) = count-one (kind_is k) (row_tag r) ∙ ap (λ z. one_if (kind_is k z)) (sym (trunk_kind-map (vis_id arena) t)) in
        omega (arith, counted-append (rows_of arena f b) (r ∷ []), counted-forest f b, o)

    pub counted-forest : (f : Forest) (b : ℕ) → counted (rows_of arena f b) ≡ count_of k f
    counted-forest empty b = refl
    counted-forest (more n f) b =
        counted-append (node_rows arena n b) (rows_of arena f (b + length (node_walk n))) ∙ rw (counted-node n b, counted-forest f (b + length (node_walk n))) refl

-- the code's test of a tag is that of the definition
tag-same : (k tag : AstIdKind) → has_tag k tag ≡ kind_is k tag
tag-same k tag =
    let d = tag_decides tag k in
    same_from_decides (has_tag k tag) (kind_is k tag) ((λ h. sym (d.0 h)), (λ e. d.1 (sym e))) (same_decides kinds.the_row.coded k tag)

-- the tags of a tree count its nodes
pub tags-count : (u : Unfolding) (k : AstIdKind) (tags : List AstIdKind) → (layout u).tags ≡ tags → count_by (has_tag k) tags ≡ count_of k u.forest
tags-count u k tags e = (λ i. count_by (λ tag. tag-same k tag i) tags) ∙ ap (count_by (kind_is k)) (sym e) ∙ counted-forest k (arena_of u.forest) u.forest 0
