-- The tables of a forest give the forest back.
use Rattle.std.proofs.Common.{◌≡◌, ℕ, ◌+◌, ◌*◌, ◌/◌, ◌%◌, ◌<◌, ◌≤◌, eq-eqb, List, [], ◌∷◌, ◌++◌, length, map, Some, refl, ap, sym, ◌∙◌, subst, arith, append_assoc, append-nil, length-append, slice_get}
use Rattle.item_tree.proofs.Common.{AstIdKind, RawVisibility, Collected, Node, Forest, leaf, parent, empty, more, node_kind, Unfolding, first_fixed, vis_id, trunk_map, trunk_vis, node_vis, forest_vis, LayoutRow, parent_row, row_key, row_attrs, row_item, arena_of, node_walk, walk, node_id, ids, node_rows, rows_of, kind_bit, layout, nth_node, gather, row_node, build, zip_rows, tables_from, unfold_tables, has_no_attributes, unless, column_of, attrs_stored}
use Rattle.hir_input.specs.declared.ids.AstIdKind.TheVariants as kind
use Rattle.item_tree.proofs.Arena.{KnowsAll, KnowsAll-parts, Knows-arena, leaf-back, trunk-back}
use Rattle.item_tree.proofs.Column.{value-back, values-back}
use Rattle.item_tree.proofs.Pieces.{HasFrom, HasFrom-left, HasFrom-right, HasFrom-append, HasFrom-all}

pub kind_bit-small : (k : AstIdKind) → kind_bit k < 2
kind_bit-small kind.ExternCrate = omega arith
kind_bit-small kind.Module = omega arith
kind_bit-small kind.Struct = omega arith
kind_bit-small kind.Use = omega arith
kind_bit-small _ = omega arith

pub at-id : (ns : List Node) (k : ℕ) (n : Node) → slice_get ns k ≡ Some n → nth_node ns (2 * k + kind_bit (node_kind n)) ≡ Some n
at-id ns k n h =
    let b = kind_bit (node_kind n) in
    let s = kind_bit-small (node_kind n) in
    let d : (2 * k + b) / 2 ≡ k = omega arith in
    let m : (2 * k + b) % 2 ≡ b = omega arith in
    rw (d, m, h, eq-eqb b b refl) refl

pub at-node_id : (ns : List Node) (b : ℕ) (n : Node) → HasFrom ns b (node_walk n) → nth_node ns (node_id b n) ≡ Some n
at-node_id ns b (leaf h l) w = at-id ns b (leaf h l) w.0
at-node_id ns b (parent h t f) w = at-id ns (b + length (walk f)) (parent h t f) (HasFrom-right ns b (walk f) (parent h t f ∷ []) w).0

pub gather-ids : (ns : List Node) (b : ℕ) (f : Forest) → HasFrom ns b (walk f) → gather ns (ids b f) ≡ f
gather-ids ns b empty w = refl
gather-ids ns b (more n f) w =
    let e = at-node_id ns b n (HasFrom-left ns b (node_walk n) (walk f) w) in
    let r = gather-ids ns (b + length (node_walk n)) f (HasFrom-right ns b (node_walk n) (walk f) w) in
    rw (e, r) refl

module _ (arena : List RawVisibility) (few : length arena ≤ first_fixed) where
  build-append : (ns : List Node) (rs qs : List LayoutRow) → build arena ns (rs ++ qs) ≡ build arena (build arena ns rs) qs
  build-append ns [] qs = refl
  build-append ns (r ∷ rs) qs = build-append (ns ++ row_node arena ns r.0 r.1 ∷ []) rs qs

  mutual
    build-node : (n : Node) (ns : List Node) (b : ℕ) → KnowsAll arena (node_vis n) → length ns ≡ b → build arena ns (node_rows arena n b) ≡ ns ++ node_walk n
    build-node (leaf h l) ns b k e = ap (λ z. ns ++ leaf h z ∷ []) (leaf-back arena l few k)
    build-node (parent h t f) ns b k e =
        let known = KnowsAll-parts arena (trunk_vis t) (forest_vis f) k in
        let r : build arena ns (rows_of arena f b) ≡ ns ++ walk f = build-forest f ns b known.1 e in
        let w : HasFrom (ns ++ (walk f ++ [])) (length ns) (walk f) = HasFrom-append ns (walk f) [] in
        let w' : HasFrom (ns ++ walk f) b (walk f) = subst (λ i. HasFrom (ns ++ walk f) i (walk f)) e (subst (λ zs. HasFrom (ns ++ zs) (length ns) (walk f)) (append-nil (walk f)) w) in
        build-append ns (rows_of arena f b) ((h, parent_row (trunk_map (vis_id arena) t) (ids b f)) ∷ [])
        ∙ rw (r, gather-ids (ns ++ walk f) b f w', trunk-back arena t few known.0) (append_assoc ns (walk f) (parent h t f ∷ []))

    pub build-forest : (f : Forest) (ns : List Node) (b : ℕ) → KnowsAll arena (forest_vis f) → length ns ≡ b → build arena ns (rows_of arena f b) ≡ ns ++ walk f
    build-forest empty ns b k e = sym (append-nil ns)
    build-forest (more n f) ns b k e =
        let known = KnowsAll-parts arena (node_vis n) (forest_vis f) k in
        let r = build-node n ns b known.0 e in
        let len : length (ns ++ node_walk n) ≡ b + length (node_walk n) = omega (arith, length-append ns (node_walk n)) in
        let q = build-forest f (ns ++ node_walk n) (b + length (node_walk n)) known.1 len in
        build-append ns (node_rows arena n b) (rows_of arena f (b + length (node_walk n)))
        ∙ rw r (q ∙ append_assoc ns (node_walk n) (walk f))

module _ (arena : List RawVisibility) where
  mutual
    pub length-node_rows : (n : Node) (b : ℕ) → length (node_rows arena n b) ≡ length (node_walk n)
    length-node_rows (leaf h l) b = refl
    length-node_rows (parent h t f) b = omega (arith, length-append (rows_of arena f b) ((h, parent_row (trunk_map (vis_id arena) t) (ids b f)) ∷ []), length-append (walk f) (parent h t f ∷ []), length-rows_of f b)

    -- a walk gives a row for each node
    pub length-rows_of : (f : Forest) (b : ℕ) → length (rows_of arena f b) ≡ length (walk f)
    length-rows_of empty b = refl
    length-rows_of (more n f) b =
        omega (arith, length-append (node_rows arena n b) (rows_of arena f (b + length (node_walk n))), length-append (node_walk n) (walk f), length-node_rows n b, length-rows_of f (b + length (node_walk n)))

pub has_walk : (f : Forest) → HasFrom (walk f) 0 (walk f)
has_walk f = HasFrom-all (walk f)

-- the columns give the rows back
pub zip-columns : (rs : List LayoutRow) → zip_rows (map row_key rs) (map row_attrs rs) (map row_item rs) ≡ rs
zip-columns [] = refl
zip-columns (r ∷ rs) = ap (λ z. r ∷ z) (zip-columns rs)

module _ (top : List ℕ) (arena : List RawVisibility) (rs : List LayoutRow) (c : Collected) where
  pub rows-back : let t = tables_from top arena rs c in zip_rows t.keys (map (attrs_stored t.column) t.places) t.items ≡ rs
  rows-back = ap (λ z. zip_rows (map row_key rs) z (map row_item rs)) (values-back [] (unless (has_no_attributes c) c) (map row_attrs rs)) ∙ zip-columns rs

  pub top-back : let t = tables_from top arena rs c in attrs_stored t.column t.top_place ≡ c
  top-back =
      ap (λ z. attrs_stored (column_of (map row_attrs rs) ++ z) (tables_from top arena rs c).top_place) (sym (append-nil (unless (has_no_attributes c) c)))
      ∙ value-back (column_of (map row_attrs rs)) [] c

-- the tables of a forest stand for it
pub unfold-layout : (u : Unfolding) → length (arena_of u.forest) ≤ first_fixed → unfold_tables (layout u) ≡ u
unfold-layout u few =
    let arena = arena_of u.forest in
    let rs = rows_of arena u.forest 0 in
    let b : build arena [] rs ≡ walk u.forest = build-forest arena few u.forest [] 0 (Knows-arena u.forest) refl in
    let g : gather (build arena [] rs) (ids 0 u.forest) ≡ u.forest = ap (λ z. gather z (ids 0 u.forest)) b ∙ gather-ids (walk u.forest) 0 u.forest (has_walk u.forest) in
    let f : (unfold_tables (layout u)).forest ≡ u.forest = ap (λ z. gather (build arena [] z) (ids 0 u.forest)) (rows-back (ids 0 u.forest) arena rs u.top_attrs) ∙ g in
    let t : (unfold_tables (layout u)).top_attrs ≡ u.top_attrs = top-back (ids 0 u.forest) arena rs u.top_attrs in
    λ i. record { top_attrs = t i; forest = f i }

-- two forests with one layout are one
pub layout-injective : (u w : Unfolding) → length (arena_of u.forest) ≤ first_fixed → layout u ≡ layout w → u ≡ w
layout-injective u w few e = sym (unfold-layout u few) ∙ ap unfold_tables e ∙ unfold-layout w (subst (λ xs. length xs ≤ first_fixed) (ap (λ t. t.arena) e) few)
