-- What the stored tables of a tree say of what they unfold to.
use Rattle.std.proofs.Common.{◌≡◌, ℕ, ◌/◌, ◌%◌, ◌<◌, ◌≤◌, List, [], ◌++◌, length, map, get_or, Some, None, Vec, Global, refl, ap, sym, ◌∙◌, subst, arith, append-nil, slice_get, is_some, option_map, vec_len}
use Rattle.item_tree.proofs.Common.{option_map_or, length-map, map-id, same_Some, slice_get-map, slice_get_read, slice_get_within, AstIdKind, Rows, Leaf, plain, Trunk, inline, leaf_kind, trunk_kind, Node, Forest, leaf, parent, nodes, node_head, node_kind, node_ast, Unfolding, vis_id, leaf_map, trunk_map, trunk_vis, forest_vis, LayoutRow, row_tag, head_key, row_key, row_attrs, row_item, arena_of, walk, ids, node_id, rows_of, kind_bit, layout, node_at, vis_at, unfold_tables, has_no_attributes, unless, some_unless, column_of, plain_place, stored_at, top_ids, IsContained, Lent, lent_leaf, lent_parent, IsLent, lent_attrs, attrs_at, Fits, item_row, lent_ast, lent_row, key_in, column_in, tables_of, AreSound}
use Rattle.item_tree.specs.declared.items.ModItem.{ModItem}
use Rattle.item_tree.specs.declared.rows.AstKey.{AstKey}
use Rattle.item_tree.proofs.Arena.{KnowsAll-parts, leaf-said, trunk-said}
use Rattle.item_tree.proofs.Canon.{kind_bit-small, length-rows_of}
use Rattle.item_tree.proofs.Column.{lent-back, lent-each, places-length}
use Rattle.item_tree.proofs.TreeWalks.{Lies, IsMet, row_of, node_at-id, child_ids-at, stand-at, row-met, at-id_of, row-within, top_ids-is, top-stands}

pub leaf_kind-map : {V W : Type 0} (f : V → W) (l : Leaf V) → leaf_kind l ≡ leaf_kind (leaf_map f l)
leaf_kind-map f (plain k n v) = refl
leaf_kind-map f _ = refl

pub trunk_kind-map : {V W : Type 0} (f : V → W) (t : Trunk V) → trunk_kind t ≡ trunk_kind (trunk_map f t)
trunk_kind-map f (inline n v) = refl
trunk_kind-map f _ = refl

-- a column is read where its row stands
column-read : {X Y : Type 0} (see : X → Y) (told : LayoutRow → Y) (xs : List X) (rs : List LayoutRow) (k : ℕ) (x : X) (r : LayoutRow) → map told rs ≡ map see xs → x ≡ get_or xs k x → slice_get rs k ≡ Some r → see x ≡ told r
column-read see told xs rs k x r e g s =
    let l : k < length xs = omega (arith, slice_get_within rs k r s, ap length e, length-map rs told, length-map xs see) in
    same_Some _ _ (ap (option_map see) (sym (slice_get_read xs (length xs) k x refl l g)) ∙ sym (slice_get-map see xs k) ∙ ap (λ ys. slice_get ys k) (sym e) ∙ slice_get-map told rs k ∙ ap (option_map told) s)

module _ {u : Unfolding} {top : List ℕ} {place : ℕ} {t : Rows} (view : unfold_tables (tables_of top place t) ≡ u) (sound : AreSound top place t) where
  abbrev f : Forest
  f = u.forest

  abbrev rs : List LayoutRow
  rs = rows_of (arena_of f) f 0

  pub fits : Fits u
  fits = subst (λ w. Fits w) view sound.fits

  pub canon : layout u ≡ tables_of top place t
  canon = ap layout (sym view) ∙ sound.laid_out

  tops : ids 0 f ≡ top
  tops = ap (λ z. z.top) canon

  pub tops-are : top ≡ top_ids u
  tops-are = sym tops ∙ sym (top_ids-is u)

  pub tops-stand : map (node_at f) top ≡ map Some (nodes f)
  tops-stand = ap (map (node_at f)) (sym tops) ∙ top-stands u

  -- ---- each id has its place in the columns

  tags : map row_tag rs ≡ map (λ k. k) t.tags.items
  tags = ap (λ z. z.tags) canon ∙ sym (map-id t.tags.items)

  column-length : {X Y : Type 0} (see : X → Y) (told : LayoutRow → Y) (xs : List X) → map told rs ≡ map see xs → length xs ≡ length (walk f)
  column-length see told xs e = sym (length-map xs see) ∙ sym (ap length e) ∙ length-map rs told ∙ length-rows_of (arena_of f) f 0

  within : {X : Type 0} (v : Vec X Global) → length v.items ≡ length (walk f) → (i k : ℕ) → k ≡ i / 2 → IsContained u i → k < vec_len v
  unfolding node_at
  within v e i k q h = rw (v.ok.0, e, q) (row-within (walk f) (i / 2) (i % 2) h)

  pub in-tags : (i k : ℕ) → k ≡ i / 2 → IsContained u i → k < vec_len t.tags
  in-tags = within t.tags (column-length (λ k. k) row_tag t.tags.items tags)

  pub in-keys : (i k : ℕ) → k ≡ i / 2 → IsContained u i → k < vec_len t.keys
  in-keys = within t.keys (column-length key_in row_key t.keys.items (ap (λ z. z.keys) canon))

  pub in-items : (i k : ℕ) → k ≡ i / 2 → IsContained u i → k < vec_len t.items
  in-items = within t.items (column-length item_row row_item t.items.items (ap (λ z. z.items) canon))

  pub in-places : (i k : ℕ) → k ≡ i / 2 → IsContained u i → k < vec_len t.places
  in-places =
      within t.places (sym (length-map t.places.items plain_place) ∙ sym (ap (λ z. length z.places) canon) ∙ places-length 0 (map row_attrs rs) ∙ length-map rs row_attrs ∙ length-rows_of (arena_of f) f 0)

  -- ---- what is read there

  -- the head of a row is the node's, and its tag the node's kind
  row-head : (b : ℕ) (n : Node) → (row_of u b n).0 ≡ node_head n
  row-head b (leaf h l) = refl
  row-head b (parent h s g) = refl

  row-kind : (b : ℕ) (n : Node) → row_tag (row_of u b n) ≡ node_kind n
  row-kind b (leaf h l) = sym (leaf_kind-map (vis_id (arena_of f)) l)
  row-kind b (parent h s g) = sym (trunk_kind-map (vis_id (arena_of f)) s)

  module _ (k : ℕ) {i : ℕ} (m : IsMet u i) (same : i / 2 ≡ k) where
    abbrev row : LayoutRow
    row = row_of u m.first m.node

    stored : slice_get rs k ≡ Some row
    stored = subst (λ j. slice_get rs j ≡ Some row) same m.stored

    tag-read : (x : AstIdKind) → x ≡ get_or t.tags.items k x → x ≡ node_kind m.node
    tag-read x g = column-read (λ z. z) row_tag t.tags.items rs k x row tags g stored ∙ row-kind m.first m.node

    key-read : (x : AstKey) → x ≡ get_or t.keys.items k x → key_in x ≡ head_key (node_head m.node)
    key-read x g = column-read key_in row_key t.keys.items rs k x row (ap (λ z. z.keys) canon) g stored ∙ ap head_key (row-head m.first m.node)

    item-read : (x : ModItem) → x ≡ get_or t.items.items k x → item_row x ≡ row_item row
    item-read x g = column-read item_row row_item t.items.items rs k x row (ap (λ z. z.items) canon) g stored

  bit-of : {i : ℕ} (m : IsMet u i) → kind_bit (node_kind m.node) ≡ i % 2
  bit-of m = let small = kind_bit-small (node_kind m.node) in let id = m.id in omega arith

  -- where the row is there, the id is contained exactly if its bit is that of the tag
  pub contains-there : (i : ℕ) (x : AstIdKind) → i / 2 < length t.tags.items → x ≡ get_or t.tags.items (i / 2) x → (kind_bit x ≡ i % 2 → IsContained u i) × (IsContained u i → kind_bit x ≡ i % 2)
  contains-there i x l g =
      let r = row-met u (i / 2) (rw (← column-length (λ k. k) row_tag t.tags.items tags) l) in
      let bits : kind_bit x ≡ r.0 % 2 = ap kind_bit (tag-read (i / 2) r.2 r.1 x g) ∙ bit-of r.2 in
      let rows : r.0 / 2 ≡ i / 2 = r.1 in (
        (λ b. let same : r.0 ≡ i = omega arith in subst (IsContained u) same (ap is_some r.2.found)),
        (λ s. let m = at-id_of u i s in ap kind_bit (tag-read (i / 2) m refl x g) ∙ bit-of m),
      )

  pub contains-past : (i : ℕ) → length t.tags.items ≤ i / 2 → IsContained u i → ⊥
  contains-past i h s = let l : i / 2 < length t.tags.items = rw (← t.tags.ok.0) (in-tags i (i / 2) refl s) in absurd (omega arith)

  pub ast-read : (i : ℕ) (x : AstIdKind) (y : AstKey) → IsContained u i → x ≡ get_or t.tags.items (i / 2) x → y ≡ get_or t.keys.items (i / 2) y → option_map node_ast (node_at f i) ≡ Some (record { kind = x; hash = y.hash; number = y.number })
  ast-read i x y h g k =
      let m = at-id_of u i h in
      let kind = sym (tag-read (i / 2) m refl x g) in
      let key = sym (key-read (i / 2) m refl y k) in
      ap (option_map node_ast) m.found ∙ (λ j. Some (record { kind = kind j; hash = (key j).hash; number = (key j).number }))

  -- ---- what is lent for an id is what stands in its row

  lent-at : (b : ℕ) (n : Node) → Lies u b n → (k : Lent) → lent_ast k ≡ node_ast n → lent_row k ≡ row_item (row_of u b n) → IsLent u (node_id b n) k
  unfolding vis_at
  lent-at b (leaf h l) w (lent_leaf a m) q e =
      let item : m ≡ leaf_map (vis_id (arena_of f)) l = cc in
      record { head = h; item = l; found = node_at-id u b (leaf h l) w; ast_id = q; visible = ap (leaf_map (vis_at f)) item ∙ leaf-said (arena_of f) fits.visibilities (λ o. o) l w.known }
  lent-at b (parent h s g) w (lent_parent a r is) q e =
      let item : r ≡ trunk_map (vis_id (arena_of f)) s = cc in
      let same : is ≡ ids b g = cc in
      let below = same ∙ sym (child_ids-at u b (parent h s g) w) in
      record {
        head = h;
        item = s;
        below = g;
        found = node_at-id u b (parent h s g) w;
        ast_id = q;
        visible = ap (trunk_map (vis_at f)) item ∙ trunk-said (arena_of f) fits.visibilities (λ o. o) s (KnowsAll-parts (arena_of f) (trunk_vis s) (forest_vis g) w.known).0;
        ids = below;
        children = ap (map (node_at f)) below ∙ stand-at u b (parent h s g) w;
      }
  lent-at b _ w _ q e = absurd (cc)

  pub shown : (i : ℕ) (x : ModItem) (k : Lent) → IsContained u i → x ≡ get_or t.items.items (i / 2) x → option_map node_ast (node_at f i) ≡ Some (lent_ast k) → lent_row k ≡ item_row x → IsLent u i k
  shown i x k h g q e =
      let m = at-id_of u i h in
      subst (λ j. IsLent u j k) m.id (lent-at m.first m.node m.lies k (same_Some _ _ (sym q ∙ ap (option_map node_ast) m.found)) (e ∙ item-read (i / 2) m refl x g))

  -- ---- attributes

  pub attrs-read : (i : ℕ) (p : ℕ) → IsContained u i → p ≡ get_or t.places.items (i / 2) p → stored_at (column_in t) (plain_place p) ≡ attrs_at u i
  attrs-read i p h g =
      let k = i / 2 in
      let m = at-id_of u i h in
      let r = row_of u m.first m.node in
      let column = (layout u).column in
      let read : slice_get (layout u).places k ≡ Some (plain_place p) =
      ap (λ z. slice_get z.places k) canon ∙ slice_get-map plain_place t.places.items k ∙ ap (option_map plain_place) (slice_get_read t.places.items (vec_len t.places) k p t.places.ok.0 (in-places i k refl h) g) in
      let all : map (stored_at column) (layout u).places ≡ map lent_attrs (map row_attrs rs) = lent-each [] (unless (has_no_attributes u.top_attrs) u.top_attrs) (map row_attrs rs) in
      let one : Some (stored_at column (plain_place p)) ≡ Some (lent_attrs (row_attrs r)) =
      ap (option_map (stored_at column)) (sym read) ∙ sym (slice_get-map (stored_at column) (layout u).places k) ∙ ap (λ z. slice_get z k) all ∙ slice_get-map lent_attrs (map row_attrs rs) k ∙ ap (option_map lent_attrs) (slice_get-map row_attrs rs k ∙ ap (option_map row_attrs) m.stored) in
      ap (λ z. stored_at z.column (plain_place p)) (sym canon) ∙ same_Some _ _ one ∙ ap (λ z. lent_attrs z.attrs) (row-head m.first m.node)
      ∙ ap (λ o. option_map_or (λ n. lent_attrs (node_head n).attrs) o None) (sym m.found)

  pub top_attrs-read : stored_at (column_in t) (plain_place place) ≡ lent_attrs u.top_attrs
  top_attrs-read =
      let c = u.top_attrs in
      let before = column_of (map row_attrs rs) in
      (λ j. stored_at (sym canon j).column (sym canon j).top_place)
      ∙ ap (λ z. stored_at (before ++ z) (some_unless (has_no_attributes c) (length before))) (sym (append-nil (unless (has_no_attributes c) c)))
      ∙ lent-back before [] c
