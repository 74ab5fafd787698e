-- What lowering adds to the rows, piece by piece.
use Rattle.std.proofs.Common.{◌≡◌, ℕ, ◌+◌, ◌*◌, ◌<◌, ◌≤◌, Bool, true, false, List, [], ◌∷◌, ◌++◌, length, map, get_or, take, drop, Option, Some, None, option_map, refl, ap, sym, ◌∙◌, subst, arith, add-zero, append_assoc, append-nil, length-append, inl, inr, Vec, Global, max}
use Rattle.item_tree.proofs.Common.{cases_Bool, map-append, length-map, take_more, take-append-drop, NodeView, NamedView, ItemView, SyntaxView, node_from, named_from, module_from, extern_block_from, items_from, item_view, module_view, extern_item_view, extern_block_view, module_view-fields, Collected, attr_limit, LowerError, Ctx, Rows, Leaf, Trunk, trunk_kind, leaf_kind, Head, Node, Forest, leaf, parent, empty, more, add, outline, inline, extern_block, count, Unfolding, meet, meet_all, read_visibility, head_of, module_node, vis_id, leaf_map, trunk_map, leaf_vis, trunk_vis, node_vis, forest_vis, arena_of, node_walk, walk, node_id, ids, LayoutRow, leaf_row, parent_row, row_tag, row_key, row_attrs, row_item, kind_bit, node_rows, rows_of, column_of, places_from, super_limit, use_tree_limit, most_attrs, leaf_supers, forest_supers, item_written, items_written, Sizes, IsPassed, only_visibilities, most_written, sizes_of, IsTooLarge, item_row, keys_in, row_items, column_places, column_in, items_below, attrs_in, kept_of, all_kept_in, row_count, Adds, Lowers, sizes_with, Meets, sizes_meeting, sizes_pushing, Pushes}
use Rattle.hir_input.specs.declared.ast.ExternBlock as ast_block
use Rattle.hir_input.specs.declared.ast.ExternItem.{ExternItem}
use Rattle.hir_input.specs.declared.ast.ExternItem.TheVariants as external
use Rattle.hir_input.specs.declared.ast.Module as ast_module
use Rattle.item_tree.specs.declared.fault.LowerError.TheVariants.{TooManyItems, TooManyVisibilities, TooManyUseTrees, TooManyAttributes, TooManySupers, OutOfMemory}
use Rattle.item_tree.proofs.Arena.{V, Extends, length-Extends, Extends-meet_all, meet_all-append, arena_met, KnowsAll, KnowsAll-parts, KnowsAll-meet_all, leaf-stable, trunk-stable}
use Rattle.item_tree.proofs.Column.{column-append, places-append}
use Rattle.item_tree.proofs.Canon.{length-rows_of}
use Rattle.item_tree.proofs.Lookup.{trunk_kind-map, leaf_kind-map}
use Rattle.item_tree.proofs.RowCounts.{length-walk}

-- ---- forests one after another

abbrev pub join : Forest → Forest → Forest
join empty g = g
join (more n f) g = more n (join f g)

pub count-join : (f g : Forest) → count (join f g) ≡ count f + count g
count-join empty g = omega arith
count-join (more n f) g = omega (arith, count-join f g)

pub most_attrs-join : (f g : Forest) → most_attrs (join f g) ≡ max (most_attrs f) (most_attrs g)
most_attrs-join empty g = omega arith
most_attrs-join (more n f) g = omega (arith, most_attrs-join f g)

pub forest_supers-join : (f g : Forest) → forest_supers (join f g) ≡ max (forest_supers f) (forest_supers g)
forest_supers-join empty g = omega arith
forest_supers-join (more n f) g = omega (arith, forest_supers-join f g)

forest_vis-join : (f g : Forest) → forest_vis (join f g) ≡ forest_vis f ++ forest_vis g
forest_vis-join empty g = refl
forest_vis-join (more n f) g = ap (λ vs. node_vis n ++ vs) (forest_vis-join f g) ∙ sym (append_assoc (node_vis n) (forest_vis f) (forest_vis g))

pub met-join : (f g : Forest) (xs : List V) → meet_all xs (forest_vis (join f g)) ≡ meet_all (meet_all xs (forest_vis f)) (forest_vis g)
met-join f g xs = ap (meet_all xs) (forest_vis-join f g) ∙ meet_all-append xs (forest_vis f) (forest_vis g)

pub add-join : (o : Option Node) (f g : Forest) → add o (join f g) ≡ join (add o f) g
add-join None f g = refl
add-join (Some n) f g = refl

pub ids-join : (f g : Forest) (b : ℕ) → ids b (join f g) ≡ ids b f ++ ids (b + length (walk f)) g
ids-join empty g b = rw add-zero refl
ids-join (more n f) g b =
    let lb : (b + length (node_walk n)) + length (walk f) ≡ b + length (node_walk n ++ walk f) = omega (arith, length-append (node_walk n) (walk f)) in
    ap (λ z. node_id b n ∷ z) (ids-join f g (b + length (node_walk n)) ∙ rw lb refl)

pub rows-join : (xs : List V) (f g : Forest) (b : ℕ) → rows_of xs (join f g) b ≡ rows_of xs f b ++ rows_of xs g (b + length (walk f))
rows-join xs empty g b = rw add-zero refl
rows-join xs (more n f) g b =
    let lb : (b + length (node_walk n)) + length (walk f) ≡ b + length (node_walk n ++ walk f) = omega (arith, length-append (node_walk n) (walk f)) in
    ap (λ z. node_rows xs n b ++ z) (rows-join xs f g (b + length (node_walk n)) ∙ rw lb refl)
    ∙ sym (append_assoc (node_rows xs n b) (rows_of xs f (b + length (node_walk n))) (rows_of xs g (b + length (node_walk n ++ walk f))))

-- rows stay the same as the arena grows
module _ (xs ys : List V) (h : Extends xs ys) where
  mutual
    rows-stable-node : (n : Node) (b : ℕ) → KnowsAll xs (node_vis n) → node_rows ys n b ≡ node_rows xs n b
    rows-stable-node (leaf a l) b k = ap (λ z. (a, leaf_row z) ∷ []) (leaf-stable xs ys l h k)
    rows-stable-node (parent a t f) b k =
        let known = KnowsAll-parts xs (trunk_vis t) (forest_vis f) k in
        let r = rows-stable f b known.1 in
        let s = trunk-stable xs ys t h known.0 in
        λ i. r i ++ (a, parent_row (s i) (ids b f)) ∷ []

    rows-stable : (f : Forest) (b : ℕ) → KnowsAll xs (forest_vis f) → rows_of ys f b ≡ rows_of xs f b
    rows-stable empty b k = refl
    rows-stable (more n f) b k =
        let known = KnowsAll-parts xs (node_vis n) (forest_vis f) k in
        let r = rows-stable-node n b known.0 in
        let s = rows-stable f (b + length (node_walk n)) known.1 in
        λ i. r i ++ s i

-- ---- rows that are added

pub Adds-nothing : (r : Rows) → Adds r r []
Adds-nothing r = record { tags = sym (append-nil r.tags.items); keys = sym (append-nil (keys_in r)); items = sym (append-nil (row_items r)); places = sym (append-nil (column_places r)); column = sym (append-nil (column_in r)) }

pub Adds-join : {a b c : Rows} {rs qs : List LayoutRow} → Adds a b rs → Adds b c qs → Adds a c (rs ++ qs)
Adds-join {a} {b} {c} {rs} {qs} h k = record {
  tags = k.tags ∙ rw (h.tags, map-append row_tag rs qs) (append_assoc a.tags.items (map row_tag rs) (map row_tag qs));
  keys = k.keys ∙ rw (h.keys, map-append row_key rs qs) (append_assoc (keys_in a) (map row_key rs) (map row_key qs));
  items = k.items ∙ rw (h.items, map-append row_item rs qs) (append_assoc (row_items a) (map row_item rs) (map row_item qs));
  places =
      let e : length (column_in a) + length (column_of (map row_attrs rs)) ≡ length (column_in b) = omega (arith, ap length h.column, length-append (column_in a) (column_of (map row_attrs rs))) in
      k.places ∙ rw (h.places, map-append row_attrs rs qs, places-append (length (column_in a)) (map row_attrs rs) (map row_attrs qs), e)
      (append_assoc (column_places a) (places_from (length (column_in a)) (map row_attrs rs)) (places_from (length (column_in b)) (map row_attrs qs)));
  column = k.column ∙ rw (h.column, map-append row_attrs rs qs, column-append (map row_attrs rs) (map row_attrs qs)) (append_assoc (column_in a) (column_of (map row_attrs rs)) (column_of (map row_attrs qs)));
}

pub Adds-count : {a b : Rows} {rs : List LayoutRow} → Adds a b rs → row_count b ≡ row_count a + length rs
Adds-count {a} {b} {rs} h =
    omega (arith, ap length h.items, length-append (row_items a) (map row_item rs), length-map rs row_item, length-map a.items.items item_row, length-map b.items.items item_row)

-- nothing but the arena changed
pub kept-adds : (a b : Rows) → b ≡ record a { arena = b.arena } → Adds a b []
kept-adds a b k = subst (λ z. Adds a z []) (sym k) (let n = Adds-nothing a in record { tags = n.tags; keys = n.keys; items = n.items; places = n.places; column = n.column })

pub Lowers-count : {old new : Rows} {w : ℕ} {f : Forest} {is : List ℕ} → Lowers old new w f is → row_count new ≡ row_count old + count f
Lowers-count {old} {new} {w} {f} h = Adds-count h.added ∙ ap (λ z. row_count old + z) (length-rows_of new.arena f (row_count old) ∙ length-walk f)

pub Lowers-extends : {old new : Rows} {w : ℕ} {f : Forest} {is : List ℕ} → Lowers old new w f is → Extends old.arena new.arena
Lowers-extends {old} {new} {w} {f} h = subst (λ z. Extends old.arena z) (sym h.arena_met) (Extends-meet_all old.arena (forest_vis f))

pub Lowers-knows : {old new : Rows} {w : ℕ} {f : Forest} {is : List ℕ} → Lowers old new w f is → KnowsAll new.arena (forest_vis f)
Lowers-knows {old} {new} {w} {f} h = subst (λ z. KnowsAll z (forest_vis f)) (sym h.arena_met) (KnowsAll-meet_all old.arena (forest_vis f))

pub Lowers-join : {a b c : Rows} {v w : ℕ} {f g : Forest} {is js : List ℕ} → Lowers a b v f is → Lowers b c w g js → Lowers a c (max v w) (join f g) (is ++ js)
Lowers-join {a} {b} {c} {v} {w} {f} {g} {is} {js} h k =
    let n = Lowers-count h ∙ ap (λ z. row_count a + z) (sym (length-walk f)) in
    let s : rows_of b.arena f (row_count a) ≡ rows_of c.arena f (row_count a) = sym (rows-stable b.arena c.arena (Lowers-extends k) f (row_count a) (Lowers-knows h)) in
    let r : rows_of c.arena (join f g) (row_count a) ≡ rows_of c.arena f (row_count a) ++ rows_of c.arena g (row_count b) =
    rows-join c.arena f g (row_count a) ∙ ap (λ z. rows_of c.arena f (row_count a) ++ rows_of c.arena g z) (sym n) in
    record {
      given = rw (ids-join f g (row_count a), ← n, h.given, k.given) refl;
      arena_met = k.arena_met ∙ ap (λ z. meet_all z (forest_vis g)) h.arena_met ∙ sym (met-join f g a.arena);
      added = subst (λ z. Adds a c z) (sym r) (Adds-join (subst (λ z. Adds a b z) s h.added) k.added);
      use_trees = omega (arith, h.use_trees, k.use_trees);
      attributes = omega (arith, most_attrs-join f g, h.attributes, k.attributes);
      supers = omega (arith, forest_supers-join f g, h.supers, k.supers);
      within = k.within;
    }

-- ---- one node

-- a node without children, whose visibilities were met
pub Lowers-leaf :
    {o a b : Rows} {i w : ℕ} (h k : Head) (l : Leaf V) (r : Leaf ℕ) → Adds o a [] →
    a.arena ≡ meet_all o.arena (leaf_vis l) → r ≡ leaf_map (vis_id a.arena) l → k ≡ h → length h.attrs.attrs ≤ attr_limit → leaf_supers l ≤ super_limit → w ≤ use_tree_limit →
    Pushes a b (k, leaf_row r) i → Lowers o b w (more (leaf h l) empty) (i ∷ [])
Lowers-leaf {o} {a} {b} {i} {w} h k l r s m e q short few fits p =
    let n : row_count a ≡ row_count o = omega (arith, Adds-count s) in
    let x : r ≡ leaf_map (vis_id b.arena) l = e ∙ ap (λ z. leaf_map (vis_id z) l) (sym p.arena_kept) in
    let z : (k, leaf_row r) ∷ [] ≡ rows_of b.arena (more (leaf h l) empty) (row_count o) = λ j. (q j, leaf_row (x j)) ∷ [] in
    record {
      given = ap (λ v. v ∷ []) (p.given ∙ (λ j. 2 * n j + kind_bit (leaf_kind (e j))) ∙ ap (λ v. 2 * row_count o + kind_bit v) (sym (leaf_kind-map (vis_id a.arena) l)));
      arena_met = p.arena_kept ∙ m ∙ sym (meet_all-append o.arena (leaf_vis l) []);
      added = subst (λ v. Adds o b v) z (Adds-join s p.added);
      use_trees = fits;
      attributes = omega (arith, short);
      supers = omega (arith, few);
      within = p.within;
    }

-- a node with children, whose visibilities were met before theirs
pub Lowers-parent :
    {o a b c : Rows} {w : ℕ} {f : Forest} {is : List ℕ} {i : ℕ} (h k : Head) (t : Trunk V) (r : Trunk ℕ) → Adds o a [] →
    a.arena ≡ meet_all o.arena (trunk_vis t) → r ≡ trunk_map (vis_id a.arena) t → k ≡ h → length h.attrs.attrs ≤ attr_limit →
    Lowers a b w f is → Pushes b c (k, parent_row r is) i → Lowers o c w (more (parent h t f) empty) (i ∷ [])
Lowers-parent {o} {a} {b} {c} {w} {f} {is} {i} h k t r s m e q few l p =
    let n : row_count a ≡ row_count o = omega (arith, Adds-count s) in
    let d : row_count b ≡ row_count o + length (walk f) = omega (arith, Lowers-count l, length-walk f, n) in
    let known : KnowsAll a.arena (trunk_vis t) = subst (λ z. KnowsAll z (trunk_vis t)) (sym m) (KnowsAll-meet_all o.arena (trunk_vis t)) in
    let x : r ≡ trunk_map (vis_id c.arena) t =
    e ∙ sym (trunk-stable a.arena b.arena t (Lowers-extends l) known) ∙ ap (λ z. trunk_map (vis_id z) t) (sym p.arena_kept) in
    let y : rows_of b.arena f (row_count a) ≡ rows_of c.arena f (row_count o) = λ j. rows_of (sym p.arena_kept j) f (n j) in
    let given : is ≡ ids (row_count o) f = l.given ∙ ap (λ z. ids z f) n in
    let goal_rows : rows_of b.arena f (row_count a) ++ (k, parent_row r is) ∷ [] ≡ rows_of c.arena (more (parent h t f) empty) (row_count o) =
    (λ j. y j ++ (q j, parent_row (x j) (given j)) ∷ []) ∙ sym (append-nil (rows_of c.arena f (row_count o) ++ (h, parent_row (trunk_map (vis_id c.arena) t) (ids (row_count o) f)) ∷ [])) in
    record {
      given = ap (λ v. v ∷ []) (p.given ∙ (λ j. 2 * d j + kind_bit (trunk_kind (e j))) ∙ ap (λ v. 2 * (row_count o + length (walk f)) + kind_bit v) (sym (trunk_kind-map (vis_id a.arena) t)));
      arena_met =
          p.arena_kept ∙ l.arena_met ∙ ap (λ z. meet_all z (forest_vis f)) m ∙ sym (meet_all-append o.arena (trunk_vis t) (forest_vis f))
          ∙ sym (meet_all-append o.arena (trunk_vis t ++ forest_vis f) []);
      added = subst (λ v. Adds o c v) goal_rows (Adds-join s (Adds-join l.added p.added));
      use_trees = l.use_trees;
      attributes = omega (arith, few, l.attributes);
      supers = omega (arith, l.supers);
      within = p.within;
    }

-- ---- sizes

pub record AreBelow (a b : Sizes) : Type 0 where
  pub items : a.items ≤ b.items
  pub visibilities : a.visibilities ≤ b.visibilities
  pub use_trees : a.use_trees ≤ b.use_trees
  pub attributes : a.attributes ≤ b.attributes
  pub supers : a.supers ≤ b.supers

-- larger sizes pass what smaller ones do
pub passes : (a b : Sizes) (e : LowerError) → AreBelow a b → IsPassed a e → IsPassed b e
passes a b TooManyItems h p = omega (arith, h.items, p)
passes a b TooManyVisibilities h p = omega (arith, h.visibilities, p)
passes a b TooManyUseTrees h p = omega (arith, h.use_trees, p)
passes a b TooManyAttributes h p = omega (arith, h.attributes, p)
passes a b TooManySupers h p = omega (arith, h.supers, p)
passes a b OutOfMemory h p = tt

pub passes-visibilities : (n : ℕ) (b : Sizes) (e : LowerError) → n ≤ b.visibilities → IsPassed (only_visibilities n) e → IsPassed b e
passes-visibilities n b e h = passes (only_visibilities n) b e (record { items = omega arith; visibilities = h; use_trees = omega arith; attributes = omega arith; supers = omega arith })

pub full-parent :
    {o a b : Rows} {v : ℕ} {f : Forest} {is : List ℕ} (w : ℕ) (h : Head) (t : Trunk V) (e : LowerError) → Adds o a [] →
    Lowers a b v f is → IsPassed (sizes_pushing b h.attrs) e → IsPassed (sizes_with o w (more (parent h t f) empty)) e
full-parent {o} {a} {b} {v} {f} w h t e s l =
    passes (sizes_pushing b h.attrs) (sizes_with o w (more (parent h t f) empty)) e
    (record { items = omega (arith, Adds-count s, Lowers-count l); visibilities = omega arith; use_trees = omega arith; attributes = omega arith; supers = omega arith })

pub below-block : (o : Rows) (w : ℕ) (h : Head) (f : Forest) (e : LowerError) → IsPassed (sizes_with o w f) e → IsPassed (sizes_with o w (more (parent h extern_block f) empty)) e
below-block o w h f e =
    passes (sizes_with o w f) (sizes_with o w (more (parent h extern_block f) empty)) e
    (record { items = omega arith; visibilities = omega (arith, ap length (meet_all-append o.arena (forest_vis f) [])); use_trees = omega arith; attributes = omega arith; supers = omega arith })

-- ---- modules

module _ (m : ast_module.Module) where
  abbrev pub named : NamedView
  named = named_from m.hash m.number m.attrs.items m.name m.visibility m.body

  abbrev pub value : V
  value = read_visibility m.visibility

module _ (ctx : Ctx) (m : ast_module.Module) where
  abbrev pub head : Head
  head = record { hash = m.hash; number = m.number; attrs = attrs_in ctx m.attrs.items }

  abbrev pub below : Forest
  below = all_kept_in ctx (items_below (module_view m))

  abbrev pub module_written : ℕ
  module_written = item_written (module_view m)

  abbrev pub inside : ℕ
  inside = items_written (items_below (module_view m))

  abbrev pub kept_module : Forest
  kept_module = add (kept_of ctx (module_view m)) empty

  kept-module_from : (n : NamedView) (s : Bool) (o : Option (List ItemView)) →
      kept_of ctx (module_from n s o) ≡ option_map (λ name. module_node s (head_of ctx.krate.now.cfg ctx.skipped.now n.node) name (read_visibility n.visibility) (all_kept_in ctx (items_below (module_from n s o)))) n.name
  kept-module_from n s None = refl
  kept-module_from n s (Some is) = refl

  written-module_from : (named : NamedView) (o : Option (List ItemView)) (n : List ℕ) → named.name ≡ Some n →
      item_written (module_from named false o) ≡ items_written (items_below (module_from named false o))
  written-module_from named None n e = refl
  written-module_from named (Some is) n e = rw e refl

  written-inline : (n : List ℕ) → m.name ≡ Some n → m.semicolon ≡ false → module_written ≡ inside
  written-inline n e h =
      let items = option_map (λ v. map item_view v.items) m.items in
      let v : module_view m ≡ module_from (named m) false items = module_view-fields m ∙ ap (λ b. module_from (named m) b items) h in
      ap item_written v ∙ written-module_from (named m) items n e ∙ ap (λ z. items_written (items_below z)) (sym v)

  kept-module : (n : List ℕ) → m.name ≡ Some n → kept_of ctx (module_view m) ≡ Some (module_node m.semicolon head n (value m) below)
  kept-module n e =
      subst (λ z. kept_of ctx z ≡ option_map (λ name. module_node m.semicolon head name (value m) (all_kept_in ctx (items_below z))) m.name) (sym (module_view-fields m)) (kept-module_from (named m) m.semicolon (option_map (λ v. map item_view v.items) m.items))
      ∙ ap (option_map (λ name. module_node m.semicolon head name (value m) below)) e

  kept-inline : (n : List ℕ) → m.name ≡ Some n → m.semicolon ≡ false → kept_module ≡ more (parent head (inline n (value m)) below) empty
  kept-inline n e h = ap (λ o. add o empty) (kept-module n e) ∙ ap (λ b. more (module_node b head n (value m) below) empty) h

  kept-outline : (n : List ℕ) → m.name ≡ Some n → m.semicolon ≡ true → kept_module ≡ more (leaf head (outline n (value m))) empty
  kept-outline n e h = ap (λ o. add o empty) (kept-module n e) ∙ ap (λ b. more (module_node b head n (value m) below) empty) h

  pub Lowers-inline :
      {o a b c : Rows} {is : List ℕ} {i u : ℕ} (k : Head) (n p : List ℕ) → m.name ≡ Some n → m.semicolon ≡ false → p ≡ n → k ≡ head → length head.attrs.attrs ≤ attr_limit → Meets o a (value m) u →
      Lowers a b inside below is → Pushes b c (k, parent_row (inline p u) is) i → Lowers o c module_written kept_module (i ∷ [])
  Lowers-inline {o} {a} {b} {c} {is} {i} {u} k n p e s q d few v h w =
      rw (kept-inline n e s, written-inline n e s)
      (Lowers-parent head k (inline n (value m)) (inline p u) (kept-adds o a v.kept) v.met (λ j. inline (q j) (v.given j)) d few h w)

  pub unmet-module : (o : Rows) (n : List ℕ) (e : LowerError) → m.name ≡ Some n → IsPassed (sizes_meeting o (value m ∷ [])) e → IsPassed (sizes_with o module_written kept_module) e
  unmet-module o n e q =
      let k = meet o.arena (value m) in
      let h : length k ≤ length (meet_all o.arena (forest_vis kept_module)) =
      elim (cases_Bool m.semicolon) [
        | inl s ↦ rw (kept-outline n q s) (omega arith)
        | inr s ↦ rw (kept-inline n q s) (length-Extends k (meet_all k (forest_vis below ++ [])) (Extends-meet_all k (forest_vis below ++ [])))
      ] in
      passes-visibilities (length k) (sizes_with o module_written kept_module) e h

  pub full-inline :
      {o a b : Rows} {is : List ℕ} {u : ℕ} (n : List ℕ) (e : LowerError) → m.name ≡ Some n → m.semicolon ≡ false → Meets o a (value m) u →
      Lowers a b inside below is → IsPassed (sizes_pushing b head.attrs) e → IsPassed (sizes_with o module_written kept_module) e
  full-inline {o} {a} {b} n e q s v h f = rw (kept-inline n q s) (full-parent module_written head (inline n (value m)) e (kept-adds o a v.kept) h f)

-- ---- extern blocks

-- no use trees are written in one
pub none_written : (xs : List ExternItem) → items_written (items_from (map extern_item_view xs)) ≡ 0
none_written [] = refl
none_written (external.Fn n ∷ xs) = omega (arith, none_written xs)
none_written (_ ∷ xs) = omega (arith, none_written xs)

module _ (ctx : Ctx) where
  abbrev pub block_head : ast_block.ExternBlock → Head
  block_head n = record { hash = n.hash; number = n.number; attrs = attrs_in ctx n.attrs.items }

  kept-block_from : (n : NodeView) (o : Option (List ItemView)) → kept_of ctx (extern_block_from n o) ≡ Some (parent (head_of ctx.krate.now.cfg ctx.skipped.now n) extern_block (all_kept_in ctx (items_below (extern_block_from n o))))
  kept-block_from n None = refl
  kept-block_from n (Some is) = refl

  pub kept-block : (n : ast_block.ExternBlock) → kept_of ctx (extern_block_view n) ≡ Some (parent (block_head n) extern_block (all_kept_in ctx (items_below (extern_block_view n))))
  kept-block n = kept-block_from (node_from n.hash n.number n.attrs.items n.body) (option_map (λ v. map extern_item_view v.items) n.items)

written-block_from : (n : NodeView) (o : Option (Vec ExternItem Global)) → let i = extern_block_from n (option_map (λ v. map extern_item_view v.items) o) in item_written i ≡ items_written (items_below i)
written-block_from n None = refl
written-block_from n (Some is) = sym (none_written is.items)

pub written-block : (n : ast_block.ExternBlock) → item_written (extern_block_view n) ≡ items_written (items_below (extern_block_view n))
written-block n = written-block_from (node_from n.hash n.number n.attrs.items n.body) n.items

-- ---- several items

-- of a list of what is seen as items
module _ (ctx : Ctx) {X : Type 0} (seen : X → ItemView) where
  abbrev pub kept_list : List X → Forest
  kept_list xs = all_kept_in ctx (items_from (map seen xs))

  abbrev pub written_list : List X → ℕ
  written_list xs = items_written (items_from (map seen xs))

  abbrev pub kept_one : X → Forest
  kept_one x = add (kept_of ctx (seen x)) empty

  kept_list-append : (us vs : List X) → kept_list (us ++ vs) ≡ join (kept_list us) (kept_list vs)
  kept_list-append [] vs = refl
  kept_list-append (u ∷ us) vs = ap (add (kept_of ctx (seen u))) (kept_list-append us vs) ∙ add-join (kept_of ctx (seen u)) (kept_list us) (kept_list vs)

  written_list-append : (us vs : List X) → written_list (us ++ vs) ≡ max (written_list us) (written_list vs)
  written_list-append [] vs = omega arith
  written_list-append (u ∷ us) vs = omega (arith, written_list-append us vs)

  kept_list-push : (xs : List X) (i : ℕ) (x : X) → x ≡ get_or xs i x → i < length xs → kept_list (take (i + 1) xs) ≡ join (kept_list (take i xs)) (kept_one x)
  kept_list-push xs i x e h =
      let t : take (i + 1) xs ≡ take i xs ++ x ∷ [] = take_more xs i x h ∙ ap (λ z. take i xs ++ z ∷ []) (sym e) in
      ap kept_list t ∙ kept_list-append (take i xs) (x ∷ [])

  written_list-push : (xs : List X) (i : ℕ) (x : X) → x ≡ get_or xs i x → i < length xs → written_list (take (i + 1) xs) ≡ max (written_list (take i xs)) (item_written (seen x))
  written_list-push xs i x e h =
      let t : take (i + 1) xs ≡ take i xs ++ x ∷ [] = take_more xs i x h ∙ ap (λ z. take i xs ++ z ∷ []) (sym e) in
      let one : written_list (x ∷ []) ≡ item_written (seen x) = omega arith in
      ap written_list t ∙ written_list-append (take i xs) (x ∷ []) ∙ ap (max (written_list (take i xs))) one

  written_list-split : (xs : List X) (i : ℕ) → written_list xs ≡ max (written_list (take i xs)) (written_list (drop i xs))
  written_list-split xs i = ap written_list (sym (take-append-drop i xs)) ∙ written_list-append (take i xs) (drop i xs)

  kept_list-split : (xs : List X) (i : ℕ) → kept_list xs ≡ join (kept_list (take i xs)) (kept_list (drop i xs))
  kept_list-split xs i = ap kept_list (sym (take-append-drop i xs)) ∙ kept_list-append (take i xs) (drop i xs)

  pub Lowers-step :
      {a b c : Rows} {is js : List ℕ} (xs : List X) (i : ℕ) (x : X) → x ≡ get_or xs i x → i < length xs →
      Lowers a b (written_list (take i xs)) (kept_list (take i xs)) is → Lowers b c (item_written (seen x)) (kept_one x) js →
      (ks : List ℕ) → is ++ js ≡ ks → Lowers a c (written_list (take (i + 1) xs)) (kept_list (take (i + 1) xs)) ks
  Lowers-step {a} {b} {c} {is} {js} xs i x e h p q ks k = rw (← k, kept_list-push xs i x e h, written_list-push xs i x e h) (Lowers-join p q)

  pub passed-step :
      {a b : Rows} {is : List ℕ} (xs : List X) (i : ℕ) (x : X) (e : LowerError) → x ≡ get_or xs i x → i < length xs →
      Lowers a b (written_list (take i xs)) (kept_list (take i xs)) is → IsPassed (sizes_with b (item_written (seen x)) (kept_one x)) e →
      IsPassed (sizes_with a (written_list xs) (kept_list xs)) e
  passed-step {a} {b} xs i x e q h p =
      let rest = kept_list (drop (i + 1) xs) in
      let here = meet_all b.arena (forest_vis (kept_one x)) in
      let whole : kept_list xs ≡ join (join (kept_list (take i xs)) (kept_one x)) rest = kept_list-split xs (i + 1) ∙ ap (λ f. join f rest) (kept_list-push xs i x q h) in
      let m : meet_all a.arena (forest_vis (kept_list xs)) ≡ meet_all here (forest_vis rest) =
      ap (λ z. meet_all a.arena (forest_vis z)) whole ∙ met-join (join (kept_list (take i xs)) (kept_one x)) rest a.arena
      ∙ ap (λ z. meet_all z (forest_vis rest)) (met-join (kept_list (take i xs)) (kept_one x) a.arena ∙ ap (λ z. meet_all z (forest_vis (kept_one x))) (sym p.arena_met)) in
      passes (sizes_with b (item_written (seen x)) (kept_one x)) (sizes_with a (written_list xs) (kept_list xs)) e (record {
        items = omega (arith, Lowers-count p, ap count whole, count-join (join (kept_list (take i xs)) (kept_one x)) rest, count-join (kept_list (take i xs)) (kept_one x));
        visibilities = omega (arith, ap length m, length-Extends here (meet_all here (forest_vis rest)) (Extends-meet_all here (forest_vis rest)));
        use_trees = omega (arith, written_list-split xs (i + 1), written_list-push xs i x q h);
        attributes = omega (arith, ap most_attrs whole, most_attrs-join (join (kept_list (take i xs)) (kept_one x)) rest, most_attrs-join (kept_list (take i xs)) (kept_one x));
        supers = omega (arith, ap forest_supers whole, forest_supers-join (join (kept_list (take i xs)) (kept_one x)) rest, forest_supers-join (kept_list (take i xs)) (kept_one x));
      })

-- ---- a size that is passed by rows made from nothing is one of the tree

pub passed-from_nothing :
    (old : Rows) (f : Forest) (c : Collected) (s : SyntaxView) (e : LowerError) → old.items.items ≡ [] → old.arena ≡ [] →
    IsPassed (sizes_with old (most_written s) f) e → IsTooLarge s (record { top_attrs = c; forest = f }) e
passed-from_nothing old f c s e items arena h =
    let u : Unfolding = record { top_attrs = c; forest = f } in
    let m : meet_all old.arena (forest_vis f) ≡ arena_of f = ap (λ z. meet_all z (forest_vis f)) arena ∙ sym (arena_met f) in
    passes (sizes_with old (most_written s) f) (sizes_of s u) e (record {
      items = omega (arith, ap length items);
      visibilities = omega (arith, ap length m);
      use_trees = omega arith;
      attributes = omega arith;
      supers = omega arith;
    }) h
