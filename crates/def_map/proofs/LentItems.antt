-- What the item of an id adds, by what is lent for it.
use Rattle.std.proofs.Common.{◌≡◌, ℕ, List, [], ◌∷◌, ◌++◌, map, Option, Some, None, refl, ap, sym, ◌∙◌, append-nil, append_assoc, flat_map, get_or, drop, length, not, ◌<◌, ◌+◌}
use Rattle.std.proofs.lemmas.{List.drop_more, Option.slice_get-map, Simd.map-map}
use Rattle.std.specs.List.{enumerate_from}
use Rattle.std.specs.{Borrow.Bor, Option.option_map_or, Prelude.option_map, Prelude.slice_get}
use Rattle.hir_input.specs.{declared.attr.Attr.Attr, declared.ids.FileAstId.FileAstId, Cfg.CfgView}
use Rattle.item_tree.specs.{declared.visibility.RawVisibility.RawVisibility, Layout.leaf_map, Layout.trunk_map, Layout.ctor_map, Layout.node_at, Layout.vis_at}
use Rattle.item_tree.specs.Node.{Ctor, no_ctor, ctor_with, ctor_with_min, Leaf, plain, struct_item, Trunk, inline, extern_block, Node, leaf, parent, Forest, empty, more, nodes, node_head, node_ast, Unfolding}
use Rattle.item_tree.specs.{Reach.child_ids, Shown.StandFor, Shown.Lent, Shown.lent_leaf, Shown.lent_parent, Shown.IsLent, Shown.lent_attrs, Shown.attrs_at}
use Rattle.item_tree.proofs.Walking.{of_id_is, leaf_of_id, parent_of_id}
use Rattle.item_tree_attrs.specs.{Collected.Collected, Collected.collection_of, declared.collect.AttrsOrCfg.AttrsOrCfg}
use Rattle.def_map.specs.declared.ctx.Ctx.{Ctx}
use Rattle.def_map.specs.declared.{kinds.Visibility.Visibility, kinds.Visibility.TheVariants.Public, push.Owner.Owner, push.Place.Place}
use Rattle.def_map.specs.Attributes.{attr_marks}
use Rattle.def_map.specs.declared.attributes.Marks.{Marks}
use Rattle.hir_input.specs.declared.ast.PlainKind.{PlainKind}
use Rattle.std.proofs.lemmas.Option.{none-some, same_Some}
use Rattle.def_map.specs.Inner.Walking.{lent_other, lent_plain, plain_rows, collected_in, id_rows, lent_collected, lent_inside, lent_own}
use Rattle.def_map.specs.Tables.{CrateSources, CrateRow, least_visibility, ctor_visibility, leaf_rows, trunk_rows, place_inside, visibility_in, marked_rows, present_by, present_rows, node_rows, forest_rows, tree_rows, hidden_rows, file_rows}
use Rattle.def_map.specs.Views.{sources_view}

-- ---- attributes that are lent

shown_one : (attrs : List Attr) (cfg : Option CfgView) → lent_collected (lent_attrs (record { attrs = attrs; false_cfg = cfg })) ≡ record { attrs = attrs; false_cfg = cfg }
shown_one [] None = refl
shown_one [] (Some cfg) = refl
shown_one (a ∷ attrs) cfg = refl

pub attrs_shown : (c : Collected) → lent_collected (lent_attrs c) ≡ c
attrs_shown c = shown_one c.attrs c.false_cfg

-- those of the node of an id
node_shown : (u : Unfolding) (i : ℕ) (n : Node) → node_at u.forest i ≡ Some n → lent_collected (attrs_at u i) ≡ (node_head n).attrs
node_shown u i n e = ap (λ o. lent_collected (option_map_or (λ m. lent_attrs (node_head m).attrs) o None)) e ∙ attrs_shown (node_head n).attrs

-- attributes that are lent, as plain data
pub collected_lent : (o : Option (Bor AttrsOrCfg)) (c : Option Collected) → option_map (λ attrs. collection_of attrs.now) o ≡ c → collected_in o ≡ lent_collected c
collected_lent None c e = ap lent_collected e
collected_lent (Some attrs) c e = ap lent_collected e

-- ---- what stands for a visibility does not matter, but for who sees what has it

module _ {V W : Type 0} (parents : List (Option ℕ)) (s : CrateSources) (f : V → W) (o : Owner) (see : W → Visibility) where
  ctor_seen : (c : Ctor V) → ctor_visibility parents see (ctor_map f c) ≡ ctor_visibility parents (λ v. see (f v)) c
  ctor_seen no_ctor = refl
  ctor_seen (ctor_with v) = refl
  ctor_seen (ctor_with_min vs) = ap (λ all. Some (least_visibility parents all)) (map-map see f vs)

  leaf_seen : (l : Leaf V) → leaf_rows parents s o see (leaf_map f l) ≡ leaf_rows parents s o (λ v. see (f v)) l
  leaf_seen (plain k n v) = refl
  leaf_seen (struct_item n v shape c) = rw (ctor_seen c) refl
  leaf_seen _ = refl

  trunk_seen : (t : Trunk V) → trunk_rows parents s o see (trunk_map f t) ≡ trunk_rows parents s o (λ v. see (f v)) t
  trunk_seen (inline n v) = refl
  trunk_seen extern_block = refl

  inside_seen : (t : Trunk V) → place_inside parents s o (trunk_map f t) ≡ place_inside parents s o t
  inside_seen (inline n v) = refl
  inside_seen extern_block = refl

module _ (ctx : Ctx) (u : Unfolding) where
  abbrev P : List (Option ℕ)
  P = ctx.parents.now

  abbrev S : CrateSources
  S = sources_view ctx.sources

  -- items whose ids stand for a forest
  pub forest_by_ids : (p : Place) (is : List ℕ) (f : Forest) → StandFor u is f → flat_map (id_rows ctx u p) is ≡ forest_rows P S p f
  forest_by_ids p [] empty e = refl
  forest_by_ids p [] (more n f) e = absurd (cc)
  forest_by_ids p (i ∷ is) empty e = absurd (cc)
  forest_by_ids p (i ∷ is) (more n f) e =
      let first : node_at u.forest i ≡ Some n = cc in
      let others : map (node_at u.forest) is ≡ map Some (nodes f) = cc in
      rw (of_id_is u [] (node_rows P S p) i n first, forest_by_ids p is f others) refl

  module _ (p : Place) (i : ℕ) where
    -- who sees what has this visibility, if there is one
    abbrev see : Option RawVisibility → Visibility
    see v = option_map_or (visibility_in P S p.at) v Public

    abbrev rows_inside : Option Place → List CrateRow
    rows_inside q = option_map_or (λ inner. flat_map (id_rows ctx u inner) (child_ids u i)) q []

    abbrev owner : Collected → FileAstId → Owner
    owner c a = record { place = p; id = a; marks = attr_marks c.attrs }

    abbrev whole : Collected → FileAstId → Lent → List CrateRow
    whole c a x = present_rows S.manifest.features p.at c (lent_own ctx u (owner c a) x ++ rows_inside (lent_inside ctx (owner c a) x))

    inner_rows : (is : List ℕ) (f : Forest) → is ≡ child_ids u i → StandFor u is f → (q : Option Place) → option_map_or (λ inner. forest_rows P S inner f) q [] ≡ rows_inside q
    inner_rows is f d e None = refl
    inner_rows is f d e (Some q) = sym (forest_by_ids q is f e) ∙ ap (flat_map (id_rows ctx u q)) d

    same_id : (n : Node) (a : FileAstId) → node_at u.forest i ≡ Some n → option_map node_ast (node_at u.forest i) ≡ Some a → node_ast n ≡ a
    same_id n a e f = let g : Some (node_ast n) ≡ Some a = sym (ap (option_map node_ast) e) ∙ f in cc

    -- what is added, by what is lent
    pub lent_adds : (x : Lent) (c : Collected) (a : FileAstId) → IsLent u i x → c ≡ lent_collected (attrs_at u i) → option_map node_ast (node_at u.forest i) ≡ Some a → id_rows ctx u p i ≡ whole c a x
    lent_adds (lent_leaf b l) c a q e f =
        let n = leaf q.head q.item in
        let o = owner q.head.attrs (node_ast n) in
        let attrs : q.head.attrs ≡ c = sym (e ∙ node_shown u i n q.found) in
        let seen : leaf_rows P S o (visibility_in P S p.at) q.item ≡ leaf_rows P S o (λ v. see (vis_at u.forest v)) l =
        sym (leaf_seen P S Some o see q.item) ∙ ap (leaf_rows P S o see) (sym q.visible) ∙ leaf_seen P S (vis_at u.forest) o see l in
        leaf_of_id u [] (node_rows P S p) i b l q ∙ ap (present_rows S.manifest.features p.at q.head.attrs) (seen ∙ sym (append-nil _)) ∙ (λ k. whole (attrs k) (same_id n a q.found f k) (lent_leaf b l))
    lent_adds (lent_parent b t is) c a q e f =
        let n = parent q.head q.item q.below in
        let o = owner q.head.attrs (node_ast n) in
        let attrs : q.head.attrs ≡ c = sym (e ∙ node_shown u i n q.found) in
        let seen : trunk_rows P S o (visibility_in P S p.at) q.item ≡ trunk_rows P S o (λ v. see (vis_at u.forest v)) t =
        sym (trunk_seen P S Some o see q.item) ∙ ap (trunk_rows P S o see) (sym q.visible) ∙ trunk_seen P S (vis_at u.forest) o see t in
        let place : place_inside P S o q.item ≡ place_inside P S o t =
        sym (inside_seen P S Some o see q.item) ∙ ap (place_inside P S o) (sym q.visible) ∙ inside_seen P S (vis_at u.forest) o see t in
        let within : option_map_or (λ inner. forest_rows P S inner q.below) (place_inside P S o q.item) [] ≡ rows_inside (place_inside P S o t) =
        inner_rows is q.below q.ids q.children (place_inside P S o q.item) ∙ ap rows_inside place in
        parent_of_id u [] (node_rows P S p) i b t is q ∙ (λ k. present_rows S.manifest.features p.at q.head.attrs (seen k ++ within k)) ∙ (λ k. whole (attrs k) (same_id n a q.found f k) (lent_parent b t is))

    abbrev by_marks : Marks → FileAstId → Owner
    by_marks m a = record { place = p; id = a; marks = m }

    -- where no cfg disables it
    opened : (x : Lent) (o : Option (Bor AttrsOrCfg)) (a : FileAstId) (m : Marks) → IsLent u i x → option_map (λ attrs. collection_of attrs.now) o ≡ attrs_at u i → option_map node_ast (node_at u.forest i) ≡ Some a
        → None ≡ (collected_in o).false_cfg → m ≡ attr_marks (collected_in o).attrs
        → id_rows ctx u p i ≡ marked_rows p.at m ++ (lent_own ctx u (by_marks m a) x ++ rows_inside (lent_inside ctx (by_marks m a) x))
    opened x o a m q h f none e =
        let C = collected_in o in
        let M = attr_marks C.attrs in
        lent_adds x C a q (collected_lent o (attrs_at u i) h) f
        ∙ ap (λ (cfg : Option CfgView). present_by S.manifest.features p.at M cfg (lent_own ctx u (by_marks M a) x ++ rows_inside (lent_inside ctx (by_marks M a) x))) (sym none)
        ∙ ap (λ (k : Marks). marked_rows p.at k ++ (lent_own ctx u (by_marks k a) x ++ rows_inside (lent_inside ctx (by_marks k a) x))) (sym e)

    -- the rows that an item adds, where no items stand in it, and where some do
    pub none_inside : (x : Lent) (o : Option (Bor AttrsOrCfg)) (a : FileAstId) (m : Marks) (v0 v1 v2 : List CrateRow) → IsLent u i x → option_map (λ attrs. collection_of attrs.now) o ≡ attrs_at u i
        → option_map node_ast (node_at u.forest i) ≡ Some a → None ≡ (collected_in o).false_cfg → m ≡ attr_marks (collected_in o).attrs
        → v1 ≡ v0 ++ marked_rows p.at m → v2 ≡ v1 ++ lent_own ctx u (by_marks m a) x → None ≡ lent_inside ctx (by_marks m a) x → v2 ≡ v0 ++ id_rows ctx u p i
    none_inside x o a m v0 v1 v2 q h f none e d1 d2 gone =
        let own = lent_own ctx u (by_marks m a) x in
        d2 ∙ ap (λ (v : List CrateRow). v ++ own) d1 ∙ append_assoc v0 (marked_rows p.at m) own ∙ ap (λ (r : List CrateRow). v0 ++ (marked_rows p.at m ++ r)) (sym (append-nil own) ∙ ap (λ (r : Option Place). own ++ rows_inside r) gone)
        ∙ ap (λ (r : List CrateRow). v0 ++ r) (sym (opened x o a m q h f none e))

    pub some_inside : (x : Lent) (o : Option (Bor AttrsOrCfg)) (a : FileAstId) (m : Marks) (r : Place) (js : List ℕ) (v0 v1 v2 v3 : List CrateRow) → IsLent u i x
        → option_map (λ attrs. collection_of attrs.now) o ≡ attrs_at u i → option_map node_ast (node_at u.forest i) ≡ Some a → None ≡ (collected_in o).false_cfg → m ≡ attr_marks (collected_in o).attrs
        → v1 ≡ v0 ++ marked_rows p.at m → v2 ≡ v1 ++ lent_own ctx u (by_marks m a) x → Some r ≡ lent_inside ctx (by_marks m a) x → js ≡ child_ids u i
        → v3 ≡ v2 ++ flat_map (id_rows ctx u r) js → v3 ≡ v0 ++ id_rows ctx u p i
    some_inside x o a m r js v0 v1 v2 v3 q h f none e d1 d2 at d d3 =
        let own = lent_own ctx u (by_marks m a) x in
        let marked = marked_rows p.at m in
        let inner = flat_map (id_rows ctx u r) js in
        let same : inner ≡ rows_inside (lent_inside ctx (by_marks m a) x) = ap (flat_map (id_rows ctx u r)) d ∙ ap rows_inside at in
        d3 ∙ ap (λ (v : List CrateRow). v ++ inner) (d2 ∙ ap (λ (v : List CrateRow). v ++ own) d1) ∙ append_assoc (v0 ++ marked) own inner ∙ append_assoc v0 marked (own ++ inner)
        ∙ ap (λ (w : List CrateRow). v0 ++ (marked ++ (own ++ w))) same ∙ ap (λ (w : List CrateRow). v0 ++ w) (sym (opened x o a m q h f none e))

  -- ---- the items of a file

  abbrev file_place : ℕ → Marks → Place
  file_place at m = record { at = at; is_certain = not m.is_foreign }

  pub file_adds : (at : ℕ) (o : Option (Bor AttrsOrCfg)) (m : Marks) (is : List ℕ) (v0 v1 v2 : List CrateRow) → option_map (λ attrs. collection_of attrs.now) o ≡ lent_attrs u.top_attrs
      → None ≡ (collected_in o).false_cfg → m ≡ attr_marks (collected_in o).attrs → StandFor u is u.forest
      → v1 ≡ v0 ++ marked_rows at m → v2 ≡ v1 ++ flat_map (id_rows ctx u (file_place at m)) is → v2 ≡ v0 ++ tree_rows P S at u
  file_adds at o m is v0 v1 v2 h none e g d1 d2 =
      let all : collected_in o ≡ u.top_attrs = collected_lent o (lent_attrs u.top_attrs) h ∙ attrs_shown u.top_attrs in
      let same : m ≡ attr_marks u.top_attrs.attrs = e ∙ ap (λ (c : Collected). attr_marks c.attrs) all in
      let cfg : None ≡ u.top_attrs.false_cfg = none ∙ ap (λ (c : Collected). c.false_cfg) all in
      let inner = forest_rows P S (file_place at m) u.forest in
      d2 ∙ ap (λ (v : List CrateRow). v ++ flat_map (id_rows ctx u (file_place at m)) is) d1 ∙ append_assoc v0 (marked_rows at m) _
      ∙ ap (λ (w : List CrateRow). v0 ++ (marked_rows at m ++ w)) (forest_by_ids (file_place at m) is u.forest g)
      ∙ ap (λ (k : Marks). v0 ++ (marked_rows at k ++ forest_rows P S (file_place at k) u.forest)) same
      ∙ ap (λ (f : Option CfgView). v0 ++ present_by S.manifest.features at (attr_marks u.top_attrs.attrs) f (forest_rows P S (file_place at (attr_marks u.top_attrs.attrs)) u.forest)) cfg

-- ---- files and modules

pub tree_lent : (trees : List (Bor Unfolding)) (k : ℕ) → slice_get (map (λ tree. tree.now) trees) k ≡ option_map (λ tree. tree.now) (slice_get trees k)
tree_lent trees k = slice_get-map (λ tree. tree.now) trees k

-- what a file's bodies hide, and then what its items add
pub file_joined : (parents : List (Option ℕ)) (s : CrateSources) (at : ℕ) (u : Unfolding) (o : Option Unfolding) (w words : Option ℕ) (v0 v1 v2 : List CrateRow) → Some u ≡ o → w ≡ words
    → v1 ≡ v0 ++ hidden_rows u w → v2 ≡ v1 ++ tree_rows parents s at u → v2 ≡ v0 ++ file_rows parents s at words o
file_joined parents s at u o w words v0 v1 v2 e d h g =
    g ∙ ap (λ (v : List CrateRow). v ++ tree_rows parents s at u) h ∙ append_assoc v0 (hidden_rows u w) (tree_rows parents s at u)
    ∙ (λ k. v0 ++ file_rows parents s at (d k) (e k))

-- one more module
pub module_more : {X : Type 0} (h : ℕ × X → List CrateRow) (xs : List X) (at : ℕ) (x : X) (v w all : List CrateRow) → at < length xs → x ≡ get_or xs at x → w ≡ v ++ h (at, x)
    → v ++ flat_map h (enumerate_from at (drop at xs)) ≡ all → w ++ flat_map h (enumerate_from (at + 1) (drop (at + 1) xs)) ≡ all
module_more {X} h xs at x v w all f is e d =
    let rest = flat_map h (enumerate_from (at + 1) (drop (at + 1) xs)) in
    ap (λ (r : List CrateRow). r ++ rest) e ∙ append_assoc v (h (at, x)) rest
    ∙ ap (λ (ys : List X). v ++ flat_map h (enumerate_from at ys)) (ap (λ (y : X). y ∷ drop (at + 1) xs) is ∙ sym (drop_more xs at x f)) ∙ d

-- ---- plain items, and others

module _ (ctx : Ctx) (u : Unfolding) (o : Owner) where
  pub own_plain : (x : Lent) (n : PlainKind × List ℕ × ℕ) → lent_plain x ≡ Some n → lent_own ctx u o x ≡ plain_rows ctx u o n
  own_plain (lent_leaf a (plain k name v)) n e = ap (plain_rows ctx u o) (same_Some (k, name, v) n e)
  own_plain (lent_leaf a _) n e = absurd (none-some n e)
  own_plain (lent_parent a t is) n e = absurd (none-some n e)

  pub own_other : (x : Lent) → lent_plain x ≡ None → lent_own ctx u o x ≡ lent_other ctx u o x
  own_other (lent_leaf a (plain k name v)) e = absurd (none-some (k, name, v) (sym e))
  own_other (lent_leaf a _) e = refl
  own_other (lent_parent a t is) e = refl
