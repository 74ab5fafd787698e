-- Attributes `macro_export` of items, by their ids.
use Rattle.std.proofs.Common.{◌≡◌, ℕ, List, map, Option, Some, None, refl, ap, ◌∙◌, sum_by, count_by, codes}
use Rattle.std.specs.{Borrow.Bor, Option.option_map_or, Prelude.option_map}
use Rattle.item_tree.specs.{Layout.node_at, Node.Node, Node.node_head, Node.Unfolding, Shown.attrs_at, Shown.lent_attrs, Walk.of_id}
use Rattle.item_tree.proofs.Walking.{sum_by_of_id}
use Rattle.item_tree_attrs.specs.{Collected.Collected, Collected.collection_of, Key.has_key, declared.collect.AttrsOrCfg.AttrsOrCfg}
use Rattle.tree_walk.specs.Preorder.{preorder}
use Rattle.def_map.specs.Inner.Walking.{collected_in, lent_collected}
use Rattle.def_map.specs.Tables.{node_exports, tree_exports}
use Rattle.def_map.proofs.LentItems.{attrs_shown, collected_lent}

exports_of : (o : Option Node) → count_by (has_key (codes "macro_export")) (lent_collected (option_map_or (λ n. lent_attrs (node_head n).attrs) o None)).attrs ≡ option_map_or node_exports o 0
exports_of None = refl
exports_of (Some n) = ap (λ (c : Collected). count_by (has_key (codes "macro_export")) c.attrs) (attrs_shown (node_head n).attrs)

pub exports_lent : (u : Unfolding) (i : ℕ) (o : Option (Bor AttrsOrCfg)) → option_map (λ attrs. collection_of attrs.now) o ≡ attrs_at u i → count_by (has_key (codes "macro_export")) (collected_in o).attrs ≡ of_id u 0 node_exports i
exports_lent u i o e = ap (λ (c : Collected). count_by (has_key (codes "macro_export")) c.attrs) (collected_lent o (attrs_at u i) e) ∙ exports_of (node_at u.forest i)

pub exports_by_ids : (u : Unfolding) (is : List ℕ) → map (node_at u.forest) is ≡ map Some (preorder u.forest) → sum_by (of_id u 0 node_exports) is ≡ tree_exports u
exports_by_ids u is e = sum_by_of_id u node_exports is (preorder u.forest) e
