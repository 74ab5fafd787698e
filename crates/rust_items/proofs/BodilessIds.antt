-- Ids stand beside documentation and bodies: items without them take the same.
use Rattle.std.proofs.Common.{◌≡◌, List, refl, sym, ap, ◌∙◌}
use Rattle.rust_items.proofs.Common.{FileAstId, items_without_bodies, ItemView, ItemViews, listed_module, listed_extern_block, no_items, item_and, Wanted, clipped_node, clipped_named, clipped_item, clipped_list, first_numbers, numbered_named, numbered_node, held_with_ids, with_ids}
use Rattle.rust_items.proofs.BareItems.{bare, list_bare}

mutual
  held_clipped : (w : Wanted) (own : List FileAstId) (i : ItemView) (ids : List FileAstId)
      → held_with_ids (first_numbers own).0 (clipped_item w i) ids ≡ (clipped_item w (held_with_ids (first_numbers own).0 i ids).0, (held_with_ids (first_numbers own).0 i ids).1)
  held_clipped w own (listed_module m semicolon is) ids = ap (λ r. (listed_module (numbered_named (first_numbers own).0 (clipped_named w m)) semicolon r.0, r.1)) (with_clipped w is ids)
  held_clipped w own (listed_extern_block m is) ids = ap (λ r. (listed_extern_block (numbered_node (first_numbers own).0 (clipped_node w m)) r.0, r.1)) (with_clipped w is ids)
  held_clipped w own _ ids = refl

  pub with_clipped : (w : Wanted) (is : ItemViews) (ids : List FileAstId) → with_ids (clipped_list w is) ids ≡ (clipped_list w (with_ids is ids).0, (with_ids is ids).1)
  with_clipped w no_items ids = refl
  with_clipped w (item_and i is) ids =
      let head = held_with_ids (first_numbers ids).0 i (first_numbers ids).1 in
      ap (λ h. (item_and h.0 (with_ids (clipped_list w is) h.1).0, (with_ids (clipped_list w is) h.1).1)) (held_clipped w ids i (first_numbers ids).1)
      ∙ ap (λ r. (item_and (clipped_item w head.0) r.0, r.1)) (with_clipped w is head.1)

pub with_bodiless : (is : ItemViews) (ids : List FileAstId) → with_ids (items_without_bodies is) ids ≡ (items_without_bodies (with_ids is ids).0, (with_ids is ids).1)
with_bodiless is ids =
    ap (λ l. with_ids l ids) (sym (list_bare is)) ∙ with_clipped bare is ids ∙ ap (λ l. (l, (with_ids is ids).1)) (list_bare (with_ids is ids).0)
