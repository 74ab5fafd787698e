-- The tables of a tree whose rows were made from nothing.
use Rattle.std.proofs.Common.{◌≡◌, ℕ, ◌+◌, ◌≤◌, List, [], ◌++◌, length, map, ap, sym, ◌∙◌, subst, arith}
use Rattle.item_tree.proofs.Common.{length-map, Collected, collection_of, attr_limit, Rows, Forest, Unfolding, meet_all, forest_vis, arena_of, ids, LayoutRow, row_tag, row_key, row_attrs, row_item, rows_of, layout, unfold_tables, has_no_attributes, unless, some_unless, column_of, places_from, plain_place, Fits, item_row, key_in, keys_in, row_items, column_places, column_in, tables_of, AreSound, Adds, Lowers, Puts}
use Rattle.item_tree.proofs.Arena.{arena_met}
use Rattle.item_tree.proofs.Canon.{unfold-layout}
use Rattle.item_tree.proofs.Lowering.{Lowers-count}

pub record Unfolds (top : List ℕ) (place : ℕ) (r : Rows) (u : Unfolding) : Type 0 where
  pub unfolded : unfold_tables (tables_of top place r) ≡ u
  pub fit : Fits u
  pub sound : AreSound top place r

module _
    (old new whole : Rows) {w : ℕ} (f : Forest) (c : Collected) (top : List ℕ) (place : ℕ)
    (tags_empty : old.tags.items ≡ []) (keys_empty : old.keys.items ≡ []) (items_empty : old.items.items ≡ [])
    (places_empty : old.places.items ≡ []) (column_empty : old.column.items ≡ []) (arena_empty : old.arena ≡ [])
    (few : length c.attrs ≤ attr_limit) (h : Lowers old new w f top) (k : Puts new.column whole.column c place) (same : whole ≡ record new { column = whole.column }) where
  abbrev pub u : Unfolding
  u = record { top_attrs = c; forest = f }

  abbrev rows : List LayoutRow
  rows = rows_of (arena_of f) f 0

  arena_is : new.arena ≡ arena_of f
  arena_is = h.arena_met ∙ ap (λ z. meet_all z (forest_vis f)) arena_empty ∙ sym (arena_met f)

  added : Adds old new rows
  added = subst (λ z. Adds old new z) (λ i. rows_of (arena_is i) f (length (items_empty i))) h.added

  column_is : column_in new ≡ column_of (map row_attrs rows)
  column_is = added.column ∙ ap (λ z. map collection_of z ++ column_of (map row_attrs rows)) column_empty

  tables-layout : layout u ≡ tables_of top place whole
  tables-layout =
      let t : ids 0 f ≡ top = sym (h.given ∙ ap (λ z. ids (length z) f) items_empty) in
      let tags : map row_tag rows ≡ whole.tags.items = sym (ap (λ z. z.tags.items) same ∙ added.tags ∙ ap (λ z. z ++ map row_tag rows) tags_empty) in
      let keys : map row_key rows ≡ keys_in whole = sym (ap keys_in same ∙ added.keys ∙ ap (λ z. map key_in z ++ map row_key rows) keys_empty) in
      let items : map row_item rows ≡ row_items whole = sym (ap row_items same ∙ added.items ∙ ap (λ z. map item_row z ++ map row_item rows) items_empty) in
      let places : places_from 0 (map row_attrs rows) ≡ column_places whole =
      sym (ap column_places same ∙ added.places ∙ (λ i. map plain_place (places_empty i) ++ places_from (length (map collection_of (column_empty i))) (map row_attrs rows))) in
      let top_place : some_unless (has_no_attributes c) (length (column_of (map row_attrs rows))) ≡ plain_place place =
      sym (k.given ∙ ap (some_unless (has_no_attributes c)) (sym (length-map new.column.items collection_of) ∙ ap length column_is)) in
      let column : column_of (map row_attrs rows) ++ unless (has_no_attributes c) c ≡ column_in whole = sym (k.added ∙ ap (λ z. z ++ unless (has_no_attributes c) c) column_is) in
      let arena : arena_of f ≡ whole.arena = sym (ap (λ z. z.arena) same ∙ arena_is) in
      λ i. record { top = t i; tags = tags i; keys = keys i; items = items i; places = places i; top_place = top_place i; column = column i; arena = arena i }

  pub tables : Unfolds top place whole u
  tables =
      let fit : Fits u = record {
        items = omega (arith, h.within.items, Lowers-count h, ap length items_empty);
        visibilities = omega (arith, h.within.visibilities, ap length arena_is);
        attributes = omega (arith, few, h.attributes);
        supers = h.supers;
      } in
      let unfolded : unfold_tables (tables_of top place whole) ≡ u = ap unfold_tables (sym tables-layout) ∙ unfold-layout u fit.visibilities in
      record { unfolded = unfolded; fit = fit; sound = record { laid_out = ap layout unfolded ∙ tables-layout; fits = subst (λ z. Fits z) (sym unfolded) fit } }
