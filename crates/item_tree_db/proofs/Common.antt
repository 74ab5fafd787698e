-- The names that most proofs here cite, passed on from one place. Declares nothing.
pub use Rattle.hir_input.specs.Cfg.{AtomView}
pub use Rattle.hir_input.specs.Syntax.{SyntaxView, syntax_view}
pub use Rattle.item_tree.specs.Code.Node.{unfolding_code}
pub use Rattle.item_tree.specs.CrateView.{CrateView, crate_view}
pub use Rattle.item_tree.specs.Same.{equal_of_same, same, same_itself, same_of_equal}
pub use Rattle.item_tree.specs.declared.crate_data.CrateData.{CrateData}
pub use Rattle.item_tree_db.specs.Edits.{EditView, NamesPlaceOf, edit_view, remove, set, set_cfg}
pub use Rattle.item_tree_db.specs.History.{ChangesBodiesOnly, IgnoresBodies, IsAfter, IsChangeNumber, IsFooting, changed_after, crate_after, gives, last_number_below, last_some, moves, present_after, sets, under_options, unfolding_after}
pub use Rattle.item_tree_db.specs.Inner.Recent.{AreNoted, HoldsNoted, IsNoted, newest_number, noted_cmp}
pub use Rattle.item_tree_db.specs.Inner.Settled.{brought, clear_all, empty_row, fresh_row, settle_all, settled_row}
pub use Rattle.item_tree_db.specs.Inner.Shelf.{HasPut, IsInOrder, Places, Shelved, change_at, fresh_of, placed_at, recast_one, recast_each, take_out, row_in, set_to, syntax_in}
pub use Rattle.item_tree_db.specs.Inner.Sizes.{CratesFit, PlacesFit, PlacesPass}
pub use Rattle.item_tree_db.specs.Inner.Source.{edit_of, source_place, source_syntax}
pub use Rattle.item_tree_db.specs.Inner.Table.{IsLed, IsRowOf, IsSound, IsStep, Table, held_of, lowered_at, next_number, next_table, row_at, state_of, syntax_at, table_from}
pub use Rattle.item_tree_db.specs.Inner.Walk.{HoldChanged, has_change, HasFew, HasFewRows, HasNumber, HoldNumbers, Walk, all_changes, changes_from, late_changes, changes_left, walk_over, over_all, rows_in, walk_of}
pub use Rattle.item_tree_db.specs.PlaceOrder.{place_cmp, place_cmp_total, same_place}
pub use Rattle.item_tree_db.specs.Refusal.{FirstFit, FitsAfter, IsRefusal, NamesKnown, TreeFits, TreePasses, UnlessMemory}
pub use Rattle.item_tree_db.specs.Since.{ArePlacesSince, Change, HoldLate, IsGrounded, IsLate, IsSince, IsSinceAmong, change_cmp}
pub use Rattle.item_tree_db.specs.State.{Held, State, change_number, crate_limit, find, with_cfg, is_root_of, present, unfolding_at, unfolding_of}
pub use Rattle.item_tree_db.specs.declared.edit.Edit.TheVariants.{SetCfg}
pub use Rattle.item_tree_db.specs.declared.place.Place.{Place}
pub use Rattle.item_tree_db.specs.declared.place.Place.TheVariants.{Block, File}
pub use Rattle.item_tree_db.specs.declared.rows.Row.{Row}
pub use Rattle.item_tree_db.specs.declared.source.Source.{Source}
pub use Rattle.std.proofs.lemmas.Bool.Decides.{nat_tests}
pub use Rattle.std.proofs.lemmas.List.{drop-drop, drop_more, get_or-drop, get_or-map, length-append, length-drop, length-map, map_more, nil_from_length, take-append-le, take-map, take_all}
pub use Rattle.std.proofs.lemmas.List.Elements.{All-append, All-cons, All-contains, All-contains_itself, All-filter, All-from_recursion, All-head, All-nil, All-tail, All-take, All-weaker, Contains-append_cases, Contains-append_left, Contains-append_right, filter_passes}
pub use Rattle.std.proofs.lemmas.Map.Keys.{IsDistinct-from_sorted, sorted_head, sorted_tail}
pub use Rattle.std.proofs.lemmas.Map.Views.{btree_set_IsUpperBound-last, btree_set_contains_iff, lookup-from_Contains}
pub use Rattle.std.proofs.lemmas.Option.{IfSome_then, none-some, same_Some, slice_get-map, slice_get_read, slice_get_within, unwrap_or-slice_get}
pub use Rattle.std.proofs.lemmas.Result.{err_from_is_err_and}
pub use Rattle.std.specs.BTreeMap.{BTreeMap, is_at}
pub use Rattle.std.specs.Cmp.{IsTotalOrder, nat_cmp_total, on_total, then_total, tied_itself}
pub use Rattle.std.specs.List.{AllByRecursion, flat_map, list_any}
unfoldable pub use Rattle.std.specs.List.Sorted.{IsStrictlySortedBy}
pub use Rattle.std.specs.Map.{keys_of}
pub use Rattle.std.specs.Option.{option_and_then, option_map, option_or, unwrap_or}
pub use Rattle.std.specs.Ordering.{eq_by_cmp, is_eq, is_lt, nat_cmp, ordering_then}
pub use Rattle.std.specs.declared.cmp.Ordering.{Ordering}
pub use Rattle.std.specs.declared.cmp.Ordering.TheVariants.{Equal, Greater, Less}
