-- The names that most proofs here cite, passed on from one place. Declares nothing.
pub use Rattle.decl_index.specs.Entries.{AreAsOf, IndexView, IsBehind, IsBehindAt, IsDeclared, IsIndexOf, IsListing, entries_at, entries_by, entries_of, entry_name, entry_of}
pub use Rattle.decl_index.specs.EntryOrder.{entry_cmp, entry_cmp_total, name_cmp}
pub use Rattle.decl_index.specs.Inner.{AreChangedEntries, AreGone, AreShelved, IsCatalog, IsOfOne, IsShelfOf, Shelves, FiledTrees, gone_at, gone_by, is_entry_among, is_declared, is_filed, shelf_entries, shelf_at, is_shelved, filed_at, tree_cmp}
pub use Rattle.decl_index.specs.declared.entry.Entry.{Entry}
pub use Rattle.tree_walk.specs.Declarations.{node_name}
pub use Rattle.hir_input.specs.declared.ids.Crate.{Crate}
pub use Rattle.item_tree.proofs.Walking.{each_walked_once, of_id_nothing}
pub use Rattle.item_tree.specs.IdOrder.{id_cmp_ties}
unfoldable pub use Rattle.item_tree.specs.IdOrder.{id_cmp}
pub use Rattle.item_tree.specs.Node.{Node, Unfolding}
pub use Rattle.item_tree.specs.Walk.{of_id}
pub use Rattle.item_tree_db.proofs.Places.{equal_of, same_is}
pub use Rattle.item_tree_db.specs.PlaceOrder.{place_cmp, same_place}
pub use Rattle.item_tree_db.specs.Since.{Change, HoldLate, IsGrounded, IsLate, IsSince}
pub use Rattle.item_tree_db.specs.State.{IsKnown, State, change_number, new_table, present, unfolding_at}
pub use Rattle.item_tree_db.specs.declared.place.Place.{Place}
pub use Rattle.std.proofs.Common.{All, Bool, Contains, Equal, Err, Global, IfOk, IfSome, Less, List, None, Ok, OnErr, OnOk, Option, Ordering, Result, Some, String, [], ap, append_assoc, arith, bytes_eq, cond, false, filter, flat_map, inl, inr, is_some, length, map, nat_eq, nat_lt, not, option_map, refl, rules, slice_index_or, string_bytes, subst, suc, sym, take, true, true≢false, unwrap_or, zero, ℕ, ◌&&◌, ◌++◌, ◌+◌, ◌<◌, ◌||◌, ◌∙◌, ◌∷◌, ◌≡◌, ◌≤◌, ◌↔◌, ◌⊎◌}
pub use Rattle.std.proofs.lemmas.Bool.Decides.{nat_tests}
pub use Rattle.std.proofs.lemmas.List.Elements.{All-append, All-cons, All-contains, All-contains_itself, All-filter, All-head, All-nil, All-tail, All-weaker, Contains-append_cases, Contains-append_left, Contains-append_right, filter_passes}
pub use Rattle.std.proofs.lemmas.List.Kept.{IsStrictlySortedBy-filter}
pub use Rattle.std.proofs.lemmas.List.Sorted.{Contains-permutation, IsPermutation-filter_both}
pub use Rattle.std.proofs.lemmas.Map.Lookups.{CmpEqualImpliesEq, btree_set_from_contains, exact_bytes, exact_pairs, exact_unsigned}
pub use Rattle.std.proofs.lemmas.Map.Views.{btree_set_contains_iff, tells_apart}
pub use Rattle.std.proofs.lemmas.Option.{none-some, same_Some}
pub use Rattle.std.specs.BTreeMap.{BTreeMap, is_at}
pub use Rattle.std.specs.BTreeSet.{BTreeSet}
pub use Rattle.std.specs.Cmp.{IsTotalOrder, tied_itself}
pub use Rattle.std.specs.Cmp.Lexicographic.{pointwise}
pub use Rattle.std.specs.List.{AllByRecursion, list_any}
unfoldable pub use Rattle.std.specs.List.Sorted.{IsStrictlySortedBy}
pub use Rattle.std.specs.Map.{update}
pub use Rattle.std.specs.Option.{option_map_or}
pub use Rattle.std.specs.Ordering.{eq_by_cmp, is_eq, nat_cmp, ordering_then}
