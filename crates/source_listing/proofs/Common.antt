-- The names that most proofs here cite, passed on from one place. Declares nothing.
pub use Rattle.tree_walk.specs.Listed.{listed_import}
pub use Rattle.hir_input.specs.declared.edition.Edition.{Edition}
pub use Rattle.item_tree.proofs.Walking.{flat_map_of_id}
pub use Rattle.item_tree.specs.Imports.{Import}
unfoldable pub use Rattle.item_tree.specs.Layout.{node_at}
pub use Rattle.item_tree.specs.Node.{Forest, Node, Unfolding, empty, leaf, more, nodes, parent}
pub use Rattle.item_tree.specs.Shown.{StandFor}
pub use Rattle.item_tree.specs.Tree.{Tree, branch_nodes, branches_from}
pub use Rattle.item_tree.specs.Walk.{children, children_at, count_at}
pub use Rattle.rust_cursor.proofs.TokenRests.{LeadsTo, behind_closed_leads, behind_tree_leads, beyond_leads, bumped_leads, eat_pair_leads, here, through, when}
pub use Rattle.rust_items.specs.declared.source_file.ItemPlace.{ItemPlace}
pub use Rattle.serde_json.specs.View.{items_of, view}
pub use Rattle.source_listing.specs.Inner.{IsPrinterOf, IsSameFile, file_of, objects_at, places_of, reserved_of}
pub use Rattle.source_listing.specs.Views.{placed_trees_view, choice_view, look_view, query_view, shown_item_view, source_view}
pub use Rattle.source_listing.specs.Lines.{Choice, Source, is_chosen, is_listed}
pub use Rattle.source_listing.specs.Entries.{Entry, EntryKind, ItemView, item_at, item_entry, item_in, member_entry, of_import, of_item, of_member}
pub use Rattle.source_listing.specs.Objects.{column_form, entry_object, file_form, flat_object, header_form, entry_id, line_form, listed_objects, member_object, member_objects, member_spot, name_form, names_form, node_objects, own_objects, entry_subject, problem_objects, range_form, subject_form, tree_objects, visibility_form, whole_object}
pub use Rattle.source_rows.specs.Places.{place_of, spot_in}
pub use Rattle.line_index.specs.declared.Units.{Units}
pub use Rattle.line_index.specs.declared.Units.TheVariants.{Characters}
pub use Rattle.source_listing.specs.Search.{Candidate, found_object}
pub use Rattle.source_listing.specs.Paths.{bare_segment}
pub use Rattle.list_forms.specs.Lines.{column_number, line_number}
pub use Rattle.source_listing.specs.Uses.{FilePlaces, PlacedText, from_place, file_places, with_places}
pub use Rattle.source_rows.specs.declared.finder.Spot.{Spot}
pub use Rattle.source_listing.specs.declared.printer.Printer.{Printer}
pub use Rattle.source_rows.specs.Listed.{Listed, MemberReading, header_of, members_of}
pub use Rattle.source_rows.specs.ListedViews.{listed_view, reading_view}
pub use Rattle.std.proofs.Common.{Bool, Bor, IfOk, List, None, Option, Some, [], ap, append-nil, append_assoc, arith, codes, false, filter, flat_map, get_or, if◌then◌else◌, length, lit<, map, map-id, nat_lt, not, option_copied, option_map, refl, rules, string_bytes, subst, sum_by, sym, take, true, ℕ, ◌*◌, ◌++◌, ◌+◌, ◌<◌, ◌==◌, ◌||◌, ◌∙◌, ◌∷◌, ◌≡◌, ◌≤◌}
pub use Rattle.std.proofs.lemmas.Bool.{false≢true}
pub use Rattle.std.proofs.lemmas.Bool.Decides.{nat_tests}
pub use Rattle.std.proofs.lemmas.Grind.{flat_map-append}
pub use Rattle.std.proofs.lemmas.Iterator.Consumers.{YieldsList-end}
pub use Rattle.std.proofs.lemmas.Iterator.Splits.{YieldsList-from_str_split}
pub use Rattle.std.proofs.lemmas.List.{length-map, map-append, take_more}
pub use Rattle.std.proofs.lemmas.List.Folds.{flat_map-map}
pub use Rattle.std.proofs.lemmas.Result.{on_ok_weaker}
pub use Rattle.std.specs.Option.{option_map_or}
pub use Rattle.tree_walk.specs.Rows.{RowView, Subject, is_file_enabled, no_subject}
pub use Rattle.tree_walk.specs.Views.{row_view}
