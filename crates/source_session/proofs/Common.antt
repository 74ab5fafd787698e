-- The names that most proofs here cite, passed on from one place. Declares nothing.
pub use Rattle.decl_index.specs.Entries.{IsDeclared}
pub use Rattle.decl_index.specs.declared.entry.Entry.{Entry}
pub use Rattle.tree_walk.specs.DeclarationView.{DeclarationView, collected_declaration, declaration_id, with_definition}
pub use Rattle.tree_walk.specs.Declarations.{Declaration, declared_at, node_name}
pub use Rattle.hir_input.specs.declared.edition.EditionYear.{EditionYear}
pub use Rattle.hir_input.specs.declared.ids.Crate.{Crate}
pub use Rattle.hir_input.specs.declared.ids.FileAstId.{FileAstId}
pub use Rattle.hir_input_json.proofs.MemberObjects.{field_without}
pub use Rattle.hir_input_json.proofs.Lists.{joined, read_next}
pub use Rattle.hir_input_json.specs.Editions.{EditionView}
pub use Rattle.hir_input_json.specs.Forms.{array_items, each, each_from, unless_null}
unfoldable pub use Rattle.hir_input_json.specs.Forms.{field}
pub use Rattle.hir_input_json.specs.Held.{object_held, with_null}
unfoldable pub use Rattle.hir_input_json.specs.Held.{without_key}
pub use Rattle.hir_input_json.specs.Reading.{Reading, pointer_behind, right, wrong}
pub use Rattle.hir_input_json.specs.Reads.{Reads, Tells, pointer_in}
pub use Rattle.item_tree.specs.CrateView.{crate_view}
pub use Rattle.item_tree.specs.Node.{Unfolding}
pub use Rattle.item_tree_db.proofs.Histories.{after_none}
pub use Rattle.item_tree_db.specs.Edits.{EditView, edit_view}
pub use Rattle.item_tree_db.specs.History.{last_some}
pub use Rattle.item_tree_db.specs.Refusal.{NamesKnown, last_number}
pub use Rattle.item_tree_db.specs.State.{State, change_number, crate_limit, unfolding_at}
pub use Rattle.item_tree_db.specs.declared.edit.Edit.{Edit}
pub use Rattle.item_tree_db.specs.declared.place.Place.{Place}
pub use Rattle.item_tree_db.specs.declared.place.Place.TheVariants.{Block, File}
pub use Rattle.item_tree_request.specs.Named.{EditNamesCrate}
pub use Rattle.item_tree_request.specs.Outputs.{Knows}
pub use Rattle.rust_items.specs.declared.source_file.ItemPlace.{ItemPlace}
pub use Rattle.source_rows.specs.Places.{AreDistinct, place_of, stands_at}
pub use Rattle.source_listing.specs.Paths.{bare_segment}
pub use Rattle.source_session.specs.Edits.{IsUsable, line_edit, range_in}
pub use Rattle.source_session.specs.Finders.{IsFinder, declared_scope, found_with, head_scope}
pub use Rattle.source_session.specs.Found.{IsFound, ast_of, found_form, found_value, id_form, in_file, place_by_id}
pub use Rattle.source_session.specs.Inner.{AreUnfloating, found_one, outcome_view, reply_view}
pub use Rattle.source_session.specs.Keys.{is_known, only_known, unknown_key}
pub use Rattle.source_session.specs.LineViews.{IsOwn, asked_view, first_view, settings_view}
pub use Rattle.source_session.specs.Lines.{Asked, Settings, first_line, later_line, line_asked, settings}
pub use Rattle.source_session.specs.Replies.{IsCarriedOut, IsOutcome, IsRefusedAs, IsReply, IsReplyOf, IsReplyUnless, IsWanting, Open, Outcome, Replies, Reply, asked_of, crate_count, id_value, of_opened, of_session, opened_session, out_of_memory, reply_number, reply_text}
pub use Rattle.text_session.specs.Sessions.{AreMade, IsEdited, IsRefused, IsUnedited, Session}
pub use Rattle.source_session.specs.Shown.{IsPresentValue, IsShowValue, IsValueUnless, all_items, change_form, change_with, item_objects, items_member, pathless_source, shown_tree, unset_form, unset_place}
pub use Rattle.source_session.specs.Shows.{IsCrateOf, ShowNamesCrate, line_show}
pub use Rattle.source_session.specs.Sought.{entry_path, found_scope, is_at, is_sought, own_scope, path_within, scope_at}
pub use Rattle.source_session.specs.ShownTexts.{places_of_text}
pub use Rattle.text_session.specs.SourceTexts.{text_bytes, text_places, text_problems, text_reading}
pub use Rattle.text_session.specs.Edits.{NamesCrateOf, TextEdit, text_edit_view}
pub use Rattle.text_session.specs.Texts.{AreMeant, FileTexts, TextChange, Texts, left_text, text_after, text_in, text_of_place}
pub use Rattle.source_session.specs.declared.error.LineError.{LineError}
pub use Rattle.source_session.specs.declared.error.LineError.TheVariants.{NotChanged, NotJson, NotRequest, OutOfMemory, Refused, TooLong}
pub use Rattle.source_session.specs.declared.show.LineShow.TheVariants.{Changes, Find, ImportPlaces, Outline, Problems, Search, Table, TreeItems}
pub use Rattle.text_session.specs.declared.texts.SourceText.{SourceText}
pub use Rattle.std.proofs.Math.Seq.{drop-append-add, drop-drop}
pub use Rattle.std.proofs.lemmas.Bool.{and_parts, cases_Bool}
pub use Rattle.std.proofs.lemmas.Bool.Decides.{Decides-eqb, nat_tests}
pub use Rattle.std.proofs.lemmas.List.{append_assoc, get_or-map, length-append, length-drop, length-map, length-take, length-take-le, map-append, take_all, take_more}
pub use Rattle.std.proofs.lemmas.List.Elements.{All-cons, All-filter, All-nil, All-push, All-take, All-weaker}
pub use Rattle.std.proofs.lemmas.Slice.Eq.{bytes_eq-Decides}
pub use Rattle.std.specs.Cmp.Lexicographic.{pointwise, pointwise_decides, slice_cmp}
pub use Rattle.std.specs.List.{AllByRecursion, AllZip, ends_with, flat_map, list_all}
pub use Rattle.std.specs.Option.{option_and_then, option_copied_mut, option_map, option_map_or, option_or, unwrap_or}
pub use Rattle.std.specs.Ordering.{is_eq, match_ordering}
