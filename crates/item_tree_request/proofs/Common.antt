-- The names that most proofs here cite, passed on from one place. Declares nothing.
pub use Rattle.hir_input_json.proofs.Lists.{joined, joined_next, joined_nil, read_next}
pub use Rattle.hir_input_json.specs.Forms.{each, each_from}
pub use Rattle.hir_input_json.specs.Reading.{Reading, right}
pub use Rattle.item_tree.specs.CrateView.{crate_view}
pub use Rattle.item_tree_db.specs.Edits.{EditView, edit_view, remove, set, set_cfg}
pub use Rattle.item_tree_db.specs.History.{IsAfter, crate_after, present_after, under_options}
pub use Rattle.item_tree_db.specs.Refusal.{FirstFit, IsCause, NamesKnown, PassesAfter, TreePasses, last_number}
pub use Rattle.item_tree_db.specs.State.{State, change_number, crate_limit, new_table, present, unfolding_at}
pub use Rattle.item_tree_request.specs.Edits.{crate_data, edit}
pub use Rattle.item_tree_request.specs.ImportLines.{import_lines, leaf_lines, node_lines}
unfoldable pub use Rattle.item_tree_request.specs.ImportLines.{import_line, use_lines}
pub use Rattle.item_tree_request.specs.Inner.ImportsByIds.{import_lines_at}
pub use Rattle.item_tree_request.specs.Inner.Made.{IsMade, IsRequestServed, IsUnmade, refusal_of}
pub use Rattle.item_tree_request.specs.Named.{EditNamesCrate, NamesCrate}
pub use Rattle.item_tree_request.specs.Outputs.{AreChanges, AreFixed, AreJoined, IsAdded, IsPrinted, Knows, NonePasses, PassesAt, ShowText, first_table, heading, printed_show, printed_as}
unfoldable pub use Rattle.item_tree_request.specs.Outputs.{imports_text, page_text, table_change_line}
pub use Rattle.item_tree_request.specs.Runs.{IsOutputOf, IsRefusedFor}
pub use Rattle.item_tree_request.specs.Shows.{show}
pub use Rattle.std.proofs.KnownBytes.{Appends-trans, Consumes-trans}
pub use Rattle.std.proofs.lemmas.List.{length-map, length-take, length-take-le, map-id, take_all, take_more, take_rest}
pub use Rattle.std.proofs.lemmas.List.Elements.{All-push}
pub use Rattle.std.proofs.lemmas.Result.{err_from_is_err_and, on_ok_weaker}
pub use Rattle.std.specs.Io.KnownBytes.{Appends, Consumes}
pub use Rattle.std.specs.List.{AllByRecursion, AllZip, concat}
