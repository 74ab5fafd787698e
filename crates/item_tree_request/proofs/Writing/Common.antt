-- The names that most proofs here cite, passed on from one place. Declares nothing.
pub use Rattle.hir_input.specs.Cfg.{AtomView, atom_view}
pub use Rattle.hir_input.specs.Syntax.{SyntaxView, syntax_view}
pub use Rattle.hir_input.specs.declared.edition.EditionYear.{EditionYear}
pub use Rattle.hir_input_json.specs.Reading.{right, wrong}
pub use Rattle.hir_input_json.proofs.Writing.Lists.{after_all, joined_push}
pub use Rattle.hir_input_json.specs.Writing.Cfgs.{atom_data}
pub use Rattle.hir_input_json.specs.Writing.Lists.{joined_items}
pub use Rattle.hir_input_json.specs.Writing.Parts.{each_data, led_items, name_data, whole_data}
pub use Rattle.item_tree_request.specs.Requests.{IsJsonText, IsRequest, Request, request_parts}
unfoldable pub use Rattle.item_tree_request.specs.Requests.{request}
pub use Rattle.item_tree_request.specs.Shows.{show_word}
pub use Rattle.item_tree_request.specs.declared.request.show.Show.{Show}
pub use Rattle.item_tree_request.specs.Writing.Depths.{items_nest_past, members_nest_past, nests_past}
pub use Rattle.item_tree_request.specs.Writing.RequestData.{block_object, crate_object, edit_data, edition_data, edition_object, edits_data, file_object, place_show, request_data, request_object, show_data}
pub use Rattle.std.proofs.lemmas.List.{drop_all, drop_more, map-append, map_more}
