-- The names that most proofs here cite, passed on from one place. Declares nothing.
pub use Rattle.hir_input.specs.Attr.{meta_view}
pub use Rattle.hir_input.specs.Cfg.{CfgView, CfgViews, all_of, any_of, atom_view, cfg_view, cfgs_from, invalid, not_of}
pub use Rattle.hir_input.specs.Syntax.{extern_item_view, item_view, stmt_view}
pub use Rattle.hir_input.specs.UseTreeView.{tree_from, use_tree_view}
pub use Rattle.hir_input_json.specs.Cfgs.{atom, cfg, cfg_by, cfg_with, keyed_by, listed_with}
pub use Rattle.hir_input_json.specs.Forms.{array_items, by_form, each, each_from, identifier_form, items_at, list_at, list_of, maybe, object_members, optional, required_by, unless_null}
unfoldable pub use Rattle.hir_input_json.specs.Forms.{field}
pub use Rattle.hir_input_json.specs.Held.{object_held, with_null}
unfoldable pub use Rattle.hir_input_json.specs.Held.{without_key}
pub use Rattle.hir_input_json.specs.Items.{item, item_with, tuple_field}
unfoldable pub use Rattle.hir_input_json.specs.Items.{extern_item}
pub use Rattle.hir_input_json.specs.Literals.{span_in}
pub use Rattle.hir_input_json.specs.Metas.{meta_form, meta_form_with}
pub use Rattle.hir_input_json.specs.Nested.{nested_at}
unfoldable pub use Rattle.hir_input_json.specs.Nested.{nested_reading}
pub use Rattle.hir_input_json.specs.Reading.{Reading, pointer_byte, pointer_step, reading_map, right, under, wrong}
pub use Rattle.hir_input_json.specs.Syntaxes.{stmt}
pub use Rattle.hir_input_json.specs.UseTrees.{use_tree_form, use_tree_with}
pub use Rattle.std.proofs.lemmas.List.{append-nil, length-append, map-append}
pub use Rattle.std.specs.Cmp.Lexicographic.{slice_cmp}
pub use Rattle.std.specs.Ordering.{match_ordering, nat_cmp}
