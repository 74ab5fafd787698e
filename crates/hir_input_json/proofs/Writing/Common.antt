-- The names that most proofs here cite, passed on from one place. Declares nothing.
pub use Rattle.hir_input.proofs.UseTreeViews.{use_tree_view-bare, use_tree_view-listed}
pub use Rattle.hir_input.specs.Attr.{MetaView, MetaViews, cfg_attr_meta, cfg_meta, key_value_meta, meta_and, meta_view, metas_from, no_metas, path_meta, token_tree_meta, unsafe_meta}
pub use Rattle.hir_input.specs.Cfg.{AtomView, CfgView, CfgViews, all_of, any_of, atom_view, cfg_and, cfg_view, cfgs_from, invalid, no_cfgs, not_of}
pub use Rattle.hir_input.specs.Literal.{LiteralView}
pub use Rattle.hir_input.specs.Name.{IsName, is_name, name_in}
pub use Rattle.hir_input.specs.Syntax.{CallView, FieldsView, ItemView, ItemViews, NamedView, NodeView, StmtView, SyntaxView, TailView, UseView, asm_item, bare_extern_block, bare_module, block_expr, call_stmt, call_tail, const_item, error, extern_block_from, extern_crate, extern_item_view, impl_item, item_and, item_stmt, item_view, items_from, items_view, listed_extern_block, listed_module, macro_call, macro_items, macro_rules, macro_stmts, module_from, module_view, named_from, no_items, no_tail, other_stmt, other_tail, plain_item, source_file, stmt_view, struct_item, syntax_view, tuple_fields, use_item}
pub use Rattle.hir_input.specs.declared.ast.PlainKind.{PlainKind}
pub use Rattle.hir_input.specs.UseTreeView.{UseNode, UseTreeView, UseTreeViews, bare_tree, listed_tree, no_trees, tree_and, tree_from, trees_from, use_tree_view}
pub use Rattle.hir_input.specs.declared.ast.Item.{Item}
pub use Rattle.hir_input.specs.declared.ast.PathNode.{PathNode}
pub use Rattle.hir_input.specs.declared.ast.Rename.{Rename}
pub use Rattle.hir_input.specs.declared.ast.Visibility.{Visibility}
pub use Rattle.hir_input.specs.declared.ids.SyntaxContext.{SyntaxContext}
pub use Rattle.hir_input.specs.declared.mod_path.PathKind.TheVariants.{DollarCrate, Plain, Super}
pub use Rattle.hir_input_json.proofs.Attrs.{cfg_reads_itself, meta_reads_itself}
pub use Rattle.hir_input_json.proofs.Items.{item_reads_itself}
pub use Rattle.hir_input_json.specs.Forms.{array_items, number_below, each, each_from, flag, identifier_form, list_of, maybe, maybe_at, optional, optional_at, required_at, text_form, unless_null, whole_form}
unfoldable pub use Rattle.hir_input_json.specs.Forms.{field}
pub use Rattle.hir_input_json.specs.Items.{call_form, expand_to_at, fields_form, item, named_form, node_form, tuple_field}
unfoldable pub use Rattle.hir_input_json.specs.Items.{extern_item, named_item}
pub use Rattle.hir_input_json.specs.Literals.{context, context_at, literal, span}
pub use Rattle.hir_input_json.specs.Metas.{meta_form}
pub use Rattle.hir_input_json.specs.Paths.{path_at, path_node_form, vis_form}
pub use Rattle.hir_input_json.specs.Reading.{Reading, reading_map, right, under, wrong}
pub use Rattle.hir_input_json.specs.UseTrees.{rename_form, use_tree_form}
pub use Rattle.hir_input_json.specs.Writing.Cfgs.{atom_by, atom_data, cfg_data, cfgs_data}
pub use Rattle.hir_input_json.specs.Writing.Held.{HoldEach, Holds, MayHold}
pub use Rattle.hir_input_json.specs.Writing.Items.{NamedData, NodeData, asm_data, asm_object, attrs_data, body_data, call_data, call_object, extern_block_data, extern_block_object, extern_crate_data, extern_crate_object, extern_item_data, extern_items_data, fields_data, impl_data, impl_object, item_data, items_data, kind_word, listed_data, macro_rules_data, macro_rules_object, module_data, module_object, named_data, node_data, plain_data, plain_object, struct_data, struct_object, use_data, use_object}
pub use Rattle.hir_input_json.specs.Writing.Kept.{body_kept, call_kept, item_kept, items_kept, named_kept, node_kept, stmt_kept, tail_kept, use_kept}
pub use Rattle.hir_input_json.specs.Writing.Lists.{after, joined_items}
pub use Rattle.hir_input_json.specs.Writing.Literals.{context_data, is_same_context, literal_data, span_data, year_number}
pub use Rattle.hir_input_json.specs.Writing.Metas.{key_value_data, meta_data, metas_data, path_meta_data, tokens_data}
pub use Rattle.hir_input_json.specs.Writing.Parts.{each_data, led_items, maybe_data, name_data, text_or_null, whole_data}
pub use Rattle.hir_input_json.specs.Writing.Paths.{kind_data, path_data, visibility_data, word_and_names}
pub use Rattle.hir_input_json.specs.Writing.Syntaxes.{stmt_data, syntax_data, tail_data}
pub use Rattle.hir_input_json.specs.Writing.UseTrees.{rename_data, renamed_data, use_node_data, use_tree_data, use_trees_data}
pub use Rattle.hir_input_json.specs.Writing.Writes.{Writes}
