-- The names that most proofs here cite, passed on from one place. Declares nothing.
pub use Rattle.hir_input.proofs.AttrEq.{context_decides, option_decides}
pub use Rattle.hir_input.proofs.PathEq.{path_decides}
pub use Rattle.hir_input.proofs.SyntaxViews.{item_views, module_view-fields}
pub use Rattle.hir_input.specs.Cfg.{AtomView, CfgView, by_commas}
pub use Rattle.hir_input.specs.Path.{HasWords, Path, shown_path}
pub use Rattle.hir_input.specs.Syntax.{FieldsView, ItemView, ItemViews, NamedView, NodeView, StmtView, SyntaxView, TailView, block_expr, block_view, call_stmt, call_tail, error, extern_block_from, extern_block_view, extern_item_view, fields_view, item_and, item_stmt, item_view, items_from, items_of, items_view, listed_extern_block, listed_module, macro_items, macro_stmts, module_from, module_view, named_from, no_fields, no_items, node_from, other_stmt, record_fields, source_file, stmt_items, stmts_view, tail_view, tuple_fields}
pub use Rattle.hir_input.specs.declared.ast.PlainKind.{PlainKind}
pub use Rattle.hir_input.specs.UseTreeView.{UseNode, UseTreeView, UseTreeViews, all_written_nodes, bare_tree, listed_tree, no_trees, tree_and, use_node, use_tree_view, use_trees_view, written_count, written_nodes}
pub use Rattle.hir_input.specs.Words.{PathWord, read_words, words}
pub use Rattle.hir_input.specs.declared.ids.AstIdKind.{AstIdKind}
pub use Rattle.hir_input.specs.declared.ids.FileAstId.{FileAstId}
pub use Rattle.hir_input.specs.declared.mod_path.PathKind.{PathKind}
pub use Rattle.hir_input.specs.declared.mod_path.PathKind.TheVariants.{Abs, Crate, DollarCrate, Plain, Super}
pub use Rattle.item_tree.specs.Calls.{CalledAtAll, CalledAtSome, MayCallAt, at_import, by_import}
pub use Rattle.item_tree.specs.Code.Tree.{alias_code, tree_code, use_item_code}
pub use Rattle.item_tree.specs.Column.{attrs_stored, column_of, has_no_attributes, is_empty_of, or_no_attrs, places_from, plain_place, some_unless, stored_at, unless}
pub use Rattle.item_tree.specs.Constructor.{crate_or_public, ctor_from, ctor_of, deciding, deciding_by, is_private, is_pub_crate, or_one}
pub use Rattle.item_tree.specs.CrateView.{CrateView, crate_view}
pub use Rattle.item_tree.specs.Imports.{Import, all_imports_from, all_most_supers, import_of, imports, imports_from, is_self, kind_below, read_below, read_chain, read_star, super_limit}
pub use Rattle.item_tree.specs.Inner.Expanding.{CallsLeft, branch_count, chain_of, joined_kind, supers_before}
pub use Rattle.item_tree.specs.Inner.Growth.{Adds, HasId, Lowers, Meets, MeetsAll, MeetsUpTo, Pushes, Puts, all_kept_in, attrs_in, items_below, kept_of, row_count, sizes_meeting, sizes_pushing, sizes_with, to_list}
pub use Rattle.item_tree.specs.Inner.Meeting.{meet, meet_all}
pub use Rattle.item_tree.specs.Inner.PageByIds.{Gains, Starts, blank_between, item_lines, lent_lines, lines_at, list_lines, node_lines, own_lines_at}
pub use Rattle.item_tree.specs.Inner.Statements.{body_items, stmt_item, tail_item}
pub use Rattle.item_tree.specs.Kept.{head_of, kept, kept_all, kept_syntax, kept_top, module_node, shape_of}
pub use Rattle.item_tree.specs.KeptUse.{ArePlacesOf, all_kept_places, if_kept, kept_bare, kept_places, kept_prefix, kept_tree, kept_trees, use_tree_limit, with_kept}
pub use Rattle.item_tree.specs.Layout.{LayoutRow, arena_place, at_row, build, ctor_map, ctor_vis, first_fixed, fixed_visibilities, forest_vis, gather, head_key, ids, kind_bit, layout, leaf_map, leaf_row, leaf_vis, node_id, node_row, node_rows, node_vis, node_walk, nth_node, or_public, parent_row, row_attrs, row_item, row_key, row_kind, row_node, row_tag, rows_of, tables_from, trunk_map, trunk_vis, unfold_tables, value_at, vis_id, vis_value, walk, zip_rows}
unfoldable pub use Rattle.item_tree.specs.Layout.{arena_of, node_at, vis_at}
pub use Rattle.item_tree.specs.Leaves.{AreWritten, WrittenLeaf, all_leaves_from, imports_of, kept_count, leaf_imports, leaves, leaves_from, with_prefix}
pub use Rattle.item_tree.specs.Line.{Line, blank, line_text, lines_of_text, lines_text, text}
pub use Rattle.item_tree.specs.Node.{Ctor, Forest, Head, Leaf, Node, Trunk, Unfolding, add, constant, count, ctor_with, ctor_with_min, empty, extern_block, extern_crate, file_id, impl_item, inline, leaf, leaf_kind, macro_call, macro_rules, more, node_ast, node_count, node_head, node_kind, nodes, nothing, outline, parent, plain, struct_item, trunk_kind, use_item}
pub use Rattle.item_tree.specs.Page.{attrs_lines, item_opening, own_lines, page_lines, page_parts, parts, top_opening, trunk_header, with_blanks}
unfoldable pub use Rattle.item_tree.specs.Page.{attr_text, call_id_text, constant_header, extern_crate_header, id_text, macro_rules_header, named_header, use_header}
pub use Rattle.item_tree.specs.Reach.{forest_ids, inner_ids, met_before, node_ids}
unfoldable pub use Rattle.item_tree.specs.Reach.{all_ids, child_ids, ids_from, top_ids}
pub use Rattle.item_tree.specs.Same.{equal_of_same, same, same_decides, same_itself}
pub use Rattle.item_tree.specs.Shown.{HasVisibility, IsContained, IsLeaf, IsLent, IsModule, IsParent, LendAlike, Lent, StandFor, attrs_at, ctor_ids, lent_kind, lent_attrs, lent_leaf, lent_parent}
pub use Rattle.item_tree.specs.Size.{Fits, IsPassed, IsTooLarge, Sizes, forest_supers, item_written, items_written, leaf_supers, most_attrs, most_written, only_visibilities, sizes_of, visibility_limit}
pub use Rattle.item_tree.specs.Stored.{AreSound, column_in, column_places, has_tag, item_row, key_in, keys_in, lent_ast, lent_row, module_row, row_items, tables_of}
pub use Rattle.item_tree.specs.Tree.{Branches, Tree, branch_and, branch_nodes, branches_from, glob, kind_step, no_branches, prefixed, single, tree_count, tree_nodes, tree_of, tree_of_kind, tree_step, trees_of}
pub use Rattle.item_tree.specs.UseText.{shown_prefix, shown_rename}
unfoldable pub use Rattle.item_tree.specs.UseText.{shown_tree, shown_trees}
pub use Rattle.item_tree.specs.Visibility.{distinct_visibilities, firsts_behind, read_visibility, same_visibility}
pub use Rattle.item_tree.specs.Walk.{AreContained, IsWalkedOnce, children, children_at, count_at, of_id}
pub use Rattle.item_tree.specs.declared.fault.LowerError.{LowerError}
pub use Rattle.item_tree.specs.declared.items.ModKind.TheVariants.{Inline, Outline}
pub use Rattle.item_tree.specs.declared.lower.Ctx.{Ctx}
pub use Rattle.item_tree.specs.declared.rows.Rows.{Rows}
pub use Rattle.item_tree.specs.declared.use_tree.ImportAlias.{ImportAlias}
pub use Rattle.item_tree.specs.declared.use_tree.UseTree.{UseTree}
pub use Rattle.item_tree.specs.declared.use_tree.UseTreeKind.{Glob, Prefixed, Single, UseTreeKind}
pub use Rattle.item_tree.specs.declared.visibility.RawVisibility.{RawVisibility}
pub use Rattle.item_tree.specs.declared.visibility.RawVisibility.TheVariants.{Module, PubCrate, PubSelf, Public}
pub use Rattle.item_tree.specs.declared.visibility.VisibilityExplicitness.{VisibilityExplicitness}
pub use Rattle.item_tree.specs.declared.visibility.VisibilityExplicitness.TheVariants.{Explicit, Implicit}
pub use Rattle.item_tree_attrs.specs.Collected.{Collected, attr_limit, collection_of, nothing_collected}
pub use Rattle.std.proofs.lemmas.Bool.{and_from, and_parts, cases_Bool, cases_lt, cond_both, eqb-true, false≢true, le-ltb, lt-ltb, ne_eqb}
pub use Rattle.std.proofs.lemmas.Bool.Decides.{Decides-and, Decides-at, Decides-eqb, Decides-like, nat_tests, same_from_decides}
pub use Rattle.std.proofs.lemmas.Grind.{common_steps, elements, flat_map-append, put_four, put_three, put_two}
pub use Rattle.std.proofs.lemmas.List.{append-nil, drop_more, flat_map_more, get_or-map, length-map, length-take, map-append, map-id, take-append-drop, take_more}
pub use Rattle.std.proofs.lemmas.List.Concat.{flat_map_single}
pub use Rattle.std.proofs.lemmas.List.Elements.{All-append, All-cons, All-contains, All-head, All-nil, All-tail, All-weaker, Contains-append_left, Contains-append_right}
pub use Rattle.std.proofs.lemmas.List.Folds.{flat_map-map, list_any_at, position_or_len_push, prefix_len-append}
pub use Rattle.std.proofs.lemmas.List.Sums.{passes_at_first, prefix_len-le-length, sum-map, sum_by-append, sum_by-cons}
pub use Rattle.std.proofs.lemmas.Option.{same_Some, slice_get-get_or, slice_get-map, slice_get_read, slice_get_within}
pub use Rattle.std.proofs.lemmas.Result.{err_from_is_err_and, on_ok_weaker}
pub use Rattle.std.specs.Fmt.{HasWritten, IsPlainFormatter}
pub use Rattle.std.specs.List.{FoldsTo, find, list_all, list_any, position_or_len}
pub use Rattle.std.specs.Option.{SomeIff, option_and_then, option_eq, option_map, option_map_or, option_to_list}
