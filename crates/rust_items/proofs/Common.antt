-- The names that most proofs here cite, passed on from one place. Declares nothing.
pub use Rattle.hir_input.proofs.SyntaxViews.{item_view-made_module, module_view-fields}
pub use Rattle.hir_input.specs.Attr.{MetaView}
pub use Rattle.hir_input.specs.Bodies.{item_without_bodies, items_without_bodies, named_without_body, node_without_body, without_bodies}
pub use Rattle.hir_input.specs.Syntax.{FieldsView, ItemView, ItemViews, NamedView, NodeView, StmtView, SyntaxView, TailView, bare_extern_block, bare_module, block_view, call_stmt, call_tail, extern_block_from, extern_block_view, extern_item_view, item_and, item_stmt, item_view, items_from, items_of, listed_extern_block, listed_module, macro_call, module_from, module_view, named_from, no_items, no_tail, node_from, other_stmt, other_tail, plain_item, source_file, stmt_items, stmt_view, syntax_view, tuple_fields, use_item}
pub use Rattle.hir_input.specs.declared.ast.PlainKind.{PlainKind}
pub use Rattle.hir_input.specs.UseTreeView.{UseTreeView, trees_from}
pub use Rattle.hir_input.specs.declared.ast.PathNode.{PathNode}
pub use Rattle.hir_input.specs.declared.ast.Visibility.{Visibility}
pub use Rattle.hir_input.specs.declared.edition.EditionYear.{EditionYear}
pub use Rattle.hir_input.specs.declared.ids.AstIdKind.{AstIdKind}
pub use Rattle.hir_input.specs.declared.ids.FileAstId.{FileAstId}
pub use Rattle.rust_cursor.proofs.BodyValues.{KeptBy, UntilBy, by_stayed, stayed, went}
pub use Rattle.rust_cursor.proofs.SoundTokens.{IsSound, sound_on}
pub use Rattle.rust_cursor.proofs.TokenPlaces.{IsLaid, at_behind, past_within, taken_behind, takes_strict, tokens_laid}
pub use Rattle.rust_cursor.proofs.TokenRests.{Forwards, HasBlock, LeadsTo, Takes, behind_closed_leads, behind_tree_leads, beyond_leads, block, bumped_leads, eat_leads, eat_pair_leads, eat_word_leads, further, here, no_block, symbol_some, taken_block, taken_leads_on, takes, takes_before, takes_behind, takes_leads, through, turns_leads, when, word_none}
pub use Rattle.rust_cursor.specs.Grammar.{taken_with}
pub use Rattle.rust_cursor.proofs.LocalReaders.{Kept, after_symbol, eat_local}
pub use Rattle.rust_cursor.proofs.Passing.{BothBeside, behind_angles_beside, behind_field_beside, behind_tree_beside, beyond_beside}
pub use Rattle.rust_cursor.proofs.Places.{AreAlike, IsAlike, SamePlace, alike_join, at_place, both, neither, no_more, past_place}
pub use Rattle.rust_cursor.proofs.BodyReaders.{Gone, bumped_onward, by_kept, by_next, gone_on, over_leads, over_moved}
pub use Rattle.rust_cursor.proofs.Views.{before_at, before_same, behind_at, empty_same, end_same, next_ahead, next_behind, symbol_same}
pub use Rattle.rust_cursor.specs.TokensBeside.{AreBehind, Beside, Bodies, ahead, behind}
unfoldable pub use Rattle.rust_cursor.specs.Brackets.{behind_tree}
pub use Rattle.rust_cursor.specs.Elements.{elements, one, turns_from}
unfoldable pub use Rattle.rust_cursor.specs.Elements.{progress_from, most_tokens, turns}
pub use Rattle.rust_cursor.specs.Extents.{ExcerptRead, kept_text, tree_body}
pub use Rattle.rust_cursor.specs.Tokens.{Tokens, end_of}
unfoldable pub use Rattle.rust_cursor.specs.Tokens.{tokens_of}
pub use Rattle.rust_cursor.specs.Words.{by_first, eat_colons, rest, word_by}
unfoldable pub use Rattle.rust_cursor.specs.Words.{at, bumped, eat, eat_pair, eat_word, is_at_end, is_at_open, is_empty, is_pair, kind, symbol, text, word}
pub use Rattle.rust_ids.specs.Ids.{AreIds, id_at, nth_row}
pub use Rattle.rust_ids.specs.Row.{Row}
pub use Rattle.rust_items.specs.Blocks.{BodyRead, IsBlockRead, IsBlockOf, PartView, and_call, and_part, attributes_of, block_body, called_found, empty_body, is_bare, is_operand, item_found, no_part, other_found, other_part, parts, parts_from, stmt_part, stmt_with_ids, stmts_with_ids, tail_part, tail_with_id, taken_item}
unfoldable pub use Rattle.rust_items.specs.Blocks.{call_found, found_of, other_read, part, part_behind_attributes}
pub use Rattle.rust_items.specs.Clipped.{clipped_turn}
unfoldable pub use Rattle.rust_items.specs.Clipped.{clipped_block, clipped_item_if, clipped_items, wanted_behind, wanted_item_if}
pub use Rattle.rust_items.specs.Found.{Finder, Finds, Found, and_all, and_problem, and_problem_at, and_problem_if, and_row, and_use_trees, log_view, nothing_found}
pub use Rattle.rust_items.specs.Ids.{each_with_ids, first_numbers, held_with_ids, item_with_ids, list_with_ids, listed_by, numbered_call, numbered_named, numbered_node, with_ids}
pub use Rattle.rust_items.specs.Items.{BlockRead, and_flaw, and_item, and_leaf, and_parent, and_rest, as_extern, block_of, by_head, deep_block, depth_of, empty_block, extern_by, extern_found, extern_kept, finding_from, inside_unless, items, leaf_found, leaf_kept, module_with, needs_name, one_more, some_item, span_of, turn_with, unmatched_token}
unfoldable pub use Rattle.rust_items.specs.Items.{behind_front, extern_block, extern_inside, extern_turn, finding, inside, is_list_end, leaf_turn, module_item, turn}
pub use Rattle.rust_items.specs.LineEnds.{is_return, moved_problem, moved_range, moved_span, place_by, returns_from, with_feeds}
unfoldable pub use Rattle.rust_items.specs.LineEnds.{place_in}
pub use Rattle.rust_items.specs.Places.{ArePlaces, IsBodyIn, IsNameIn, IsPlace, IsWritten, Telling, id_of, items_held, name_of, nothing, placed}
pub use Rattle.rust_items.specs.SourceFiles.{FileView, IsClipped, IsClippedFile, IsFile, IsFileView, IsSourceFile, behind_attributes, clipped_file, clipped_syntax, file_view, places, read_of}
unfoldable pub use Rattle.rust_items.specs.SourceFiles.{found_in, items_in}
pub use Rattle.rust_items.specs.Typed.{begins_at, has_body, has_body_at}
pub use Rattle.rust_items.specs.Uses.{all_readable_trees, is_readable, readable_trees, trees_in, trees_within, written_trees}
pub use Rattle.rust_items.specs.Views.{block_part_view, body_view, reading_file, supply_view}
pub use Rattle.rust_items.specs.declared.blocks.SourceBlock.{SourceBlock}
pub use Rattle.rust_items.specs.declared.ids.Numbers.{Numbers}
pub use Rattle.rust_items.specs.declared.log.ItemSpan.{ItemSpan}
pub use Rattle.rust_items.specs.declared.log.ProblemKind.{ProblemKind}
pub use Rattle.rust_items.specs.declared.source_file.ItemPlace.{ItemPlace}
pub use Rattle.rust_leaves.proofs.BodyParts.{LeafAlike, NameAlike, RangeAlike, RestAlike, SameRange, call_end_local, constant_local, fields_of, implementation_local, macro_definition_local, named_local, structure_local, plain_leaf_local, plain_rest, rest_local}
pub use Rattle.rust_leaves.proofs.Rests.{by_taken}
pub use Rattle.rust_leaves.proofs.BodyFronts.{behind_others_beside}
pub use Rattle.rust_leaves.specs.Clipped.{clipped_item, clipped_list, clipped_named, clipped_node, without_attributes}
unfoldable pub use Rattle.rust_leaves.specs.Clipped.{clipped_front, clipped_leaf, clipped_leaf_if, leaf_behind, wanted_item, wanted_leaf, wanted_leaf_if, with_value}
pub use Rattle.rust_leaves.specs.Fronts.{FrontRead}
unfoldable pub use Rattle.rust_leaves.specs.Fronts.{front, front_behind}
unfoldable pub use Rattle.rust_leaves.specs.Heads.{abi, behind_others, front_words, head, is_called, begins_call, modifiers}
pub use Rattle.rust_leaves.specs.Kinds.{call_behind, call_leaf, leaf_by, named_node, node, some_read, told_at, use_read, mut_word, own_attributes, rest_of}
unfoldable pub use Rattle.rust_leaves.specs.Kinds.{constant, crate_item, implementation, invocation, item_call, leaf, macro_definition, structure, use_declaration, plain_leaf}
pub use Rattle.rust_leaves.specs.Leaves.{LeafRead, NameRead, are_over, crate_alias_if, fields_at, is_before, name_read, no_name, range_to, semicolon_end, symbol_within}
unfoldable pub use Rattle.rust_leaves.specs.Leaves.{block_attributes, call_end, crate_alias, fields, header_field, written_name, named_or, written_rename, struct_fields, rest_by}
pub use Rattle.rust_leaves.specs.declared.head.Head.{Head}
pub use Rattle.rust_leaves.specs.declared.wanted.Wanted.{Wanted}
pub use Rattle.rust_lexer.specs.Piece.{Piece}
pub use Rattle.rust_metas.proofs.AttributeRests.{inner_attributes_leads, outer_attributes_leads}
pub use Rattle.rust_metas.proofs.BodyAttributes.{inner_attributes_until, outer_attributes_until}
unfoldable pub use Rattle.rust_metas.specs.Attributes.{inner_attributes, outer_attributes}
pub use Rattle.rust_metas.specs.Docs.{kept_by}
unfoldable pub use Rattle.rust_metas.specs.Docs.{kept_metas}
pub use Rattle.rust_paths.proofs.UseTreeRests.{element_leads, list_leads, placed_name_leads, placed_next, use_tree_leads}
pub use Rattle.rust_paths.specs.Names.{Placed, as_name, behind_hash, is_underscore, name_text, placed_if, unless_path_keyword}
unfoldable pub use Rattle.rust_paths.specs.Names.{is_keyword, is_path_keyword, name, next_name, placed_name, plain_name, raw_name}
pub use Rattle.rust_paths.specs.Paths.{front_of_path, is_raw, written_path}
unfoldable pub use Rattle.rust_paths.specs.Paths.{is_dollar_crate, is_path_start, more_segments, other_segment, path, segment, use_path}
pub use Rattle.rust_paths.specs.UseTrees.{FoundInUse, all_starts, bare_tree, begun_list, begun_trees, element_with, star_or_list, tree_behind, tree_with, tree_with_list, values}
unfoldable pub use Rattle.rust_paths.specs.UseTrees.{list, rename, tree_at, use_tree}
unfoldable pub use Rattle.rust_paths.specs.Visibilities.{visibility}
pub use Rattle.rust_paths.specs.declared.names.TextRange.{TextRange}
pub use Rattle.std.proofs.lemmas.Bool.{and_parts, cases_Bool, eqb-true, ne_eqb}
pub use Rattle.std.proofs.lemmas.Bool.Decides.{nat_tests}
pub use Rattle.std.proofs.lemmas.List.{length-map, map-append}
pub use Rattle.std.proofs.lemmas.List.Elements.{All-append, All-cons, All-map, All-nil, All-weaker}
pub use Rattle.std.proofs.lemmas.Str.Pattern.{split_parts}
pub use Rattle.std.specs.List.{AllZip, filter, list_any, prefix_len}
pub use Rattle.std.specs.List.Sorted.{IsNonDecreasing, IsPartitionPoint}
pub use Rattle.std.specs.declared.alloc.AllocError.{AllocError}
