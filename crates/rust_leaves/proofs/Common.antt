-- The names that most proofs here cite, passed on from one place. Declares nothing.
pub use Rattle.hir_input.specs.Attr.{MetaView}
pub use Rattle.hir_input.specs.Bodies.{item_without_bodies}
pub use Rattle.hir_input.specs.Syntax.{FieldsView, const_item, extern_crate, impl_item, macro_rules, plain_item, struct_item}
pub use Rattle.hir_input.specs.declared.ast.PlainKind.{PlainKind}
pub use Rattle.hir_input.specs.declared.ast.Visibility.{Visibility}
pub use Rattle.rust_cursor.proofs.BodyValues.{KeptBy}
pub use Rattle.rust_cursor.proofs.TokenRests.{Forwards, LeadsTo, behind_tree_leads, bumped_leads, eat_leads, further, here, reached_leads, through, when}
pub use Rattle.rust_cursor.proofs.LocalReaders.{Local, after_symbol, after_word, both_true, eat_local, eat_word_local, word_test}
pub use Rattle.rust_cursor.proofs.Places.{AreAlike, IsAlike, SamePlace, alike_or, at_place, both, neither, no_more, past_place}
pub use Rattle.rust_cursor.proofs.Views.{open_same, symbol_same, taken_same, text_same, word_same}
pub use Rattle.rust_cursor.specs.TokensBeside.{Beside, Bodies}
unfoldable pub use Rattle.rust_cursor.specs.Brackets.{behind_tree}
pub use Rattle.rust_cursor.specs.Extents.{ExcerptRead, clipped_excerpt, kept_text, tree_body}
unfoldable pub use Rattle.rust_cursor.specs.Extents.{begins_item}
pub use Rattle.rust_cursor.specs.Reader.{Reader}
pub use Rattle.rust_cursor.specs.Tokens.{Tokens}
unfoldable pub use Rattle.rust_cursor.specs.Words.{at, bumped, eat, eat_pair, eat_word, is_at_end, is_at_identifier, is_at_open, is_pair, kind, symbol, text, word}
pub use Rattle.rust_leaves.specs.Heads.{begins_path, behind_more_others, behind_other, behind_others_from, behind_segments_from, is_at_first, is_called_here, segment_word, modifiers_from, union_skipped, union_words, path_skipped, call_words, call_skipped, called_skipped}
unfoldable pub use Rattle.rust_leaves.specs.Heads.{abi, behind_others, behind_segments, head, is_behind_others, begins_call, is_called, may_begin, modifier, modifiers, weak_modifier}
pub use Rattle.rust_leaves.specs.Kinds.{call_behind, call_leaf, leaf_by, leaf_read, mut_word, named_node, node, own_attributes, plain_read, rest_of, some_read, told_at}
unfoldable pub use Rattle.rust_leaves.specs.Kinds.{constant, crate_item, implementation, invocation, item_call, leaf, macro_definition, plain_leaf, structure, use_declaration}
pub use Rattle.rust_leaves.specs.Leaves.{LeafRead, NameRead, RestRead, are_over, bare_end, crate_alias_if, is_before, name_read, next_range, no_name, range_to, rename_of, rest_read, semicolon_end, symbol_within}
unfoldable pub use Rattle.rust_leaves.specs.Leaves.{block_attributes, call_end, crate_alias, fields, has_trait, header_field, written_name, named_or, written_rename, rest_by, struct_fields}
pub use Rattle.rust_leaves.specs.Statements.{behind_else, by_step, is_block_at, is_label_kind, is_use_of, statement_from, statement_up_to}
unfoldable pub use Rattle.rust_leaves.specs.Statements.{behind_own_block, behind_block_word, behind_label, block_start, is_block_word, part_step, plain_step, statement, statement_step}
pub use Rattle.rust_leaves.specs.Texts.{last_text_from}
unfoldable pub use Rattle.rust_leaves.specs.Texts.{bare_name, last_text}
pub use Rattle.rust_leaves.specs.Views.{field_view}
pub use Rattle.rust_leaves.specs.declared.head.Head.{Head}
pub use Rattle.rust_leaves.specs.declared.statements.Scan.{Scan}
pub use Rattle.rust_leaves.specs.declared.statements.Step.{Step}
pub use Rattle.rust_paths.specs.Names.{as_name, placed_if}
unfoldable pub use Rattle.rust_paths.specs.Names.{has_name, name, placed_name}
unfoldable pub use Rattle.rust_paths.specs.Paths.{is_segment}
pub use Rattle.rust_paths.specs.declared.names.TextRange.{TextRange}
pub use Rattle.std.proofs.lemmas.Bool.{and_parts, ne_eqb}
pub use Rattle.std.proofs.lemmas.Bool.Decides.{nat_tests}
