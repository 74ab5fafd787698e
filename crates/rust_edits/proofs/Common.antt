-- The names that most proofs here cite, passed on from one place. Declares nothing.
pub use Rattle.hir_input.specs.Attr.{MetaView}
pub use Rattle.hir_input.specs.Bodies.{item_without_bodies, items_without_bodies, without_bodies}
pub use Rattle.hir_input.specs.Syntax.{FieldsView, ItemView, ItemViews, ast_kind, const_item, extern_block_from, extern_crate, impl_item, item_and, items_from, macro_rules, module_from, no_items, plain_item, source_file, struct_item, tuple_fields, use_item}
pub use Rattle.hir_input.specs.declared.ast.PlainKind.{PlainKind}
pub use Rattle.hir_input.specs.declared.ast.Visibility.{Visibility}
pub use Rattle.hir_input.specs.declared.edition.EditionYear.{EditionYear}
pub use Rattle.hir_input.specs.declared.ids.AstIdKind.{AstIdKind}
pub use Rattle.hir_input.specs.declared.ids.FileAstId.{FileAstId}
pub use Rattle.rust_cursor.proofs.BodyValues.{by_stayed}
pub use Rattle.rust_cursor.proofs.SoundTokens.{IsSound, sound_on, tokens_sound}
pub use Rattle.rust_cursor.proofs.BraceWalks.{bumped_at, enters, inside_is, some_at, symbol_at, tokens_at}
pub use Rattle.rust_cursor.proofs.TokenCounts.{tokens_short}
pub use Rattle.rust_cursor.proofs.TokenPlaces.{AreLaid, IsLaid, at_behind, behind, tokens_laid}
pub use Rattle.rust_cursor.proofs.TokenRests.{Forwards, LeadsTo, behind_angles_leads, behind_closed_leads, behind_tree_leads, beyond_leads, bumped_leads, eat_leads, eat_word_leads, further, here, reached_leads, stops_empty, taken_leads_on, through, when}
pub use Rattle.rust_cursor.specs.Grammar.{taken_with}
pub use Rattle.rust_cursor.proofs.LocalReaders.{after_word, eat_local, eat_word_local, word_test}
pub use Rattle.rust_cursor.proofs.EndingTokens.{Ending, Gone, Near, are_ended, at_same, bumped_onward, enough_left, fewer, is_last, more_left, near, near_twins, nothing, past_same, taken_same}
pub use Rattle.rust_cursor.proofs.EndingWalks.{behind_angles_near, behind_tree_near, beyond_near, near_parting, reached_near}
pub use Rattle.rust_cursor.proofs.EndingTexts.{BlockNear, SameText, block, item_so, macro_so, near_enters, near_levels, next_past, no_block, taken_fewer, taken_outcome, taken_until, tree_so, value_so}
pub use Rattle.rust_cursor.proofs.EndingReaders.{AtEnd, Kept, Outcome, Step, UntilBy, at_last, comes, eat_fewer, eat_outcome, is_still, lost, map_outcome, next, stays, step, then_outcome, untaken}
pub use Rattle.rust_cursor.proofs.Nesting.{shorter}
pub use Rattle.rust_cursor.proofs.TokenOrder.{close_some, front_before, left_behind}
pub use Rattle.rust_cursor.proofs.PartingReaders.{Entering, Onward, Parting, Same, UpTo, by_kept, by_next, cond_until, eat_until, eat_word_until, gone, into, kept, on, onward_leads, then_until}
pub use Rattle.rust_cursor.proofs.Passing.{behind_tree_beside, beyond_beside, taken_both}
pub use Rattle.rust_cursor.proofs.Places.{AreAlike, IsAlike, Moves, SamePlace, alike_join, at_place, both, moves, neither, no_more, one_more, unmoved}
pub use Rattle.rust_cursor.proofs.Turns.{turns_stop}
pub use Rattle.rust_cursor.proofs.TwinTokens.{after_symbol, empty_same, end_same, symbol_same, text_same, word_same}
pub use Rattle.rust_cursor.proofs.BodyReaders.{gone_on}
pub use Rattle.rust_cursor.proofs.Views.{behind_at, beside_twins, next_ahead, next_behind, open_same}
pub use Rattle.rust_cursor.specs.Angles.{behind_field, behind_header}
unfoldable pub use Rattle.rust_cursor.specs.Angles.{behind_angles, is_trait_impl}
pub use Rattle.rust_cursor.specs.TokensBeside.{AreBehind, AreOpen, Beside, Bodies, ahead}
unfoldable pub use Rattle.rust_cursor.specs.Brackets.{behind_closed, behind_tree}
pub use Rattle.rust_cursor.specs.Elements.{one, turns_from}
unfoldable pub use Rattle.rust_cursor.specs.Elements.{progress_from, most_tokens, turns}
pub use Rattle.rust_cursor.specs.Extents.{ExcerptRead, goes_on, opened_behind, tree_body, tree_text}
unfoldable pub use Rattle.rust_cursor.specs.Extents.{begins_impl_or_const, begins_item, begins_within, ends, has_blank, is_joined, more, stops, excerpt_behind, taking}
pub use Rattle.rust_cursor.specs.Nests.{behind_braces, braces_behind, closes_none, count_behind, flat_behind, is_mark, nest_inside}
unfoldable pub use Rattle.rust_cursor.specs.Nests.{leads_on, nest_behind}
pub use Rattle.rust_cursor.specs.Reader.{Reader, pass, pure}
pub use Rattle.rust_cursor.specs.Tokens.{Tokens, end_of, last_unended, place_if_open}
unfoldable pub use Rattle.rust_cursor.specs.Tokens.{tokens_of}
pub use Rattle.rust_cursor.specs.Words.{by_first, rest}
unfoldable pub use Rattle.rust_cursor.specs.Words.{at, bumped, eat, eat_word, is_at_doc, is_at_end, is_at_identifier, is_at_open, is_empty, is_glued, is_pair, kind, symbol, text, word}
pub use Rattle.rust_edits.specs.Edits.{ArePartsAbout, BeginFrom, HasPlaces, ItemsAreInOrder, MayEdit, MayStandInside, PlacesAreKept, ReadsMoved, Shifts, TellsLoose, begins_bare, body_about, edited_text, has_item, has_place, has_problem, has_range, has_some_range, last_begun, or_kept, shifted_item, shifted_place, shifted_problem}
pub use Rattle.rust_edits.specs.Inner.{AreCut, EndsFit, IsShift, IsUncut, LacksByte, begins_plain, brackets_view, closes_last, in_braces, is_alone, loose_inside, same_loose}
pub use Rattle.rust_edits.specs.ItemJoins.Joined.{BeginsAnew, EndsOwn, EndsWhole, InsideJoin, IsBare, ItemsJoin, ReadsBoth, ends_items, found_on, read_at}
pub use Rattle.rust_edits.specs.ItemJoins.Mended.{ItemsBefore, ItemsBehind, ReadsBothIn}
pub use Rattle.rust_edits.specs.Typing.Laws.{BeginsPlain, IsBody, IsTyped, OpensAt, TypingInside, first_plain, with_body}
pub use Rattle.rust_edits.specs.Typing.Loose.{Loose, ProblemsMove, loose_behind, loose_from, loose_in, none_loose}
pub use Rattle.rust_edits.specs.Typing.Moved.{AreMoved, BodyIsTold, IsReadAnew, PlacesMove, close_at, moved_place, place_after_edit, shifted_by}
pub use Rattle.rust_edits.specs.declared.parts.Parts.{Parts}
pub use Rattle.rust_edits.specs.declared.shift.Shift.{Shift}
pub use Rattle.rust_ids.specs.Ids.{AreIds}
pub use Rattle.rust_ids.specs.Row.{Row}
pub use Rattle.rust_items.proofs.FilePlaces.{text_found, view_placed}
pub use Rattle.rust_items.proofs.ItemRests.{IsBraced, LeafAt, alias_if_leads, behind_others_leads, braced, call_end_leads, front_start, front_takes, leaf_at, named_leads, named_or_leads, renamed_leads, mut_word_leads, rest_leads}
pub use Rattle.rust_items.proofs.LineEnds.{before, below_none, place_le, place_rises_in, place_within, prefix_short, returns_count}
pub use Rattle.rust_items.proofs.Places.{FindsIn, extern_inside_found, extern_turn_found, inside_found, items_found, turn_found, turn_with_found, unless_found}
pub use Rattle.rust_items.proofs.FoundItems.{AreFound, Finds, Span, adds_item, adds_problem_at, adds_use_trees, list_found, list_from, place_span}
pub use Rattle.rust_items.proofs.BodyItems.{FileUntil, alike, file_until, found_rows, of_none}
pub use Rattle.rust_items.proofs.FoundRows.{ListAlike, Rows, RowsAlike, SpanAlike, by_rows, rows_of}
pub use Rattle.rust_items.proofs.BodyLeaves.{BeginPlain, FrontAlike, LeafLost, LeafUntil, front_until, leaf_gone, leaf_lost, leaf_same, leaf_until}
pub use Rattle.rust_items.proofs.ItemsInText.{AreIn, IsIn, IsMaybeIn, spans_in}
pub use Rattle.rust_items.specs.Found.{Finder, Found, and_all, and_problem, and_problem_at, and_row, and_use_trees, nothing_found}
pub use Rattle.rust_items.specs.Ids.{with_ids}
pub use Rattle.rust_items.specs.Items.{BlockRead, and_flaw, and_item, and_leaf, and_parent, as_extern, block_of, by_head, deep_block, depth_of, extern_found, extern_kept, finding_from, inside_unless, items, leaf_found, module_with, needs_name, some_item, span_of, turn_with, unmatched_token}
unfoldable pub use Rattle.rust_items.specs.Items.{extern_block, extern_inside, extern_turn, finding, inside, is_list_end, leaf_turn, turn}
pub use Rattle.rust_items.specs.LineEnds.{is_return, moved_problem, moved_range, moved_span, returns_from, with_feeds}
unfoldable pub use Rattle.rust_items.specs.LineEnds.{place_in}
pub use Rattle.rust_items.specs.Places.{ArePlaces, IsBodyIn, Telling, placed}
pub use Rattle.rust_items.specs.SourceFiles.{FileView, IsFile, IsFileView, behind_attributes, places, read_of}
unfoldable pub use Rattle.rust_items.specs.SourceFiles.{found_in, items_in}
pub use Rattle.rust_items.specs.Typed.{begins_at, has_body, has_body_at}
pub use Rattle.rust_items.specs.declared.log.Problem.{Problem}
pub use Rattle.rust_items.specs.declared.log.ProblemKind.{ProblemKind}
pub use Rattle.rust_items.specs.declared.source_file.ItemPlace.{ItemPlace}
pub use Rattle.rust_leaves.proofs.Fronts.{begins_call_same, behind_others_onward}
pub use Rattle.rust_leaves.proofs.BodyParts.{LeafAlike, SameRange, fields_of, named_local, named_or_local, mut_word_local}
pub use Rattle.rust_leaves.proofs.Rests.{by_taken}
pub use Rattle.rust_leaves.specs.Fronts.{FrontRead}
unfoldable pub use Rattle.rust_leaves.specs.Fronts.{front, front_behind}
unfoldable pub use Rattle.rust_leaves.specs.Heads.{front_words, head, is_called, begins_call, modifier, modifiers, weak_modifier}
pub use Rattle.rust_leaves.specs.Kinds.{call_leaf, leaf_by, leaf_read, named_node, node, plain_read, some_read, told_at, use_read, mut_word, own_attributes, rest_of}
unfoldable pub use Rattle.rust_leaves.specs.Kinds.{constant, crate_item, implementation, invocation, item_call, leaf, macro_definition, structure, use_declaration, plain_leaf}
pub use Rattle.rust_leaves.specs.Leaves.{LeafRead, NameRead, RestRead, are_over, bare_end, crate_alias_if, fields_at, is_before, name_read, next_range, no_name, range_to, rename_of, rest_read, semicolon_end, symbol_within}
unfoldable pub use Rattle.rust_leaves.specs.Leaves.{block_attributes, call_end, crate_alias, fields, has_trait, header_field, written_name, named_or, written_rename, struct_fields, rest_by}
pub use Rattle.rust_leaves.specs.Texts.{last_text_from}
unfoldable pub use Rattle.rust_leaves.specs.Texts.{bare_name, last_text}
pub use Rattle.rust_leaves.specs.declared.head.Head.{Head}
pub use Rattle.rust_lexer.proofs.Laws.{tokens_lossless, tokens_placed}
pub use Rattle.rust_lexer.proofs.TextsApart.{apart, front_same, own, stop_at, tokens_first, tokens_moved}
pub use Rattle.rust_lexer.proofs.WholeTexts.{body_matched, close_symbol, counted_apart, filter_moved, open_at, plain_is}
unfoldable pub use Rattle.rust_lexer.proofs.WholeTexts.{body, close_of, front_of, inside_of, left_of}
pub use Rattle.rust_lexer.specs.Alone.{EndsAlone, StandsAlone, Stop, braces_from, closing, is_fence, is_full, moved_piece, opening, overhang, semicolon, stop, tokens_in_front}
pub use Rattle.rust_lexer.specs.Bytes.{is_continuation}
unfoldable pub use Rattle.rust_lexer.specs.Bytes.{is_wide_continue, is_wide_start}
unfoldable pub use Rattle.rust_lexer.specs.Cut.{first_cut}
pub use Rattle.rust_lexer.specs.Piece.{Piece}
pub use Rattle.rust_lexer.specs.Symbol.{symbol_from, symbol_of}
pub use Rattle.rust_lexer.specs.Terminated.{is_terminated}
pub use Rattle.rust_lexer.specs.Tokens.{AreInPlace, has_mark, is_blank, is_bracket_next, is_nil, is_shebang, is_significant, is_significant_kind, piece, text_of, tokens_from, whole_length}
unfoldable pub use Rattle.rust_lexer.specs.Tokens.{tokens}
pub use Rattle.rust_lexer.specs.declared.kind.DocStyle.TheVariants.{Inner, Outer}
pub use Rattle.rust_lexer.specs.declared.kind.TokenKind.{TokenKind}
pub use Rattle.rust_metas.proofs.Attributes.{inner_attributes_until, outer_attributes_until}
pub use Rattle.rust_metas.proofs.AttributeBrackets.{inner_some}
pub use Rattle.rust_metas.proofs.AttributeRests.{inner_attributes_leads, outer_attributes_leads}
unfoldable pub use Rattle.rust_metas.specs.Attributes.{attribute, attributes, inner_attributes, is_attribute, is_behind, is_doc, outer_attributes}
pub use Rattle.rust_paths.proofs.UseTrees.{SameFound, use_tree_until}
pub use Rattle.rust_paths.proofs.UseTreeRests.{use_tree_leads}
pub use Rattle.rust_paths.specs.Names.{Placed, as_name, placed_if}
unfoldable pub use Rattle.rust_paths.specs.Names.{is_keyword, is_path_keyword, name, next_name, placed_name, plain_name}
unfoldable pub use Rattle.rust_paths.specs.Paths.{path}
unfoldable pub use Rattle.rust_paths.specs.UseTrees.{use_tree}
unfoldable pub use Rattle.rust_paths.specs.Visibilities.{visibility}
pub use Rattle.rust_paths.specs.declared.names.TextRange.{TextRange}
pub use Rattle.std.proofs.lemmas.Bool.{and_from, and_parts, and_right, eq-eqb, eqb-true, false≢true, le-leb, leb-true, lt-leb, lt-ltb, ltb-true, ne_eqb, not-true, or_parts}
pub use Rattle.std.proofs.lemmas.Bool.Decides.{nat_tests}
pub use Rattle.std.proofs.lemmas.Grind.{common_steps}
pub use Rattle.std.proofs.lemmas.List.{append_cancel_left, drop_all, drop_at, map-append, take_all, take_at}
pub use Rattle.std.proofs.lemmas.List.Elements.{All-append, All-cons, All-head, All-nil, All-tail, All-weaker, filter-append}
pub use Rattle.std.proofs.lemmas.Option.{same_Some, slice_get-get_or}
pub use Rattle.std.proofs.lemmas.Str.{IsCharBoundary-after_ascii, IsCharBoundary-from_take, IsUtf8-append}
pub use Rattle.std.specs.List.{filter, list_all}
pub use Rattle.std.specs.Prelude.{All, IfNone, IsCharBoundary, IsSome, is_none, is_some, nat_le, nat_lt, not, option_and_then, option_map, option_to_list, slice_get, slice_index}
pub use Rattle.std.specs.Str.{bytes_eq}
