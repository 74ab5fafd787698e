-- The names that most proofs here cite, passed on from one place. Declares nothing.
pub use Rattle.hir_input.specs.declared.edition.EditionYear.{EditionYear}
pub use Rattle.rust_cursor.specs.Angles.{begins_binder, behind_field, behind_header, closes_around, is_barred, is_header_end, is_lone_for}
unfoldable pub use Rattle.rust_cursor.specs.Angles.{behind_angles, is_closed, is_reached, is_trait_impl, reach_end, reach_from}
pub use Rattle.rust_cursor.specs.TokensBeside.{AreBefore, AreBehind, AreOpen, Beside, Bodies, ahead, behind}
pub use Rattle.rust_cursor.specs.Brackets.{behind_closing}
unfoldable pub use Rattle.rust_cursor.specs.Brackets.{behind_closed, behind_tree, closing, is_closing, to_closing}
pub use Rattle.rust_cursor.specs.Elements.{elements, one, perhaps, turns_from}
unfoldable pub use Rattle.rust_cursor.specs.Elements.{progress_from, turns}
pub use Rattle.rust_cursor.specs.Extents.{ExcerptRead, LeadsOn, begins, begins_behind, begins_const, begins_with_attribute, block_at, clipped_excerpt, documents_item, ends_flat, excerpt, follows_const, follows_extern, follows_macro_rules, follows_union, goes_on, impl_rest, item_rest, kept_text, opened_behind, taking_from, taking_on, tree_text}
unfoldable pub use Rattle.rust_cursor.specs.Extents.{begins_impl_or_const, begins_item, begins_within, ends, has_blank, is_joined, more, stops, excerpt_behind, taking}
pub use Rattle.rust_cursor.specs.Inner.{leads_item, may_lead_on}
pub use Rattle.rust_cursor.specs.Nests.{before_type, behind_braces, braces_behind, closes_other, no_bracket, flat_behind, inside_behind, is_arrow, is_flat, is_mark, is_whole, nest_inside, nest_outside, opens_other, others_behind, passing_from}
unfoldable pub use Rattle.rust_cursor.specs.Nests.{leads_on, nest_behind}
pub use Rattle.rust_cursor.specs.Reader.{Reader}
pub use Rattle.rust_cursor.specs.Tokens.{Tokens, end_of, last_unended, left_of, place_if_open}
unfoldable pub use Rattle.rust_cursor.specs.Tokens.{tokens_of}
pub use Rattle.rust_cursor.specs.Words.{by_first, closes, documents, identifies, is_close, is_open, opens, rest, taken_if, word_by}
unfoldable pub use Rattle.rust_cursor.specs.Words.{at, bumped, eat, eat_pair, eat_word, is_at_doc, is_at_end, is_at_identifier, is_at_open, is_empty, is_glued, is_pair, kind, symbol, text, word}
pub use Rattle.rust_cursor.specs.declared.cursor.generics.Reach.{Reach}
pub use Rattle.rust_cursor.specs.declared.cursor.nest.Before.{Before}
pub use Rattle.rust_cursor.specs.declared.cursor.nest.Nest.{Nest}
pub use Rattle.rust_cursor.specs.declared.cursor.texts.Extent.{Extent}
pub use Rattle.rust_lexer.proofs.Laws.{AreSome, tokens_lossless, tokens_not_empty, tokens_placed}
pub use Rattle.rust_lexer.specs.Alone.{braces_from, moved_piece, overhang, tokens_in_front}
pub use Rattle.rust_lexer.specs.Piece.{Piece}
pub use Rattle.rust_lexer.specs.Symbol.{symbol_from, symbol_of}
pub use Rattle.rust_lexer.specs.Tokens.{AreInPlace, is_significant, is_significant_kind, piece, text_of, tokens_from, whole_length}
unfoldable pub use Rattle.rust_lexer.specs.Tokens.{tokens}
pub use Rattle.rust_lexer.specs.declared.kind.TokenKind.{TokenKind}
pub use Rattle.std.proofs.lemmas.Bool.{and_parts, cases_Bool, eqb-true, false_from_ne_true, not-true, or_parts}
pub use Rattle.std.proofs.lemmas.Bool.Decides.{nat_tests}
pub use Rattle.std.proofs.lemmas.List.Elements.{All-head, All-tail}
pub use Rattle.std.proofs.lemmas.Slice.Eq.{bytes_eq-Decides}
