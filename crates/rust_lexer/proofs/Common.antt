-- The names that most proofs here cite, passed on from one place. Declares nothing.
pub use Rattle.rust_lexer.specs.Alone.{Apart, EndsAlone, StandsAlone, Stop, behind_lead, braces_from, closing, is_fence, is_full, moved_piece, opening, overhang, semicolon, stop, tokens_in_front}
pub use Rattle.rust_lexer.specs.Bytes.{code, is_continuation, is_in_class, is_start, is_white, is_wide_white, is_word, is_word_start, run_length}
unfoldable pub use Rattle.rust_lexer.specs.Bytes.{is_wide_continue, is_wide_start}
pub use Rattle.rust_lexer.specs.Comment.{block, block_style, line_style}
pub use Rattle.rust_lexer.specs.Cut.{apostrophe, b_word, c_word, cut, cut_word, is_punctuation, is_raw_lifetime, lifetime, plain_word, prefixed_raw, quoted_literal, r_word, raw_identifier, raw_or, slash, suffix_len, with_suffix, symbol_kind}
unfoldable pub use Rattle.rust_lexer.specs.Cut.{first_cut}
pub use Rattle.rust_lexer.specs.Depths.{depth_behind, to_outer}
pub use Rattle.rust_lexer.specs.Frontmatter.{closing_dashes, frontmatter}
pub use Rattle.rust_lexer.specs.Inner.{IsBlock, gap, is_blank_byte, is_clean, is_close_byte, is_letter, is_mark_byte, is_open_byte, is_plain_byte, is_prefix_byte, is_quote_byte, is_stop_byte, is_word_byte, split_of}
pub use Rattle.rust_lexer.specs.Number.{based_number, float, int, is_exponent, is_fraction, is_sign, number, past_decimal, past_exponent, past_fraction}
unfoldable pub use Rattle.rust_lexer.specs.Number.{past_digits}
pub use Rattle.rust_lexer.specs.Piece.{Piece}
pub use Rattle.rust_lexer.specs.Quoted.{character, closed_extent, ends_single, is_one_char, raw, raw_string, single, string}
pub use Rattle.rust_lexer.specs.Symbol.{symbol_from, symbol_of}
pub use Rattle.rust_lexer.specs.Tokens.{AreInPlace, has_mark, is_blank, is_bracket_next, is_nil, is_shebang, is_significant, is_significant_kind, lines_from, mark_from, matter_by, matter_from, piece, pieces, shebang_from, text_of, tokens_from, whole_length}
unfoldable pub use Rattle.rust_lexer.specs.Tokens.{tokens}
pub use Rattle.rust_lexer.specs.declared.bytes.Class.{Class}
pub use Rattle.rust_lexer.specs.declared.bytes.TheConstants.{CLASSES}
pub use Rattle.rust_lexer.specs.declared.cut.Cut.{Cut}
pub use Rattle.rust_lexer.specs.declared.depth.Depth.{Depth}
pub use Rattle.rust_lexer.specs.declared.kind.LiteralKind.{LiteralKind}
pub use Rattle.rust_lexer.specs.declared.kind.TokenKind.{TokenKind}
pub use Rattle.rust_lexer.specs.declared.lexer.Front.{Front}
pub use Rattle.rust_lexer.specs.declared.number.Numeral.{Numeral}
pub use Rattle.rust_lexer.specs.declared.quoted.Extent.{Extent}
pub use Rattle.std.proofs.lemmas.Bool.{cases_Bool, cond_both, eqb-true}
pub use Rattle.std.proofs.lemmas.Bool.Decides.{nat_tests}
pub use Rattle.std.proofs.lemmas.List.{drop_at, get_or-drop, take-append-le, take_rest}
pub use Rattle.std.proofs.lemmas.List.Elements.{All-cons, All-nil, filter-append}
pub use Rattle.std.specs.Char.{is_ascii_alphabetic, is_ascii_alphanumeric, is_ascii_digit}
