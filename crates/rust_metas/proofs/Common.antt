-- The names that most proofs here cite, passed on from one place. Declares nothing.
pub use Rattle.hir_input.specs.Attr.{MetaView, cfg_attr_meta, meta_view, metas_from, path_meta}
pub use Rattle.hir_input.specs.Cfg.{CfgView, cfg_view}
pub use Rattle.hir_input.specs.declared.ast.PathNode.{PathNode}
pub use Rattle.rust_cursor.proofs.TokenRests.{Forwards, LeadsTo, behind_tree_leads, bumped_leads, further, here, through, turns_leads, when}
pub use Rattle.rust_cursor.proofs.PartingReaders.{Entering, Levels, Onward, Parting, UpTo, level_counted, level_enters, levelled, on, pass_until, turns_until, until_level}
pub use Rattle.rust_cursor.proofs.Rules.{rule_leads}
pub use Rattle.rust_cursor.proofs.Turns.{turns_more, turns_one}
unfoldable pub use Rattle.rust_cursor.specs.Brackets.{behind_closed, behind_tree}
pub use Rattle.rust_cursor.specs.Elements.{elements, one, turns_from}
unfoldable pub use Rattle.rust_cursor.specs.Elements.{progress_from, most_tokens, turns}
unfoldable pub use Rattle.rust_cursor.specs.Extents.{begins_item}
pub use Rattle.rust_cursor.specs.Anchored.{reads_from}
pub use Rattle.rust_cursor.specs.Grammar.{reads}
pub use Rattle.rust_cursor.specs.Looks.{past_from, sees}
pub use Rattle.rust_cursor.specs.Nests.{is_literal_kind}
pub use Rattle.rust_cursor.specs.Reader.{Reader}
pub use Rattle.rust_cursor.specs.Tokens.{Tokens}
pub use Rattle.rust_cursor.specs.Words.{by_first}
unfoldable pub use Rattle.rust_cursor.specs.Words.{at, bumped, is_at_end, is_at_open, is_empty, kind, symbol, text, word}
pub use Rattle.rust_lexer.specs.declared.kind.DocStyle.{DocStyle}
pub use Rattle.rust_lexer.specs.declared.kind.DocStyle.TheVariants.{Inner, Outer}
pub use Rattle.rust_metas.specs.Attributes.{behind_attribute, bracket_end, deepest_level, is_style, past_mark}
unfoldable pub use Rattle.rust_metas.specs.Attributes.{attribute, attributes, behind_docs, bracketed_meta, inner_attributes, is_attribute, is_behind, is_doc, one_attribute, outer_attributes}
pub use Rattle.rust_metas.specs.Conditions.{condition_with, if_named, is_word_kind, named_condition}
unfoldable pub use Rattle.rust_metas.specs.Conditions.{condition, conditions, ended_condition, is_option_word, option_name, pair}
pub use Rattle.rust_metas.specs.Docs.{is_condition_meta, is_wanted_meta, kept_by}
unfoldable pub use Rattle.rust_metas.specs.Docs.{kept_metas}
pub use Rattle.rust_metas.specs.Escapes.{blanks, number_from, scalar_of, stands_for}
pub use Rattle.rust_metas.specs.Literals.{root, style_by}
unfoldable pub use Rattle.rust_metas.specs.Literals.{is_ended, is_literal, is_truth, value}
pub use Rattle.rust_metas.specs.Metas.{conditional, member, meta_with}
unfoldable pub use Rattle.rust_metas.specs.Metas.{input, is_call, is_at_name, is_named_call, meta, plain_meta}
pub use Rattle.rust_metas.specs.Strings.{with_place, ended_string, hashes, prepend, bytes_and_left, raw_from, unescaped_bytes, written_byte}
unfoldable pub use Rattle.rust_metas.specs.Strings.{as_text, escaped_character}
pub use Rattle.rust_metas.specs.Unread.{behind_unread, is_unread, may_condition}
unfoldable pub use Rattle.rust_metas.specs.Unread.{is_plain_name, plain_bracketed, plain_input}
pub use Rattle.rust_metas.specs.declared.wanted.WantedMetas.{WantedMetas}
unfoldable pub use Rattle.rust_paths.specs.Paths.{path}
pub use Rattle.rust_paths.specs.UseTrees.{comma_from, tree_behind_comma}
unfoldable pub use Rattle.rust_paths.specs.UseTrees.{comma}
pub use Rattle.std.proofs.ResultArms.{chosen}
pub use Rattle.std.proofs.lemmas.Bool.{and_parts, eqb-true, ne_eqb}
pub use Rattle.std.proofs.lemmas.List.{append_assoc, map-append}
pub use Rattle.std.proofs.lemmas.Str.{IsUtf8-from_is_utf8, IsUtf8-string_bytes, is_utf8-from_IsUtf8}
