-- The names that most proofs here cite, passed on from one place. Declares nothing.
pub use Rattle.hir_input.specs.Path.{HasWords, Path}
pub use Rattle.hir_input.specs.UseTreeView.{UseTreeView, tree_from, use_tree_view}
pub use Rattle.hir_input.specs.Words.{PathWord, absolute_word, crate_word, dollar_crate_word, name_word, path_of, read_names, read_supers, read_words, self_word, super_word, words}
pub use Rattle.hir_input.specs.declared.ast.PathNode.{PathNode}
pub use Rattle.hir_input.specs.declared.ast.PathNode.TheVariants.{Readable, Unreadable}
pub use Rattle.hir_input.specs.declared.edition.EditionYear.{EditionYear}
pub use Rattle.rust_cursor.proofs.TokenRests.{Forwards, behind_closed_leads, behind_tree_leads, bumped_leads, eat_pair_leads, further, here, through, turns_leads, when}
pub use Rattle.rust_cursor.proofs.PartingReaders.{Entering, Onward, Parting, UntilBy, by_kept, by_next, cond_until, eat_pair_until, gone, kept, on, turns_by, into}
pub use Rattle.rust_cursor.proofs.Rules.{identifier_symbol, rule_leads, rule_until}
pub use Rattle.rust_cursor.proofs.Places.{AreAlike, IsAlike, SamePlace, alike_join, alike_or, both, neither, no_more, one_more}
pub use Rattle.rust_cursor.proofs.SideReaders.{braces_enter, into_braces, went_until}
pub use Rattle.rust_cursor.proofs.TwinTokens.{after_symbol, end_same, symbol_test}
pub use Rattle.rust_cursor.specs.TokensBeside.{Beside, Bodies}
unfoldable pub use Rattle.rust_cursor.specs.Brackets.{behind_closed, behind_tree}
pub use Rattle.rust_cursor.specs.Elements.{one, turns_from}
unfoldable pub use Rattle.rust_cursor.specs.Elements.{progress_from}
pub use Rattle.rust_cursor.specs.Grammar.{by_identifier, reads, taken_with}
pub use Rattle.rust_cursor.specs.Looks.{past_from, sees}
pub use Rattle.rust_cursor.specs.Reader.{Reader}
pub use Rattle.rust_cursor.specs.Tokens.{Tokens}
pub use Rattle.rust_cursor.specs.Words.{by_first, eat_colons}
unfoldable pub use Rattle.rust_cursor.specs.Words.{at, bumped, is_at_end, is_empty, kind, symbol, word}
pub use Rattle.rust_lexer.specs.Piece.{Piece}
pub use Rattle.rust_lexer.specs.declared.kind.TokenKind.{TokenKind}
pub use Rattle.rust_paths.specs.Inner.{may_be_path_keyword, meaning, meant_path, path_start, then_word, with_word, with_words, word_behind}
pub use Rattle.rust_paths.specs.Meaning.{all_words, fits, node_of, path_node, read_all}
pub use Rattle.rust_paths.specs.Names.{Placed, as_name, behind_hash, is_since_2018, is_since_2024, is_underscore, keywords, keywords_since_2018, keywords_since_2024, may_be_keyword, identifier_name, name_text, path_keywords, placed_if}
unfoldable pub use Rattle.rust_paths.specs.Names.{has_name, is_keyword, is_path_keyword, name, next_name, placed_name, plain_name}
pub use Rattle.rust_paths.specs.Paths.{front_of_path, has_more, is_raw, more_from}
unfoldable pub use Rattle.rust_paths.specs.Paths.{is_colons, is_dollar_crate, is_joint, is_last_self, is_path_colons, is_path_start, is_segment, more_segments, other_segment, path, segment, use_path}
pub use Rattle.rust_paths.specs.UseTrees.{FoundInUse, all_found, all_starts, bare_tree, begun_list, begun_trees, comma_from, element_with, first_too_deep, no_list, renamed_tree, self_in_list, self_path, self_tree, some_list, star_or_list, tree_behind, tree_behind_comma, tree_with, tree_with_list, trees, values, with_bare, with_list, with_self}
unfoldable pub use Rattle.rust_paths.specs.UseTrees.{comma, element, list, rename, tree_at, use_tree}
pub use Rattle.rust_paths.specs.Visibilities.{is_path_part, plain_scope, scope_path}
unfoldable pub use Rattle.rust_paths.specs.Visibilities.{is_in, scope, scope_of, scoped_visibility}
pub use Rattle.std.proofs.lemmas.Bool.{and_parts, ne_eqb}
pub use Rattle.std.proofs.lemmas.Bool.Decides.{nat_tests}
pub use Rattle.std.specs.Option.{SomeIff, option_or}
