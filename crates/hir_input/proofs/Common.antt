-- The names that most proofs here cite, passed on from one place. Declares nothing.
pub use Rattle.hir_input.specs.Attr.{MetaView, cfg_attr_meta, cfg_meta, key_value_meta, meta_and, meta_step, meta_view, metas_from, path_meta, token_tree_meta, unsafe_meta}
pub use Rattle.hir_input.specs.Cfg.{AtomView, CfgView, all_of, any_of, atom, atom_view, by_commas, cfg_and, cfg_step, cfg_view, cfgs_from, first_but, is_atom, is_set, not_of}
unfoldable pub use Rattle.hir_input.specs.Cfg.{shown_cfg, shown_cfgs, truth, truths}
pub use Rattle.hir_input.specs.Equality.{DecidesEq, DecidesEqOf}
pub use Rattle.hir_input.specs.Name.{IsName, is_name, name_in, shown_name}
pub use Rattle.hir_input.specs.Path.{HasWords, Path, by_colons, first_words, shown_more, shown_path}
pub use Rattle.hir_input.specs.UseTreeView.{all_written_nodes, bare_tree, listed_tree, tree_from, use_tree_view, use_trees_view, written_nodes}
pub use Rattle.hir_input.specs.Words.{PathWord, absolute_word, crate_word, dollar_crate_word, kind_words, name_word, path_of, read_names, read_supers, read_words, self_word, super_word, words}
pub use Rattle.hir_input.specs.declared.ast.UseTree.{UseTree}
pub use Rattle.hir_input.specs.declared.ast.UseTree.TheViews.{out-UseTree}
pub use Rattle.hir_input.specs.declared.attr.Meta.{Meta, fold-roll-Meta, ind-Meta, map-Meta, out-Meta, out-roll-Meta, roll-Meta, roll-out-Meta}
pub use Rattle.hir_input.specs.declared.cfg.CfgExpr.{CfgExpr, fold-roll-CfgExpr, ind-CfgExpr, map-CfgExpr, out-CfgExpr, out-roll-CfgExpr, roll-CfgExpr, roll-out-CfgExpr, the_lemmas}
pub use Rattle.hir_input.specs.declared.mod_path.PathKind.{PathKind}
pub use Rattle.hir_input.specs.declared.mod_path.PathKind.TheVariants.{Abs, Crate, DollarCrate, Plain, Super}
pub use Rattle.std.proofs.Output.{has_written_append, has_written_of_eq}
pub use Rattle.std.proofs.lemmas.Bool.Decides.{Decides-and, Decides-at, Decides-like, nat_tests}
pub use Rattle.std.proofs.lemmas.Grind.{common_steps, flat_map-append}
pub use Rattle.std.proofs.lemmas.List.Folds.{flat_map-map, length-flat_map-take, list_any_at, list_any_none}
pub use Rattle.std.specs.Cmp.Lexicographic.{pointwise, pointwise_decides}
pub use Rattle.std.specs.Fmt.{HasWritten, IsPlainFormatter}
pub use Rattle.std.specs.List.{AllZip, list_any}
pub use Rattle.std.specs.Option.{SomeIff, option_eq}
