-- The names that most proofs here cite, passed on from one place. Declares nothing.
pub use Rattle.hir_input.specs.Syntax.{ItemView, ItemViews, NamedView, NodeView, SyntaxView, asm_item, bare_extern_block, bare_module, const_item, extern_crate, impl_item, item_and, listed_extern_block, listed_module, macro_call, macro_rules, no_items, plain_item, source_file, struct_item, syntax_view, use_item}
pub use Rattle.hir_input.specs.declared.edition.EditionYear.{EditionYear}
pub use Rattle.item_tree.specs.CrateView.{crate_view}
pub use Rattle.item_tree.specs.Kept.{head_of, kept, kept_all, kept_syntax, module_node, readable_path, shape_of}
pub use Rattle.item_tree.specs.Lowered.{IsTooLargeIn, kept_in}
pub use Rattle.item_tree.specs.declared.crate_data.CrateData.{CrateData}
pub use Rattle.itemtree_commands.specs.Trees.{IsTextUnread, IsTreeIn, IsTreeOf, IsTreeRefused, metas_under, wanted_under}
pub use Rattle.itemtree_commands.specs.declared.trees.SourceError.TheVariants.{Lower}
pub use Rattle.itemtree_commands.specs.declared.trees.SourceTree.{SourceTree}
