-- What use trees, modules and extern blocks are seen as, and what is wrong with these.
use Rattle.std.proofs.Common.{◌≡◌, Bool, ℕ, List, Option, Some, None, option_map, map, refl, ap, ◌∙◌}
use Rattle.hir_input.specs.declared.ast.ExternBlock as ast_extern_block
use Rattle.hir_input.specs.declared.ast.Module as ast_module
use Rattle.hir_input.specs.Syntax.{NodeView, NamedView, ItemView, node_from, named_from, module_from, extern_block_from, module_view, extern_block_view, extern_item_view, item_view}
use Rattle.hir_input.proofs.SyntaxViews.{module_view-fields}
use Rattle.hir_input.proofs.UseTreeViews.{use_tree_view-bare, use_tree_view-listed}
use Rattle.source_problems.specs.Items.{own_problems, named_problems, node_problems}

pub ruleset use_tree_views = (use_tree_view-bare, use_tree_view-listed)

module_by : (at : ℕ) (n : NamedView) (semicolon : Bool) (list : Option (List ItemView)) → own_problems at (module_from n semicolon list) ≡ named_problems at n
module_by at n semicolon None = refl
module_by at n semicolon (Some is) = refl

extern_by : (at : ℕ) (n : NodeView) (list : Option (List ItemView)) → own_problems at (extern_block_from n list) ≡ node_problems at n
extern_by at n None = refl
extern_by at n (Some is) = refl

pub own_module : (at : ℕ) (m : ast_module.Module) → own_problems at (module_view m) ≡ named_problems at (named_from m.hash m.number m.attrs.items m.name m.visibility m.body)
own_module at m =
    ap (own_problems at) (module_view-fields m) ∙ module_by at (named_from m.hash m.number m.attrs.items m.name m.visibility m.body) m.semicolon (option_map (λ v. map item_view v.items) m.items)

pub own_extern : (at : ℕ) (b : ast_extern_block.ExternBlock) → own_problems at (extern_block_view b) ≡ node_problems at (node_from b.hash b.number b.attrs.items b.body)
own_extern at b = extern_by at (node_from b.hash b.number b.attrs.items b.body) (option_map (λ v. map extern_item_view v.items) b.items)

pub ruleset own_parents = (own_module, own_extern)
