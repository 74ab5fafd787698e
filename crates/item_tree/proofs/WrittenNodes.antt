-- What a written node with a list is seen as.
use Rattle.std.proofs.Common.{◌≡◌, Some, Vec, Global, sym, ap, ◌∙◌}
use Rattle.hir_input.specs.declared.ast.UseTree.{UseTree}
use Rattle.hir_input.specs.declared.ast.UseTree.TheViews.{out-UseTree}
use Rattle.item_tree.proofs.Common.{listed_tree, use_node, use_tree_view, use_trees_view}
use Rattle.hir_input.proofs.UseTreeViews.{use_tree_view-listed}

pub view_listed : (t : UseTree) (list : Vec UseTree Global) → (out-UseTree t).list ≡ Some list → use_tree_view t ≡ listed_tree (use_node (use_tree_view t)) (use_trees_view list.items)
view_listed t list e =
    let listed = use_tree_view-listed t list e in
    listed ∙ ap (λ node. listed_tree node (use_trees_view list.items)) (sym (ap use_node listed))
