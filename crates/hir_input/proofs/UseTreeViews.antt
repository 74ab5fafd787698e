-- What a use tree is seen as.
use Rattle.std.proofs.Common.{◌≡◌, Some, None, option_map, map, Vec, Global, refl, ◌∙◌, rules}
use Rattle.hir_input.proofs.Common.{UseTree, out-UseTree, bare_tree, listed_tree, tree_from, use_tree_view, use_trees_view}
use Rattle.hir_input.specs.declared.ast.UseTree.{the_lemmas}

-- a use tree by its own fields
pub use_tree_view-fields : (t : UseTree)
    → use_tree_view t
    ≡ tree_from (record { path = (out-UseTree t).path; star = (out-UseTree t).star; rename = (out-UseTree t).rename }) (option_map (λ v. map use_tree_view v.items) (out-UseTree t).list)
use_tree_view-fields t = search (rules, the_lemmas)

pub use_tree_view-bare : (t : UseTree) → (out-UseTree t).list ≡ None → use_tree_view t ≡ bare_tree (record { path = (out-UseTree t).path; star = (out-UseTree t).star; rename = (out-UseTree t).rename })
use_tree_view-bare t e = use_tree_view-fields t ∙ rw e refl

pub use_tree_view-listed : (t : UseTree) (list : Vec UseTree Global) → (out-UseTree t).list ≡ Some list → use_tree_view t ≡ listed_tree (record { path = (out-UseTree t).path; star = (out-UseTree t).star; rename = (out-UseTree t).rename }) (use_trees_view list.items)
use_tree_view-listed t list e = use_tree_view-fields t ∙ rw e refl
