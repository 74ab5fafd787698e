-- A code of the view of a use tree.
use Rattle.std.specs.Prelude.{◌≡◌, Bool, Option, refl}
use Rattle.std.specs.Coded.{Coded, code_by, coded×, coded_option, coded_bool}
use Rattle.std.proofs.Common.{ap}
use base.Stored.{Gv, gnil, gnum, gcons}
use Rattle.hir_input.specs.declared.ast.PathNode.{PathNode}
use Rattle.hir_input.specs.declared.ast.Rename.{Rename}
use Rattle.hir_input.specs.contracts.ast.PathNode as path_node
use Rattle.hir_input.specs.contracts.ast.Rename as rename
use Rattle.hir_input.specs.Code.Parts.{front_code, behind_code}
use Rattle.hir_input.specs.UseTreeView.{UseNode, UseTreeView, bare_tree, listed_tree, UseTreeViews, no_trees, tree_and}

abbrev pub use_node_code : Coded UseNode
use_node_code =
    code_by (Option PathNode × (Bool × Option Rename))
    (coded× (coded_option path_node.the_row.coded) (coded× coded_bool (coded_option rename.the_row.coded)))
    (λ n. (n.path, (n.star, n.rename)))
    (λ p. record { path = p.0; star = p.1.0; rename = p.1.1 })
    (λ _. refl)

abbrev mutual
  pub tree_to : UseTreeView → Gv
  tree_to (bare_tree n) = gcons (gnum 0) (use_node_code.code n)
  tree_to (listed_tree n ts) = gcons (gnum 1) (gcons (use_node_code.code n) (trees_to ts))

  pub trees_to : UseTreeViews → Gv
  trees_to no_trees = gnil
  trees_to (tree_and t ts) = gcons (tree_to t) (trees_to ts)

mutual
  pub tree_inj : (t u : UseTreeView) → tree_to t ≡ tree_to u → t ≡ u
  tree_inj (bare_tree n) (bare_tree m) h = ap bare_tree (use_node_code.inj n m (ap behind_code h))
  tree_inj (listed_tree n ts) (listed_tree m us) h =
      let p = use_node_code.inj n m (ap (λ g. front_code (behind_code g)) h) in
      let q = trees_inj ts us (ap (λ g. behind_code (behind_code g)) h) in
      λ i. listed_tree (p i) (q i)
  tree_inj _ _ h = cc

  trees_inj : (ts us : UseTreeViews) → trees_to ts ≡ trees_to us → ts ≡ us
  trees_inj no_trees no_trees h = refl
  trees_inj (tree_and t ts) (tree_and u us) h = λ i. tree_and (tree_inj t u (ap front_code h) i) (trees_inj ts us (ap behind_code h) i)
  trees_inj _ _ h = cc

abbrev pub use_tree_code : Coded UseTreeView
use_tree_code = record { code = tree_to; inj = tree_inj }
