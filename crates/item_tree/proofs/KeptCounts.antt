-- How many nodes are kept.
use Rattle.std.proofs.Common.{◌≡◌, ◌<◌, ◌≤◌, ℕ, zero, suc, List, [], ◌∷◌, length, get_or, length-append, arith, ap}
use Rattle.item_tree.proofs.Common.{UseTree, tree_of, trees_of, tree_nodes, branch_nodes, tree_count}

-- a tree of a list has at most the nodes of all of them
pub count_in : (t : UseTree) (ts : List UseTree) (i : ℕ) → i < length ts → t ≡ get_or ts i t → tree_count (tree_of t) ≤ length (branch_nodes (trees_of ts))
count_in t [] i h e = absurd (omega arith)
count_in t (u ∷ ts) zero h e =
    let s : tree_count (tree_of t) ≡ tree_count (tree_of u) = ap (λ v. tree_count (tree_of v)) e in
    omega (arith, length-append (tree_nodes (tree_of u)) (branch_nodes (trees_of ts)))
count_in t (u ∷ ts) (suc i) h e =
    let r = count_in t ts i (omega arith) e in
    omega (arith, length-append (tree_nodes (tree_of u)) (branch_nodes (trees_of ts)))
