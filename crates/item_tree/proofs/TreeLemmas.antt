-- What a use tree is seen as, case by case.
use Rattle.item_tree.proofs.Common.{drop_more, Path, ImportAlias, UseTree, UseTreeKind, Prefixed, Single, Glob, branch_count, Tree, Branches, branch_and, single, glob, prefixed, tree_nodes, branch_nodes, tree_count, tree_of, tree_of_kind, trees_of, kind_step, tree_step}
use Rattle.std.proofs.Common.{◌<◌, length, drop, get_or, ◌≡◌, ℕ, ◌+◌, List, ◌∷◌, Option, Vec, Global, sym, ap, ◌∙◌, length-append}
use Rattle.item_tree.specs.declared.use_tree.UseTreeKind.TheVariants.{rolls-Prefixed, rolls-Single, rolls-Glob}
use Rattle.item_tree.specs.declared.use_tree.UseTreeKind.TheFolds.{fold-roll-UseTreeKind, fold_out-UseTree}

pub tree_of-prefixed : (before : Option Path) (list : Vec UseTree Global) → tree_of_kind (Prefixed before list) ≡ prefixed before (trees_of list.items)
tree_of-prefixed before list = ap tree_of_kind (sym (rolls-Prefixed before list)) ∙ fold-roll-UseTreeKind Tree Tree kind_step tree_step _

pub tree_of-single : (path : Path) (alias : Option ImportAlias) → tree_of_kind (Single path alias) ≡ single path alias
tree_of-single path alias = ap tree_of_kind (sym (rolls-Single path alias)) ∙ fold-roll-UseTreeKind Tree Tree kind_step tree_step _

pub tree_of-glob : (path : Option Path) → tree_of_kind (Glob path) ≡ glob path
tree_of-glob path = ap tree_of_kind (sym (rolls-Glob path)) ∙ fold-roll-UseTreeKind Tree Tree kind_step tree_step _

pub tree_of-kind : (t : UseTree) → tree_of t ≡ tree_of_kind t.kind
tree_of-kind t = fold_out-UseTree Tree Tree kind_step tree_step t

-- a node with trees below it, as the code finds it
pub found_prefixed : (t : UseTree) (k : UseTreeKind) (b p : Option Path) (list : Vec UseTree Global) (ts : List UseTree) → tree_of_kind k ≡ tree_of t → k ≡ Prefixed p list → p ≡ b → ts ≡ list.items → tree_of t ≡ prefixed b (trees_of ts)
found_prefixed t k b p list ts e f h i =
    sym e ∙ ap tree_of_kind f ∙ tree_of-prefixed p list ∙ ap (λ q. prefixed q (trees_of list.items)) h ∙ ap (λ xs. prefixed b (trees_of xs)) (sym i)

-- one more of a slice of trees
pub trees_of-more : (ts : List UseTree) (i : ℕ) (t : UseTree) → i < length ts → t ≡ get_or ts i t → trees_of (drop i ts) ≡ branch_and (tree_of t) (trees_of (drop (i + 1) ts))
trees_of-more ts i t h e = ap trees_of (drop_more ts i t h ∙ ap (λ x. x ∷ drop (i + 1) ts) (sym e))

-- and how many nodes it has
pub branch_count-more : (t : Tree) (ts : Branches) → branch_count (branch_and t ts) ≡ tree_count t + branch_count ts
branch_count-more t ts = length-append (tree_nodes t) (branch_nodes ts)

pub ruleset tree_forms = (tree_of-single, tree_of-glob, tree_of-prefixed, tree_of-kind)
