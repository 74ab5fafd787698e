-- A kept use tree as plain data.
use Rattle.std.specs.Prelude.{ℕ, List, [], ◌∷◌, ◌++◌, length, map, Option}
use Rattle.hir_input.specs.Lists.{list_as}
use Rattle.hir_input.specs.Path.{Path}
use Rattle.item_tree.specs.declared.use_tree.ImportAlias.{ImportAlias}
use Rattle.item_tree.specs.declared.use_tree.UseTree.{UseTree}
use Rattle.item_tree.specs.declared.use_tree.UseTreeKind.{UseTreeKind}
use Rattle.item_tree.specs.declared.use_tree.UseTreeKind.TheOpen.{UseTreeKind-F, UseTree-F, Single, Glob, Prefixed}
use Rattle.item_tree.specs.declared.use_tree.UseTreeKind.TheFolds.{fold-UseTreeKind, fold-UseTree}

mutual
  pub data Tree : Type 0 where
    single : Path → Option ImportAlias → Tree
    glob : Option Path → Tree
    prefixed : Option Path → Branches → Tree

  pub data Branches : Type 0 where
    no_branches : Branches
    branch_and : Tree → Branches → Branches

abbrev pub branches_from : List Tree → Branches
branches_from = list_as no_branches branch_and

-- all nodes, each before those below it
abbrev mutual
  pub tree_nodes : Tree → List Tree
  tree_nodes (prefixed p ts) = prefixed p ts ∷ branch_nodes ts
  tree_nodes t = t ∷ []

  pub branch_nodes : Branches → List Tree
  branch_nodes no_branches = []
  branch_nodes (branch_and t ts) = tree_nodes t ++ branch_nodes ts

-- how many nodes there are
abbrev pub tree_count : Tree → ℕ
tree_count t = length (tree_nodes t)

-- ---- what a use tree is seen as

-- one node, with each tree of its list seen in its place
abbrev pub kind_step : UseTreeKind-F Tree Tree → Tree
kind_step (Single path alias) = single path alias
kind_step (Glob path) = glob path
kind_step (Prefixed prefix list) = prefixed prefix (branches_from list.items)

abbrev pub tree_step : UseTree-F Tree Tree → Tree
tree_step t = t.kind

-- the same of what stands behind its prefix
abbrev pub tree_of_kind : UseTreeKind → Tree
tree_of_kind = fold-UseTreeKind Tree Tree kind_step tree_step

-- a use tree of an item tree, without ids
abbrev pub tree_of : UseTree → Tree
tree_of = fold-UseTree Tree Tree kind_step tree_step

abbrev pub trees_of : List UseTree → Branches
trees_of ts = branches_from (map tree_of ts)
