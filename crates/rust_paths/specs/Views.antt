-- What was read, as plain data.
use Rattle.std.specs.Prelude.{ℕ, map, ◌++◌, Option, option_map, option_to_list, List}
use Rattle.hir_input.specs.UseTreeView.{UseTreeView, use_tree_view}
use Rattle.rust_paths.specs.declared.names.PlacedName.{PlacedName}
use Rattle.rust_paths.specs.declared.use_trees.FoundUseTree.{FoundUseTree}
use Rattle.rust_paths.specs.declared.use_trees.FoundList.{FoundList}
use Rattle.rust_paths.specs.declared.use_trees.FoundTrees.{FoundTrees}
use Rattle.rust_paths.specs.declared.use_trees.TreeStarts.{TreeStarts}
use Rattle.rust_paths.specs.Names.{Placed}
use Rattle.rust_paths.specs.UseTrees.{FoundInUse}

-- a name with its range, as plain data
abbrev pub placed_view : PlacedName → Placed
placed_view p = record { name = p.name; start = p.range.start; end = p.range.end }

-- where a use tree begins, and those in it
abbrev pub starts_view : TreeStarts → List ℕ
starts_view s = option_to_list s.own ++ s.below.items

-- a use tree that was found, as plain data
abbrev pub found_view : FoundUseTree → FoundInUse (Option UseTreeView)
found_view f = record { value = option_map use_tree_view f.tree; starts = starts_view f.starts; too_deep = f.too_deep }

abbrev pub list_view : FoundList → FoundInUse (Option (List UseTreeView))
list_view f = record { value = option_map (λ v. map use_tree_view v.items) f.list; starts = f.starts.items; too_deep = f.too_deep }

abbrev pub trees_view : FoundTrees → FoundInUse (List UseTreeView)
trees_view f = record { value = map use_tree_view f.trees.items; starts = f.starts.items; too_deep = f.too_deep }
