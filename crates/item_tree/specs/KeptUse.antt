-- The use tree that is kept of a written one, and where its nodes are written.
use Rattle.std.specs.Prelude.{◌≡◌, ℕ, ◌+◌, ◌^◌, ◌-◌, Bool, true, false, List, [], ◌∷◌, ◌++◌, map, slice_get, Option, Some, None, option_map, option_and_then}
use Rattle.hir_input.specs.Path.{Path}
use Rattle.hir_input.specs.declared.ast.PathNode.{PathNode}
use Rattle.hir_input.specs.declared.ast.PathNode.TheVariants.{Readable, Unreadable}
use Rattle.hir_input.specs.declared.ast.Rename.{Rename}
use Rattle.hir_input.specs.UseTreeView.{UseTreeView, bare_tree, listed_tree, UseTreeViews, no_trees, tree_and, written_nodes, written_count}
use Rattle.item_tree.specs.declared.use_tree.ImportAlias.{ImportAlias}
use Rattle.item_tree.specs.declared.use_tree.ImportAlias.TheVariants.{Underscore, Alias}
use Rattle.item_tree.specs.Tree.{Tree, single, glob, prefixed, branches_from, tree_nodes}

-- a rename without a name is `_`
abbrev pub alias_named : Option (List ℕ) → ImportAlias
alias_named None = Underscore
alias_named (Some name) = Alias name

abbrev pub alias_of : Option Rename → Option ImportAlias
alias_of rename = option_map (λ (r : Rename). alias_named r.name) rename

-- without a list: an unreadable path, a star with a rename, and a node in which neither path nor star is written are dropped
abbrev pub kept_bare : Option PathNode → Bool → Option Rename → Option Tree
kept_bare (Some Unreadable) star rename = None
kept_bare None true (Some r) = None
kept_bare None true None = Some (glob None)
kept_bare None false rename = None
kept_bare (Some (Readable p)) true (Some r) = None
kept_bare (Some (Readable p)) true None = Some (glob (Some p))
kept_bare (Some (Readable p)) false rename = Some (single p (alias_of rename))

-- with a list: the prefix, if there is none that is unreadable
abbrev pub kept_prefix : Option PathNode → Option (Option Path)
kept_prefix None = Some None
kept_prefix (Some (Readable p)) = Some (Some p)
kept_prefix (Some Unreadable) = None

-- a list with one more tree in front, if there is one
abbrev pub with_kept : Option Tree → List Tree → List Tree
with_kept None ts = ts
with_kept (Some t) ts = t ∷ ts

-- what is kept of a use tree: an unreadable prefix drops all below it, and a star or a rename beside a list is ignored
abbrev mutual
  pub kept_tree : UseTreeView → Option Tree
  kept_tree (bare_tree node) = kept_bare node.path node.star node.rename
  kept_tree (listed_tree node ts) = option_map (λ prefix. prefixed prefix (branches_from (kept_trees ts))) (kept_prefix node.path)

  pub kept_trees : UseTreeViews → List Tree
  kept_trees no_trees = []
  kept_trees (tree_and t ts) = with_kept (kept_tree t) (kept_trees ts)

-- a list, where something is kept
abbrev pub if_kept : {A B : Type 0} → Option A → List B → List B
if_kept None places = []
if_kept (Some a) places = places

-- the place of each kept node among all written nodes from k on, each before those below it
abbrev mutual
  pub kept_places : ℕ → UseTreeView → List ℕ
  kept_places k (bare_tree node) = if_kept (kept_bare node.path node.star node.rename) (k ∷ [])
  kept_places k (listed_tree node ts) = if_kept (kept_prefix node.path) (k ∷ all_kept_places (k + 1) ts)

  pub all_kept_places : ℕ → UseTreeViews → List ℕ
  all_kept_places k no_trees = []
  all_kept_places k (tree_and t ts) = kept_places k t ++ all_kept_places (k + written_count t) ts

-- at each of these places, in order, is written the node from which the next node of the tree is kept
abbrev pub ArePlacesOf : UseTreeView → List ℕ → Tree → Type 0
ArePlacesOf w places t = map (λ place. option_and_then kept_tree (slice_get (written_nodes w) place)) places ≡ map Some (tree_nodes t)

-- the most written nodes of a use tree that is kept
abbrev pub use_tree_limit : ℕ
use_tree_limit = 2 ^ 32 - 1
