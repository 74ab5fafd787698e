-- How aliases and use trees are displayed.
use Rattle.std.specs.Prelude.{ℕ, List, [], ◌∷◌, ◌++◌, codes, Option, Some, None}
use Rattle.hir_input.specs.Cfg.{by_commas}
use Rattle.hir_input.specs.Name.{shown_name}
use Rattle.hir_input.specs.Path.{Path, shown_path}
use Rattle.item_tree.specs.declared.use_tree.ImportAlias.{ImportAlias}
use Rattle.item_tree.specs.declared.use_tree.ImportAlias.TheVariants.{Underscore, Alias}
use Rattle.item_tree.specs.Tree.{Tree, single, glob, prefixed, Branches, no_branches, branch_and}

-- under these reserved words
module _ (reserved : List (List ℕ)) where
  -- an alias
  abbrev pub shown_alias : ImportAlias → List ℕ
  shown_alias Underscore = codes "_"
  shown_alias (Alias name) = shown_name reserved name

  -- what stands behind a path that may be renamed
  abbrev pub shown_rename : Option ImportAlias → List ℕ
  shown_rename None = []
  shown_rename (Some alias) = codes " as " ++ shown_alias alias

  -- what stands in front of a star or of a list
  abbrev pub shown_prefix : Option Path → List ℕ
  shown_prefix None = []
  shown_prefix (Some p) = shown_path reserved p ++ codes "::"

  -- a use tree
  unfoldable mutual
    -- the text of a use tree
    pub shown_tree : Tree → List ℕ
    shown_tree (single p alias) = shown_path reserved p ++ shown_rename alias
    shown_tree (glob p) = shown_prefix p ++ codes "*"
    shown_tree (prefixed p ts) = shown_prefix p ++ codes "{" ++ by_commas (shown_trees ts) ++ codes "}"

    pub shown_trees : Branches → List (List ℕ)
    shown_trees no_branches = []
    shown_trees (branch_and t ts) = shown_tree t ∷ shown_trees ts
