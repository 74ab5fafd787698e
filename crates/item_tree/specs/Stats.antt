-- Numbers of nodes.
use Rattle.std.specs.Prelude.{ℕ, ◌+◌, Bool, if◌then◌else◌}
use Rattle.hir_input.specs.declared.ids.AstIdKind.{AstIdKind}
use Rattle.hir_input.specs.declared.ids.AstIdKind.TheVariants as kind
use Rattle.hir_input.specs.contracts.ids.AstIdKind as kinds
use Rattle.item_tree.specs.Node.{Node, Forest, leaf, parent, empty, more, leaf_kind, trunk_kind}
use Rattle.item_tree.specs.Same.{same}
use Rattle.item_tree.specs.declared.tree.ItemTreeDataStats.{ItemTreeDataStats}

-- whether two kinds are the same
abbrev pub kind_is : AstIdKind → AstIdKind → Bool
kind_is = same kinds.the_row.coded

abbrev pub one_if : Bool → ℕ
one_if b = if b then 1 else 0

-- how many nodes of a kind there are, at every depth
abbrev mutual
  pub node_count_of : AstIdKind → Node → ℕ
  node_count_of k (leaf h l) = one_if (kind_is k (leaf_kind l))
  node_count_of k (parent h t f) = one_if (kind_is k (trunk_kind t)) + count_of k f

  pub count_of : AstIdKind → Forest → ℕ
  count_of k empty = 0
  count_of k (more n f) = node_count_of k n + count_of k f

-- how many items of each kind a forest has
abbrev pub stats_of : Forest → ItemTreeDataStats
stats_of f = record {
  traits = count_of kind.Trait f;
  impls = count_of kind.Impl f;
  mods = count_of kind.Module f;
  macro_calls = count_of kind.MacroCall f;
  macro_rules = count_of kind.MacroRules f;
}

-- no items of these kinds
abbrev pub no_stats : ItemTreeDataStats
no_stats = record { traits = 0; impls = 0; mods = 0; macro_calls = 0; macro_rules = 0 }
