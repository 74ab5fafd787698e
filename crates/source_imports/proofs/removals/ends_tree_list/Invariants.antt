use Rattle.std.proofs.Common.{◌≡◌, length}
use Rattle.source_imports.specs.Removals.{ends_tree_list}
use Rattle.source_imports.proofs.removals.ends_tree_list.Given as goal

abbrev pub invariant-tokens : goal.invariant-tokens
invariant-tokens l = ends_tree_list l.left ≡ ends_tree_list l.lexer

abbrev pub decreases-tokens : goal.decreases-tokens
decreases-tokens l = length l.left
