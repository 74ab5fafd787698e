use Rattle.std.proofs.Common.{◌≡◌, arith, refl, sym, ap, ◌∙◌}
use Rattle.item_tree.specs.Tree.{tree_of, trees_of, prefixed}
use Rattle.item_tree.proofs.TreeLemmas.{found_prefixed}
use Rattle.def_map.specs.UseLeaves.{leaf_count}
use Rattle.def_map.proofs.leaves.+leaves.Goals as goal

pub leaf_count-leaf_counts-requires : goal.leaf_count-leaf_counts-requires
leaf_count-leaf_counts-requires t c =
    let e : tree_of c.args.tree.now ≡ prefixed c.in-Prefixed.prefix (trees_of c.deref.result.now) =
    found_prefixed c.args.tree.now _ _ _ _ c.deref.result.now c.kind.ensures c.in-Prefixed.is refl c.deref.ensures.value in
    let r = rw e at c.requires in
    let d = rw e at c.decreases in
    (omega arith, omega arith)

pub leaf_count-returns-in-Prefixed : goal.leaf_count-returns-in-Prefixed
leaf_count-returns-in-Prefixed t c =
    let e : tree_of c.args.tree.now ≡ prefixed c.in-Prefixed.prefix (trees_of c.deref.result.now) =
    found_prefixed c.args.tree.now _ _ _ _ c.deref.result.now c.kind.ensures c.in-Prefixed.is refl c.deref.ensures.value in
    c.leaf_counts.ensures ∙ ap leaf_count (sym e)
