use Rattle.std.proofs.Common.{◌≡◌, arith, refl}
use Rattle.item_tree.proofs.Common.{tree_of, trees_of, prefixed}
use Rattle.item_tree.proofs.TreeLemmas.{found_prefixed}
use Rattle.item_tree.proofs.use_tree.expand.+count.Goals as goal

pub count_nodes-count_all-requires : goal.count_nodes-count_all-requires
count_nodes-count_all-requires t c =
    let e : tree_of c.args.tree.now ≡ prefixed c.in-Prefixed.prefix (trees_of c.deref.result.now) =
    found_prefixed c.args.tree.now _ _ _ _ c.deref.result.now c.kind.ensures c.in-Prefixed.is refl c.deref.ensures.value in
    let r = rw e at c.requires in
    let d = rw e at c.decreases in
    (omega arith, omega arith)
