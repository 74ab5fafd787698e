use Rattle.std.proofs.Common.{rules, arith, ◌≡◌, ◌+◌, Some, None, sym, refl, add-zero}
use Rattle.item_tree.proofs.Common.{tree_of, trees_of, prefixed, chain_of, supers_before}
use Rattle.item_tree.proofs.CallLemmas.{MayCallAt-front, MayCallAt-rest, CallsLeft-more, CallsLeft-some, OnErr-any}
use Rattle.item_tree.proofs.Chains.{imports_joined, imports_unjoined}
use Rattle.item_tree.proofs.TreeLemmas.{found_prefixed, trees_of-more, branch_count-more}
use Rattle.item_tree.proofs.use_tree.expand.+expand.Goals as goal

pub expand_tree-expand_all-requires : goal.expand_tree-expand_all-requires
expand_tree-expand_all-requires g t c κs within =
    let e : tree_of c.args.tree.now ≡ prefixed None (trees_of c.deref.result.now) =
    found_prefixed c.args.tree.now _ None _ _ c.deref.result.now c.kind.ensures c.in-Prefixed.is c.in-None.is c.deref.ensures.value in
    let d = rw e at c.decreases in
    let r = rw e at c.requires.counts in
    let s = rw (e, add-zero (supers_before c.args.before)) at c.requires.supers in
    let k = rw e at c.requires.calls in
    (omega arith, (search rules, (omega arith, (omega arith, k))))

pub expand_tree-expand_all-requires-in-Some-2 : goal.expand_tree-expand_all-requires-in-Some-2
expand_tree-expand_all-requires-in-Some-2 g t c κs within =
    let e : tree_of c.args.tree.now ≡ prefixed (Some c.in-Some.prefix) (trees_of c.deref-in-Some-2.result.now) =
    found_prefixed c.args.tree.now _ (Some c.in-Some.prefix) _ _ c.deref-in-Some-2.result.now c.kind.ensures c.in-Prefixed.is c.in-Some.is c.deref-in-Some-2.ensures.value in
    let d = rw e at c.decreases in
    let r = rw e at c.requires.counts in
    let s = rw e at c.requires.supers in
    let v = rw c.in-Some-2.is at c.in_ok-joined-in-Some.ensures.supers in
    let i = (imports_joined (chain_of c.args.before) c.in-Some.prefix c.args.next.now c.args.tree.now _ _ _ c.deref-in-Some-2.result.now c.kind.ensures c.in-Prefixed.is c.in-Some.is c.deref-in-Some-2.ensures.value c.in_ok-joined-in-Some.ensures.words _ c.in_ok-joined-in-Some.ensures.reads _ c.in-Some-2.is) in
    (omega arith, (search rules, (omega arith, (rw v (omega arith), rw i at c.requires.calls))))

pub expand_tree-returns-in-None-clause-called : goal.expand_tree-returns-in-None-clause-called
expand_tree-returns-in-None-clause-called g t c =
    let e : tree_of c.args.tree.now ≡ prefixed None (trees_of c.deref.result.now) =
    found_prefixed c.args.tree.now _ None _ _ c.deref.result.now c.kind.ensures c.in-Prefixed.is c.in-None.is c.deref.ensures.value in
    rw e c.expand_all.ensures.called

pub expand_tree-returns-in-Some-2-clause-called : goal.expand_tree-returns-in-Some-2-clause-called
expand_tree-returns-in-Some-2-clause-called g t c =
    rw (imports_joined (chain_of c.args.before) c.in-Some.prefix c.args.next.now c.args.tree.now _ _ _ c.deref-in-Some-2.result.now c.kind.ensures c.in-Prefixed.is c.in-Some.is c.deref-in-Some-2.ensures.value c.in_ok-joined-in-Some.ensures.words _ c.in_ok-joined-in-Some.ensures.reads _ c.in-Some-2.is) c.expand_all-in-Some-2.ensures.called

pub expand_tree-returns-in-Some-2-clause-refused : goal.expand_tree-returns-in-Some-2-clause-refused
expand_tree-returns-in-Some-2-clause-refused g t c =
    rw (imports_joined (chain_of c.args.before) c.in-Some.prefix c.args.next.now c.args.tree.now _ _ _ c.deref-in-Some-2.result.now c.kind.ensures c.in-Prefixed.is c.in-Some.is c.deref-in-Some-2.ensures.value c.in_ok-joined-in-Some.ensures.words _ c.in_ok-joined-in-Some.ensures.reads _ c.in-Some-2.is) c.expand_all-in-Some-2.ensures.refused

pub expand_tree-returns-in-None-2-clause-called : goal.expand_tree-returns-in-None-2-clause-called
expand_tree-returns-in-None-2-clause-called g t c =
    rw (imports_unjoined (chain_of c.args.before) c.in-Some.prefix c.args.next.now c.args.tree.now _ _ _ c.deref-in-None-2.result.now c.kind.ensures c.in-Prefixed.is c.in-Some.is c.deref-in-None-2.ensures.value c.in_ok-joined-in-Some.ensures.words _ c.in_ok-joined-in-Some.ensures.reads c.in-None-2.is) (record { calls = refl })

pub expand_all-expand_tree-requires : goal.expand_all-expand_tree-requires
expand_all-expand_tree-requires g t c κs within =
    let l = c.loop-tree.invariant in
    let e = trees_of-more c.args.trees.now c.loop-tree.tree-index c.tree-item.result c.loop-tree-test.true c.tree-item.is in
    let n = rw (e, branch_count-more) at l.counted in
    let b = rw (e, branch_count-more) at l.below in
    let s = rw e at l.supers in
    (omega arith, (search rules, (omega (arith, c.requires.counts), (omega arith, MayCallAt-front _ _ _ _ _ (rw e at l.callable)))))

pub expand_all-loop-tree-preserved : goal.expand_all-loop-tree-preserved
expand_all-loop-tree-preserved g t c =
    let l = c.loop-tree.invariant in
    let o = c.in_ok-expand_tree.ensures in
    let e = trees_of-more c.args.trees.now c.loop-tree.tree-index c.tree-item.result c.loop-tree-test.true c.tree-item.is in
    let n = rw (e, branch_count-more) at l.counted in
    let b = rw (e, branch_count-more) at l.below in
    let s = rw e at l.supers in
    let k = rw e at l.callable in
    let d = rw e at l.left in
    record {
      counted = omega (arith, o.counted);
      below = omega arith;
      supers = omega arith;
      callable = rw o.counted (MayCallAt-rest _ _ _ _ _ _ k o.called.calls);
      left = rw o.counted (CallsLeft-more _ _ _ _ _ _ _ d o.called);
    }

pub expand_all-returns-in_err-expand_tree-clause-refused :
    goal.expand_all-returns-in_err-expand_tree-clause-refused
expand_all-returns-in_err-expand_tree-clause-refused g t c =
    let l = c.loop-tree.invariant in
    let e = trees_of-more c.args.trees.now c.loop-tree.tree-index c.tree-item.result c.loop-tree-test.true c.tree-item.is in
    OnErr-any _ _ (CallsLeft-some _ _ _ _ _ _ _ (rw e at l.left) c.in_err-expand_tree.ensures.refused)
