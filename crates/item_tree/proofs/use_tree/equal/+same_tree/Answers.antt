use Rattle.item_tree.proofs.Common.{Decides-at, path_decides}
use Rattle.std.proofs.Common.{length, arith}
use Rattle.std.proofs.lemmas.Slice.Zip.{zip_turn}
use Rattle.item_tree.proofs.UseEq.{paths_decide, aliases_decide, first_fails, second_tells, singles_tell, globs_tell, lists_tell, lengths_differ, one_differs}
use Rattle.item_tree.proofs.TreeLemmas.{tree_forms}
use Rattle.item_tree.proofs.use_tree.equal.+same_tree.Goals as goal

pub same_kind-returns-then-eq : goal.same_kind-returns-then-eq
same_kind-returns-then-eq t c =
    let i = c.in-Single-Single in
    singles_tell _ _ _ i.path i.other_path i.alias i.other_alias i.is-0 i.is-1
    (second_tells _ _ (Decides-at _ _ c.eq.ensures (path_decides _ _)) c.if-eq.true (aliases_decide _ _ _ c.eq-then-eq.ensures))

pub same_kind-returns-else-eq : goal.same_kind-returns-else-eq
same_kind-returns-else-eq t c =
    let i = c.in-Single-Single in
    singles_tell _ _ _ i.path i.other_path i.alias i.other_alias i.is-0 i.is-1 (first_fails _ (Decides-at _ _ c.eq.ensures (path_decides _ _)) c.if-eq.false)

pub same_kind-returns-in-Glob-Glob : goal.same_kind-returns-in-Glob-Glob
same_kind-returns-in-Glob-Glob t c =
    let i = c.in-Glob-Glob in
    globs_tell _ _ _ i.path i.other_path i.is-0 i.is-1 (paths_decide _ _ _ c.eq-in-Glob-Glob.ensures)

pub same_kind-returns-then-eq-2 : goal.same_kind-returns-then-eq-2
same_kind-returns-then-eq-2 t c =
    let i = c.in-Prefixed-Prefixed in
    lists_tell _ _ _ i.prefix i.other_prefix i.list i.other_list i.is-0 i.is-1
    (second_tells _ _ (paths_decide _ _ _ c.eq-in-Prefixed-Prefixed.ensures) c.if-eq-2.true (rw (c.deref.ensures.value, c.deref-then-eq-2.ensures.value) at c.same_trees.ensures))

pub same_kind-returns-else-eq-2 : goal.same_kind-returns-else-eq-2
same_kind-returns-else-eq-2 t c =
    let i = c.in-Prefixed-Prefixed in
    lists_tell _ _ _ i.prefix i.other_prefix i.list i.other_list i.is-0 i.is-1 (first_fails _ (paths_decide _ _ _ c.eq-in-Prefixed-Prefixed.ensures) c.if-eq-2.false)

pub same_trees-returns-then-trees-others : goal.same_trees-returns-then-trees-others
same_trees-returns-then-trees-others t c = lengths_differ _ _ c.if-trees-others.true

pub same_trees-returns-then-not-same_tree : goal.same_trees-returns-then-not-same_tree
same_trees-returns-then-not-same_tree t c =
    let l = c.loop-tree in
    let s = c.in-Some in
    let start = c.into_iter-tree-iterator.ensures.into_iter_gives in
    let pair =
    zip_turn c.args.trees.now c.args.others.now l.yielded c.into_iter-tree-iterator.result l.tree-iterator c.next.new.self c.next.result
    (rw (start, c.zip-tree-items.ensures.first) c.iter.ensures.rest) (rw start c.zip-tree-items.ensures.second.0) l.yielded_by (s.tree, s.other) s.is c.next.ensures.steps in
    one_differs _ _ (length l.yielded) s.tree.now s.other.now pair.0 c.if-trees-others.false (pair.2 s.tree.now) (pair.3 s.other.now) c.if-not-same_tree.ensures

pub same_trees-loop-tree-init : goal.same_trees-loop-tree-init
same_trees-loop-tree-init t c = grind (arith, tree_forms)

pub same_tree-returns : goal.same_tree-returns
same_tree-returns t c = grind (arith, tree_forms)
