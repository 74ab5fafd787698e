use Rattle.std.proofs.Common.{map, sym, ap, ◌∙◌, ◌-◌, arith}
use Rattle.rust_paths.proofs.Common.{use_tree_view, progress_from, element, trees}
use Rattle.rust_cursor.proofs.PushedLists.{pushed_view}
use Rattle.rust_paths.specs.Views.{found_view}
use Rattle.rust_paths.proofs.Trees.{found_more, found_end, found_over}
use Rattle.rust_paths.proofs.use_trees.+trees.Goals.{trees-else-loop-turn-test, trees-then-loop-turn-test+then-is_at_end}
use Rattle.rust_paths.proofs.use_trees.+trees.Goals as goal

pub trees-loop-turn-preserved : goal.trees-loop-turn-preserved
trees-loop-turn-preserved t c =
    found_more (element c.args.depth) c.most_turns-most.result c.loop-turn._turn (map use_tree_view c.loop-turn.trees.items) (map use_tree_view c.push_some.new.list.items)
    c.loop-turn.starts.items c.push_to.new.starts.items c.loop-turn.too_deep c.or-too_deep.result (found_view c.in_ok-found.found) c.loop-turn.cursor c.element.new.cursor c.pass_beyond.new.self
    (trees (element c.args.depth) c.args.cursor.now) c.loop-turn-test.true (sym c.is_at_end.ensures ∙ c.if-is_at_end.false) c.in_ok-found.ensures
    (c.pass_beyond.ensures ∙ ap (λ past. progress_from past c.element.new.cursor) c.last_end-past.ensures) (pushed_view use_tree_view _ _ _ c.in_ok-push_some.ensures) c.in_ok-push_to.ensures c.or-too_deep.ensures c.loop-turn.invariant

pub trees-returns : goal.trees-returns
trees-returns t c =
    sym c.loop-turn.invariant ∙ elim c.loop-turn-test.branch [
      | trees-else-loop-turn-test w ↦ found_over (element c.args.depth) (c.most_turns-most.result - c.loop-turn._turn) (map use_tree_view c.loop-turn.trees.items) c.loop-turn.starts.items c.loop-turn.too_deep c.loop-turn.cursor (omega (arith, w.loop-turn-test.false))
      | trees-then-loop-turn-test+then-is_at_end w ↦ found_end (element c.args.depth) (c.most_turns-most.result - c.loop-turn._turn) (map use_tree_view c.loop-turn.trees.items) c.loop-turn.starts.items c.loop-turn.too_deep c.loop-turn.cursor (sym w.is_at_end.ensures ∙ w.if-is_at_end.true)
    ]
