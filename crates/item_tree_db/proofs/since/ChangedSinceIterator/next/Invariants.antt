use Rattle.std.proofs.Common.{◌≡◌, length, ◌+◌, ◌-◌, ◌≤◌}
use Rattle.item_tree_db.proofs.Common.{crate_limit, HasFew, changes_left, walk_of}
use Rattle.item_tree_db.proofs.Shelves.{steps}
use Rattle.item_tree_db.proofs.since.ChangedSinceIterator.next.Given as goal

abbrev pub invariant-loop-self : goal.invariant-loop-self
invariant-loop-self l =
    let w = l.self-inside in
    let start = l.initial.self-inside in record {
      changes_left : changes_left w.above w.place w.next w.rows.now (walk_of w.slots) ≡ changes_left start.above start.place start.next start.rows.now (walk_of start.slots);
      rows : length w.rows.now ≤ crate_limit;
      slots : HasFew (walk_of w.slots);
    }

abbrev pub decreases-loop-self : goal.decreases-loop-self
decreases-loop-self l = (length l.self-inside.rows.now - l.self-inside.next) + steps (walk_of l.self-inside.slots)
