use Rattle.std.proofs.Common.{◌+◌, ◌*◌, take, sum_by}
use Rattle.item_tree.proofs.Common.{Gains, list_lines, count_at}
use Rattle.item_tree.proofs.tree.ItemTree.+page.Given as goal

abbrev pub decreases-push_item : goal.decreases-push_item
decreases-push_item l = 5 * count_at l.self.now l.id + 2

abbrev pub decreases-push_own : goal.decreases-push_own
decreases-push_own l = 5 * count_at l.self.now l.id + 1

abbrev pub decreases-push_module : goal.decreases-push_module
decreases-push_module l = 5 * count_at l.self.now l.id

abbrev pub decreases-push_below : goal.decreases-push_below
decreases-push_below l = 5 * sum_by (count_at l.self.now) l.ids.now + 4

abbrev pub decreases-push_items : goal.decreases-push_items
decreases-push_items l = 5 * sum_by (count_at l.self.now) l.ids.now + 3

abbrev pub invariant-push_items-loop-place : goal.invariant-push_items-loop-place
invariant-push_items-loop-place l = Gains l.fn.out l.out (list_lines l.printer.edition.now.reserved.items l.self l.printer.level (take l.place l.ids))
