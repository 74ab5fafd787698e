use Rattle.std.proofs.Common.{◌≡◌, ◌≤◌, ◌+◌, ◌*◌, ◌^◌, length, take, sum_by}
use Rattle.std.specs.List.{fold}
use Rattle.item_tree.specs.Walk.{count_at}
use Rattle.module_tree.specs.{Inner.id_modules_in, Modules.most_modules, Views.modules_view}
use Rattle.module_tree.proofs.walk.+walk.Given as goal

abbrev pub decreases-push_items : goal.decreases-push_items
decreases-push_items l = l.depth * 2 ^ 33 + 2 * sum_by (count_at l.tree.now) l.ids.now + 1

abbrev pub decreases-push_item : goal.decreases-push_item
decreases-push_item l = l.depth * 2 ^ 33 + 2 * count_at l.tree.now l.id

abbrev pub decreases-push_mod : goal.decreases-push_mod
decreases-push_mod l = l.depth * 2 ^ 33 + 1

abbrev pub decreases-push_file : goal.decreases-push_file
decreases-push_file l = l.depth * 2 ^ 33

abbrev pub invariant-push_items-loop-id : goal.invariant-push_items-loop-id
invariant-push_items-loop-id l = record {
  found : modules_view l.found ≡ fold (id_modules_in l.ctx l.depth l.place l.tree) (modules_view l.initial.found) (take l.id-index l.ids);
  few : length (modules_view l.found).modules ≤ most_modules;
}
