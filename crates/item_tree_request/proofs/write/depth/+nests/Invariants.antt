-- the answer is that of what is left
use Rattle.std.proofs.Common.{◌≡◌, drop}
use Rattle.serde_json.specs.View.{items_view, members_view}
use Rattle.item_tree_request.proofs.Writing.Common.{items_nest_past, members_nest_past}
use Rattle.item_tree_request.proofs.write.depth.+nests.Given as goal

abbrev pub invariant-items_nest_past-loop-item : goal.invariant-items_nest_past-loop-item
invariant-items_nest_past-loop-item l = items_nest_past l.limit (items_view l.items.items) ≡ items_nest_past l.limit (items_view (drop l.item-index l.item-items))

abbrev pub invariant-members_nest_past-loop-key : goal.invariant-members_nest_past-loop-key
invariant-members_nest_past-loop-key l = members_nest_past l.limit (members_view l.members.entries) ≡ members_nest_past l.limit (members_view l._key-iterator)
