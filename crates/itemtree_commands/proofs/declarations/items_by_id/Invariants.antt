use Rattle.std.proofs.Common.{◌≡◌, take}
use Rattle.itemtree_commands.specs.Inner.{FindsItems}
use Rattle.itemtree_commands.proofs.declarations.items_by_id.Given as goal

abbrev pub invariant-loop-place : goal.invariant-loop-place
invariant-loop-place l = (l.lines ≡ l.fn.text) × FindsItems l.fn.text l.items (take l.place-index l.fn.places)
