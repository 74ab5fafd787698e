use Rattle.std.proofs.Common.{map, take}
use Rattle.item_tree.proofs.Common.{HasWritten, IsPlainFormatter, by_commas, tree_of, shown_tree}
use Rattle.item_tree.proofs.use_tree.text.+write_tree.Given as goal

abbrev pub invariant-write_list-loop-i : goal.invariant-write_list-loop-i
invariant-write_list-loop-i g l =
    IsPlainFormatter l.fn.f → HasWritten g.W.Write.write_str_gives l.fn.f (by_commas (map (λ t. shown_tree l.edition.reserved.items (tree_of t)) (take l.i l.list))) l.f
