-- the trees have what they had without the entries so far
use Rattle.decl_index.proofs.Common.{◌≡◌, ◌&&◌, not, take, Entry, is_entry_among, is_filed}
use Rattle.decl_index.proofs.by_tree.take_out_each.Given as goal

abbrev pub invariant-loop-entry : goal.invariant-loop-entry
invariant-loop-entry l = (q : Entry) → is_filed l.trees q ≡ (is_filed l.fn.trees q && not (is_entry_among q (take l.entry-index l.entries)))
