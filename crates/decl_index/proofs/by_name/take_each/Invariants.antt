-- the shelves have what they had without the entries so far
use Rattle.decl_index.proofs.Common.{◌≡◌, ◌&&◌, not, take, Entry, AreShelved, is_entry_among, is_shelved}
use Rattle.decl_index.proofs.by_name.take_each.Given as goal

abbrev pub invariant-loop-entry : goal.invariant-loop-entry
invariant-loop-entry l = record {
  shelved : AreShelved l.shelves;
  left : (q : Entry) → is_shelved l.shelves q ≡ (is_shelved l.fn.shelves q && not (is_entry_among q (take l.entry-index l.entries)));
}
