use Rattle.std.proofs.Common.{◌≡◌, take, drop, map}
use Rattle.item_tree_db.proofs.Common.{edit_view, IsAfter, FirstFit}
use Rattle.item_tree_db.proofs.sources.Sources.edit_all.Given as goal

abbrev pub invariant-loop-place : goal.invariant-loop-place
invariant-loop-place l =
    let n = l.place-iterator.count in
    let edits = map edit_view l.fn.edits.items in record {
      rest : drop n l.fn.edits.items ≡ l.place-iterator.iter.rest.items;
      after : IsAfter l.fn.self (take n edits) l.self;
      fits : FirstFit l.fn.self edits n;
    }
