-- the bytes are what was read so far
use Rattle.std.proofs.Common.{◌≡◌, ◌≤◌, ◌*◌, length}
use Rattle.item_tree_request.proofs.Common.{Consumes}
use Rattle.item_tree_request.specs.declared.stream.TheConstants.{ROOM}
use Rattle.item_tree_request.proofs.stream.read_to_end.Given as goal

abbrev pub invariant-loop-reads : goal.invariant-loop-reads
invariant-loop-reads g l = record {
  room : length l.room ≡ ROOM;
  read : Consumes (g.R.Read.remaining l.initial.input) (g.R.Read.remaining l.input) l.bytes.items;
  few : length l.bytes.items ≤ ROOM * l._reads;
}
