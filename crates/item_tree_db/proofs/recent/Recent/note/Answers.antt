use Rattle.std.proofs.Common.{◌≤◌, arith}
use Rattle.item_tree_db.proofs.PlaceNumbers.{noted_insert}
use Rattle.item_tree_db.proofs.recent.Recent.note.Goals as goal

pub returns-in-Ok-clause-kept : goal.returns-in-Ok-clause-kept
returns-in-Ok-clause-kept c = noted_insert c.args.self.now _ (omega arith) (c.args.number, c.args.place) c.in-Ok.ensures.updates
