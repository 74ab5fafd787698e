use Rattle.std.proofs.Common.{◌≤◌, arith}
use Rattle.item_tree_db.proofs.PlaceNumbers.{noted_remove}
use Rattle.item_tree_db.proofs.recent.Recent.leave_out.Goals as goal

pub returns-clause-others : goal.returns-clause-others
returns-clause-others c q n other h = noted_remove c.args.self.now _ (omega (arith, c.max-self.ensures)) (c.args.old, c.args.place) c.remove.ensures.updates q n other h
