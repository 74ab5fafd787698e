use Rattle.std.proofs.Common.{◌≤◌, arith}
use Rattle.item_tree_db.proofs.PlaceNumbers.{noted_remove}
use Rattle.item_tree_db.proofs.recent.Recent.renote.Goals as goal

pub returns-clause-others : goal.returns-clause-others
returns-clause-others c q n other h = c.note.ensures.kept q n (noted_remove c.args.self.now _ (omega arith) (c.args.old, c.args.place) c.remove.ensures.updates q n other h)
