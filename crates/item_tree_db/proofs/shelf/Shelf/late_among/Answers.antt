use Rattle.std.proofs.Common.{sym, subst}
use Rattle.item_tree_db.proofs.Common.{HasFew}
use Rattle.item_tree_db.proofs.Shelves.{few_over}
use Rattle.item_tree_db.proofs.shelf.Shelf.late_among.Goals as goal

pub new-requires-2 : goal.new-requires-2
new-requires-2 c = subst HasFew (sym c.new.ensures) (few_over c.args.self.now c.requires _)
