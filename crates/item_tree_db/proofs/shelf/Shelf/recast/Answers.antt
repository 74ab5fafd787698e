use Rattle.std.proofs.Common.{sym, ap, ◌∙◌}
use Rattle.item_tree_db.proofs.Common.{recast_each, placed_at}
use Rattle.item_tree_db.proofs.Shelves.{recast_step}
use Rattle.item_tree_db.proofs.shelf.Shelf.recast.Goals as goal

pub loop-place-preserved : goal.loop-place-preserved
loop-place-preserved c q =
    recast_step c.args.number c.args.index c.in-Some.place c.in-Some.row c.loop-place.self c.recast_at.new.self c.next.new.self.rest.items c.recast_at.ensures q
    ∙ ap (λ l. recast_each c.args.number c.args.index l q (placed_at c.loop-place.self q)) (sym c.in-Some.ensures.steps.0)
    ∙ c.loop-place.invariant q
