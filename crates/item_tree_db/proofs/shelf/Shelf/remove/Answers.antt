use Rattle.std.proofs.Common.{refl, subst, IsSome}
use Rattle.item_tree_db.proofs.PlaceNumbers.{noted_put}
use Rattle.item_tree_db.proofs.shelf.Shelf.remove.Goals as goal

pub invariant_of-self : goal.invariant_of-self
invariant_of-self c =
    let placed = c.remove.new.self in
    let put = ((c.get_mut.follows.holds placed).3 (subst IsSome c.in-Some.ensures.value refl)).0 in
    noted_put c.self.inside.recent c.leave_out.new.self c.args.place placed c.self.inside.entries.entries (c.get_mut.follows.lender placed).entries c.self.invariant put _ c.newest_number-new.ensures c.leave_out.ensures.noted c.leave_out.ensures.others
