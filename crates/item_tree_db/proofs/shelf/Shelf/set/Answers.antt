use Rattle.std.proofs.Common.{refl, subst, sym, IsSome}
use Rattle.item_tree_db.proofs.Common.{BTreeMap, Place, AreNoted, Shelved}
use Rattle.item_tree_db.proofs.PlaceNumbers.{noted_put}
use Rattle.item_tree_db.proofs.shelf.Shelf.set.Goals as goal

pub invariant_of-self : goal.invariant_of-self
invariant_of-self c =
    let placed = c.set.new.self in
    let place = c.place-place.result in
    let put = ((c.get_mut.follows.holds placed).3 (subst IsSome c.in-Some.ensures.value refl)).0 in
    noted_put c.self.inside.recent c.renote.new.self place placed c.self.inside.entries.entries (c.get_mut.follows.lender placed).entries c.self.invariant put _ c.newest_number-new.ensures c.renote.ensures.noted c.renote.ensures.others

pub invariant_of-self-in-Ok : goal.invariant_of-self-in-Ok
invariant_of-self-in-Ok c =
    let placed = c.new-entry.result in
    let place = c.place-place.result in
    let were = subst (λ (m : BTreeMap Place Shelved). AreNoted c.self.inside.recent m.entries) (sym c.get_mut.follows.holds-at-none) c.self.invariant in
    noted_put c.self.inside.recent c.note.new.self place placed c.get_mut.follows.lender-at-none.entries c.insert.new.self.entries were c.in-Ok.ensures.updates.0 _ c.newest_number-new-in-None.ensures c.note.ensures.noted (λ q n other h. c.note.ensures.kept q n h)
