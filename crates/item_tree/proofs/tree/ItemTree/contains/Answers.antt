use Rattle.std.proofs.Common.{◌<◌, ◌≤◌, ◌/◌, ◌≡◌, get_or, length}
use Rattle.item_tree.proofs.Common.{false≢true}
use Rattle.item_tree.proofs.Lookup.{contains-there, contains-past}
use Rattle.item_tree.proofs.tree.ItemTree.contains.Goals as goal

pub returns-in-Some : goal.returns-in-Some
returns-in-Some c =
    let x = c.in-Some.kind.now in
    let tags = c.self.inside.rows.tags.items in
    let h : c.args.id / 2 < length tags = rw (← c.row.ensures, ← c.deref.ensures.value) c.in-Some.ensures.lookup.3.0 in
    let g : x ≡ get_or tags (c.args.id / 2) x = rw (← c.row.ensures, ← c.deref.ensures.value) c.in-Some.ensures.lookup.1 in
    let t = contains-there c.self.view_is c.self.invariant c.args.id x h g in
    ((λ q. t.0 (c.fits_kind.ensures.0 q)), (λ s. c.fits_kind.ensures.1 (t.1 s)))

pub returns-in-None : goal.returns-in-None
returns-in-None c =
    let h : length c.self.inside.rows.tags.items ≤ c.args.id / 2 = rw (← c.row.ensures, ← c.deref.ensures.value) c.in-None.ensures.lookup.3 in
    ((λ q. absurd (false≢true q)), (λ s. absurd (contains-past c.self.view_is c.self.invariant c.args.id h s)))
