use Rattle.item_tree.proofs.Common.{Decides-at}
use Rattle.item_tree.specs.Code.Node.{unfolding_code}
use Rattle.item_tree.proofs.Equality.{tables_decide}
use Rattle.item_tree.proofs.Lookup.{canon, fits}
use Rattle.item_tree.proofs.UseEq.{tells}
use Rattle.item_tree.proofs.VisOnce.{alike}
use Rattle.item_tree.proofs.tree.ItemTreePartialEq.eq.Goals as goal

pub returns : goal.returns
returns c =
    let s = c.self in
    let o = c.other in
    let a = c.columns.ensures in
    let b = c.columns-2.ensures in
    let told = rw (c.as_slice-top.ensures.value, c.as_slice-others_top.ensures.value, a.tags, a.keys, a.items, a.places, a.column, a.arena, b.tags, b.keys, b.items, b.places, b.column, b.arena) at c.eq.ensures in
    let d = Decides-at _ _ told (tables_decide c.args.self.now c.args.other.now s.inside.top_level.items o.inside.top_level.items s.inside.top_place o.inside.top_place s.inside.rows o.inside.rows (fits s.view_is s.invariant).visibilities (canon s.view_is s.invariant) (canon o.view_is o.invariant)) in
    record { decides = d; gives = tells unfolding_code c.args.self.now c.args.other.now _ d; lend = λ h. alike c.args.self.now c.args.other.now (d.0 h) }
