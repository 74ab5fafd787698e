use Rattle.std.proofs.Common.{◌∙◌}
use Rattle.item_tree.proofs.Lookup.{in-places, attrs-read}
use Rattle.item_tree.proofs.tree.ItemTree.attrs.Goals as goal

pub index-requires : goal.index-requires
index-requires c = in-places c.self.view_is c.self.invariant _ _ c.row.ensures (c.contains.ensures.0 c.if-not-contains.false)

pub returns : goal.returns
returns c = c.attrs_at.ensures ∙ attrs-read c.self.view_is c.self.invariant c.args.id c.index.result.now (c.contains.ensures.0 c.if-not-contains.false) (rw c.row.ensures at c.index.ensures)
