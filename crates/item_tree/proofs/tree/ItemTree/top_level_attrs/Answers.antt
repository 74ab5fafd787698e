use Rattle.std.proofs.Common.{◌∙◌}
use Rattle.item_tree.proofs.Lookup.{top_attrs-read}
use Rattle.item_tree.proofs.tree.ItemTree.top_level_attrs.Goals as goal

pub returns : goal.returns
returns c = c.attrs_at.ensures ∙ top_attrs-read c.self.view_is c.self.invariant
