use Rattle.std.proofs.Common.{map, ap, ◌∙◌}
use Rattle.item_tree.proofs.Common.{node_at}
use Rattle.item_tree.proofs.Lookup.{fits, tops-are, tops-stand}
use Rattle.item_tree.proofs.TreeWalks.{walked_once}
use Rattle.item_tree.proofs.tree.ItemTree.top_level_items.Goals as goal

pub returns : goal.returns
returns c = record {
  ids = c.as_slice.ensures.value ∙ tops-are c.self.view_is c.self.invariant;
  stand = ap (map (node_at c.args.self.now.forest)) c.as_slice.ensures.value ∙ tops-stand c.self.view_is c.self.invariant;
  walk = walked_once c.args.self.now;
  fits = fits c.self.view_is c.self.invariant;
}
