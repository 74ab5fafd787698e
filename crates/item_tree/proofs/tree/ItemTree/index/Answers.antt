use Rattle.std.proofs.Common.{Some, sym, ap, ◌∙◌}
use Rattle.item_tree.proofs.Common.{lent_kind}
use Rattle.item_tree.proofs.Lookup.{in-items, shown}
use Rattle.item_tree.proofs.tree.ItemTree.index.Goals as goal

pub index-requires : goal.index-requires
index-requires c = in-items c.self.view_is c.self.invariant _ _ c.row.ensures c.requires

pub returns : goal.returns
returns c =
    shown c.self.view_is c.self.invariant c.args.id c.index.result.now (lent_kind c.lend.result) c.requires (rw c.row.ensures at c.index.ensures)
    (c.ast_id-ast_id.ensures ∙ ap Some (sym c.lend.ensures.id)) c.lend.ensures.item
