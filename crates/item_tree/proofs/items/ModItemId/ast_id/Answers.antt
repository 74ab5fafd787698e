use Rattle.item_tree.proofs.Lookup.{in-tags, in-keys, ast-read}
use Rattle.item_tree.proofs.items.ModItemId.ast_id.Goals as goal

pub index-key-requires : goal.index-key-requires
index-key-requires c = in-keys c.tree.view_is c.tree.invariant _ _ c.row-row.ensures c.requires

pub index-requires : goal.index-requires
index-requires c = in-tags c.tree.view_is c.tree.invariant _ _ c.row-row.ensures c.requires

pub returns : goal.returns
returns c = ast-read c.tree.view_is c.tree.invariant c.args.self c.index.result.now c.index-key.result.now c.requires (rw c.row-row.ensures at c.index.ensures) (rw c.row-row.ensures at c.index-key.ensures)
