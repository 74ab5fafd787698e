use Rattle.std.proofs.Common.{None, sym}
use Rattle.std.proofs.lemmas.Map.Text.{btree_map_updates_text}
use Rattle.decl_index.proofs.ShelfOrder.{shelved_still, stands_still}
use Rattle.decl_index.proofs.Order.{empty_rises}
use Rattle.decl_index.proofs.by_name.clear_away.Goals as goal

pub returns-then-is_empty-clause-shelved : goal.returns-then-is_empty-clause-shelved
returns-then-is_empty-clause-shelved c =
    let m = c.args.shelves.now in
    let n = c.remove.new.self in
    let name = c.args.name.now in
    shelved_still m n name None (btree_map_updates_text name m n None c.remove.ensures.updates) (sym (c.is_empty.ensures c.if-is_empty.true)) c.requires c.remove.ensures.ordered empty_rises

pub returns-then-is_empty-clause-same : goal.returns-then-is_empty-clause-same
returns-then-is_empty-clause-same c =
    let m = c.args.shelves.now in
    let n = c.remove.new.self in
    let name = c.args.name.now in
    stands_still m n name None (btree_map_updates_text name m n None c.remove.ensures.updates) (sym (c.is_empty.ensures c.if-is_empty.true))
