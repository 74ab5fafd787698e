use Rattle.std.proofs.Common.{true, cond, Some, sym, ap, ◌∙◌}
use Rattle.decl_index.proofs.Common.{is_at, entry_cmp, filed_at}
use Rattle.decl_index.proofs.TreeChanges.{filed_then}
use Rattle.decl_index.proofs.Order.{empty_has, only_has}
use Rattle.decl_index.proofs.by_tree.file_first.Goals as goal

pub returns-clause-ok : goal.returns-clause-ok
returns-clause-ok c =
    let t = c.args.trees.now in
    let entry = c.args.entry in
    let set = c.in_ok-tree.tree in
    filed_then t c.insert.new.self entry (Some set) c.in_ok-insert.ensures.updates.0 true (λ q. only_has set entry c.in_ok-tree.ensures q ∙ ap (cond (is_at (entry_cmp entry) q) true) (sym (empty_has (filed_at t entry.place entry.krate.0) c.requires q)))
