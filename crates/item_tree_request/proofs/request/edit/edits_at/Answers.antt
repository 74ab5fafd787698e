-- as many crates as data as there are
use Rattle.std.proofs.Common.{rules}
use Rattle.item_tree_request.proofs.Common.{length-map, crate_view}
use Rattle.item_tree_request.proofs.request.edit.edits_at.Goals as goal

pub returns-clause-reads : goal.returns-clause-reads
returns-clause-reads c = rw (length-map c.args.crates.now.items crate_view) (search rules)
