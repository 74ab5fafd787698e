-- what is written is read again
use Rattle.std.proofs.Common.{map}
use Rattle.serde_json.specs.View.{view}
use Rattle.item_tree_request.proofs.Writing.Common.{atom_view, syntax_view}
use Rattle.hir_input.specs.Edition.{edition_view}
use Rattle.item_tree_request.proofs.Writing.Requests.{request_again}
use Rattle.item_tree_request.proofs.write.request.request_value.Goals as goal

pub returns-clause-reads : goal.returns-clause-reads
returns-clause-reads c =
    let o = c.args.options.now in
    request_again o.bodies o.skipped.items (edition_view o.edition) (map atom_view o.cfg.items) (map syntax_view c.args.files.now) c.args.shows.now (view c.in_ok-value.value) c.in_ok-value.ensures
