use Rattle.item_tree_request.specs.Inner.RequestView.{request_view}
use Rattle.item_tree_request.proofs.ServedRequests.{answered}
use Rattle.item_tree_request.proofs.answer.answer.Goals as goal

pub returns : goal.returns
returns g c = answered g.T.ShowWriter.is_text c.args.bytes.now (request_view c.in_ok-request.request) c.serve.result c.in_ok-request.ensures.reads c.serve.ensures
