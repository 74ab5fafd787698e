use Rattle.std.proofs.Common.{refl}
use Rattle.item_tree_request.proofs.Common.{on_ok_weaker, printed_show}
use Rattle.item_tree_request.proofs.show.PagesShowWriter.push_show.Goals as goal

pub returns-in-OfTree-clause-added : goal.returns-in-OfTree-clause-added
returns-in-OfTree-clause-added c =
    let text = printed_show c.args.edition.now.reserved.items c.args.sources.now c.in-OfTree.show in
    rw c.in-OfTree.is (on_ok_weaker c.push_tree.result (λ e. (text, refl, e)) c.push_tree.ensures.added)
