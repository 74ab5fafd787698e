use Rattle.std.proofs.Common.{[], rules, string_bytes, subst}
use Rattle.item_tree_request.proofs.Common.{take_all, AreJoined}
use Rattle.item_tree_request.proofs.Outputs.{joined-more}
use Rattle.item_tree_request.proofs.show_writer.output_of.Goals as goal

pub loop-show-init : goal.loop-show-init
loop-show-init g c = ([], tt, search rules)

pub loop-show-preserved : goal.loop-show-preserved
loop-show-preserved g c =
    let IsText = g.T.ShowWriter.is_text c.args.edition.now.reserved.items c.args.sources.now in
    joined-more IsText c.args.shows.now c.loop-show.show-index _ _ _ c.loop-show-test.true c.loop-show.invariant c.in_ok-push_show.ensures.added

pub returns : goal.returns
returns g c =
    let IsText = g.T.ShowWriter.is_text c.args.edition.now.reserved.items c.args.sources.now in
    let text = string_bytes c.loop-show.text in
    subst (λ shows. AreJoined IsText shows text) (take_all c.loop-show.show-index c.args.shows.now c.loop-show-test.false) c.loop-show.invariant
