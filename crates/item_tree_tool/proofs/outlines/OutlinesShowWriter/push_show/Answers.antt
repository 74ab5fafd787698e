use Rattle.std.proofs.Common.{refl}
use Rattle.std.proofs.lemmas.Result.{on_ok_weaker}
use Rattle.item_tree_tool.specs.Outlines.{show_text}
use Rattle.item_tree_tool.proofs.outlines.OutlinesShowWriter.push_show.Goals as goal

pub returns-in-OfTree-clause-added : goal.returns-in-OfTree-clause-added
returns-in-OfTree-clause-added c =
    rw c.in-OfTree.is (on_ok_weaker c.push_tree.result (λ e. (show_text c.args.sources.now c.in-OfTree.show, refl, e)) c.push_tree.ensures.added)
