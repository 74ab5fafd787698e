use Rattle.std.proofs.Common.{decimal}
use Rattle.hir_input_json.proofs.Lists.{read_next}
use Rattle.lsp.specs.Changes.{content_change_form}
use Rattle.lsp.specs.Views.{change_view}
use Rattle.lsp.proofs.change.each_change.Goals as goal

pub loop-item-preserved : goal.loop-item-preserved
loop-item-preserved c =
    read_next change_view content_change_form _ _ _ _ _ _ _ (decimal c.len-place.result) _ c.loop-item.invariant c.in-Some.ensures.steps.0 c.change_of.ensures c.in_ok-read.ensures c.in_ok-push.ensures.items
