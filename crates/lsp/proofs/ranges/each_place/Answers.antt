use Rattle.std.proofs.Common.{decimal}
use Rattle.hir_input_json.proofs.Lists.{read_next}
use Rattle.lsp.specs.Positions.{position_form}
use Rattle.lsp.proofs.ranges.each_place.Goals as goal

pub loop-item-preserved : goal.loop-item-preserved
loop-item-preserved c =
    read_next (λ place. place) position_form _ _ _ _ _ _ _ (decimal c.len-place.result) _ c.loop-item.invariant c.in-Some.ensures.steps.0 c.place_of.ensures c.in_ok-read.ensures c.in_ok-push.ensures.items
