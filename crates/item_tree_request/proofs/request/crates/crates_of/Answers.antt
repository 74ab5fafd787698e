-- the loop as far as it has come
use Rattle.std.proofs.Common.{arith, decimal}
use Rattle.std.proofs.lemmas.Grind.{common_steps}
use Rattle.item_tree_request.proofs.Common.{crate_view, joined_nil, read_next, crate_data}
use Rattle.item_tree_request.proofs.request.crates.crates_of.Goals as goal

pub loop-item-init : goal.loop-item-init
loop-item-init c = grind (arith, joined_nil)

pub loop-item-preserved : goal.loop-item-preserved
loop-item-preserved c =
    read_next crate_view crate_data _ _ _ _ _ _ _ (decimal c.len-place.result) _ c.loop-item.invariant c.in-Some.ensures.steps.0 c.crate_of.ensures c.in_ok-read.ensures c.in_ok-push.ensures.items

pub returns-in_err-read : goal.returns-in_err-read
returns-in_err-read c = grind arith

pub returns : goal.returns
returns c = grind (arith, common_steps)
