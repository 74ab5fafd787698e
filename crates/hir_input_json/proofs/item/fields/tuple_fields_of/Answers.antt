-- the loop as far as it has come
use Rattle.std.proofs.Common.{decimal}
use Rattle.hir_input_json.proofs.Common.{tuple_field}
use Rattle.hir_input_json.proofs.Lists.{read_next}
use Rattle.hir_input_json.proofs.item.fields.tuple_fields_of.Goals as goal

pub loop-item-preserved : goal.loop-item-preserved
loop-item-preserved c =
    read_next (λ f. f.visibility) tuple_field _ _ _ _ _ _ _ (decimal c.len-place.result) _ c.loop-item.invariant c.in-Some.ensures.steps.0 c.tuple_field_of.ensures c.in_ok-read.ensures c.in_ok-push.ensures.items
