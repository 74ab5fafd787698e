-- what is taken out nests less deep
use Rattle.std.proofs.Common.{arith, codes, decimal, sym}
use Rattle.serde_json.specs.View.{view}
use Rattle.hir_input_json.proofs.Common.{object_held, meta_view, meta_form}
use Rattle.hir_input_json.proofs.NestedForms.{depth_field}
use Rattle.hir_input_json.proofs.Lists.{read_inside}
use Rattle.hir_input_json.proofs.meta.+metas.Goals as goal

pub unsafe_of-meta_of-requires : goal.unsafe_of-meta_of-requires
unsafe_of-meta_of-requires t c =
    let less = depth_field (codes "inner") (object_held c.args.members.now) (view c.in-Some.inner) (sym c.in-Some.ensures.taken) in
    (omega (arith, less), tt)

pub metas_of-loop-item-preserved : goal.metas_of-loop-item-preserved
metas_of-loop-item-preserved t c =
    read_inside meta_view meta_form c.args.items.items _ _ _ _ _ _ (decimal c.len-place.result) _ c.loop-item.invariant c.in-Some.ensures.steps.0 c.meta_of.ensures c.in_ok-read.ensures c.in_ok-push.ensures.items
