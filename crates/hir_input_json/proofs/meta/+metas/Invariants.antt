-- the reading is what was read, and then the reading of what is left
use Rattle.std.proofs.Common.{◌+◌, ◌*◌}
use Rattle.serde_json.specs.Data.{depth, items_depth}
use Rattle.serde_json.specs.View.{view, items_view}
use Rattle.hir_input_json.proofs.Common.{meta_view, meta_form, object_held}
use Rattle.hir_input_json.proofs.Lists.{HasReadInside}
use Rattle.hir_input_json.proofs.meta.+metas.Given as goal

abbrev pub decreases-meta_of : goal.decreases-meta_of
decreases-meta_of l = 4 * depth (view l.value) + 3

abbrev pub decreases-meta_in : goal.decreases-meta_in
decreases-meta_in l = 4 * depth (object_held l.members.now) + 2

abbrev pub decreases-cfg_attr_of : goal.decreases-cfg_attr_of
decreases-cfg_attr_of l = 4 * depth (object_held l.members.now) + 1

abbrev pub decreases-unsafe_of : goal.decreases-unsafe_of
decreases-unsafe_of l = 4 * depth (object_held l.members.now) + 1

abbrev pub decreases-metas_of : goal.decreases-metas_of
decreases-metas_of l = 4 * items_depth (items_view l.items.items) + 4

abbrev pub invariant-metas_of-loop-item : goal.invariant-metas_of-loop-item
invariant-metas_of-loop-item l = HasReadInside meta_view meta_form l.fn.items.items l.done.items l.item-iterator.rest.items
