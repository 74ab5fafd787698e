-- the reading is what was read, and then the reading of what is left
use Rattle.std.proofs.Common.{◌+◌, ◌*◌}
use Rattle.serde_json.specs.Data.{depth, items_depth}
use Rattle.serde_json.specs.View.{view, items_view}
use Rattle.hir_input_json.proofs.Common.{cfg_view, cfg, object_held}
use Rattle.hir_input_json.proofs.Lists.{HasReadInside}
use Rattle.hir_input_json.proofs.cfg.+cfgs.Given as goal

abbrev pub decreases-cfg_of : goal.decreases-cfg_of
decreases-cfg_of l = 3 * depth (view l.value) + 2

abbrev pub decreases-cfg_in : goal.decreases-cfg_in
decreases-cfg_in l = 3 * depth (view l.value) + 1

abbrev pub decreases-cfg_by : goal.decreases-cfg_by
decreases-cfg_by l = 3 * depth (object_held l.members.now)

abbrev pub decreases-cfgs_in : goal.decreases-cfgs_in
decreases-cfgs_in l = 3 * depth (view l.list) + 1

abbrev pub decreases-cfgs_of : goal.decreases-cfgs_of
decreases-cfgs_of l = 3 * items_depth (items_view l.items.items) + 3

abbrev pub invariant-cfgs_of-loop-item : goal.invariant-cfgs_of-loop-item
invariant-cfgs_of-loop-item l = HasReadInside cfg_view cfg l.fn.items.items l.done.items l.item-iterator.rest.items
