-- what is taken out nests less deep
use Rattle.std.proofs.Common.{arith, codes, decimal, refl, sym}
use Rattle.serde_json.specs.View.{view}
use Rattle.hir_input_json.proofs.Common.{object_held, cfg_view, cfg}
use Rattle.hir_input_json.proofs.NestedForms.{depth_field, depth_get, field_before}
use Rattle.hir_input_json.proofs.Lists.{read_inside}
use Rattle.hir_input_json.proofs.cfg.+cfgs.Goals as goal

pub cfg_by-cfgs_in-requires : goal.cfg_by-cfgs_in-requires
cfg_by-cfgs_in-requires t c =
    let d = object_held c.args.members.now in
    let rest = object_held c.remove_member-inner.new.members in
    let list = view c.in-Some-take_member.list in
    let with_key = field_before (codes "all") (codes "key") rest (object_held c.take_member.new.members) list c.in_default.ensures.left refl c.in-Some-take_member.ensures.taken in
    let less = depth_field (codes "all") d list (sym (field_before (codes "all") (codes "not") d rest list c.remove_member-inner.ensures.left refl with_key)) in
    (omega (arith, less), tt)

pub cfg_by-cfgs_in-requires-in-Some-take_member-2 : goal.cfg_by-cfgs_in-requires-in-Some-take_member-2
cfg_by-cfgs_in-requires-in-Some-take_member-2 t c =
    let d = object_held c.args.members.now in
    let rest = object_held c.remove_member-inner.new.members in
    let later = object_held c.take_member.new.members in
    let list = view c.in-Some-take_member-2.list in
    let with_all = field_before (codes "any") (codes "all") later (object_held c.take_member-2.new.members) list c.in_default-take_member.ensures.left refl c.in-Some-take_member-2.ensures.taken in
    let with_key = field_before (codes "any") (codes "key") rest later list c.in_default.ensures.left refl with_all in
    let less = depth_field (codes "any") d list (sym (field_before (codes "any") (codes "not") d rest list c.remove_member-inner.ensures.left refl with_key)) in
    (omega (arith, less), tt)

pub cfg_by-cfg_of-requires : goal.cfg_by-cfg_of-requires
cfg_by-cfg_of-requires t c =
    let less = depth_get (codes "not") (object_held c.args.members.now) (view c.in-Some-inner.inner) (sym c.in-Some-inner.ensures.taken) in
    (omega (arith, less), tt)

pub cfgs_of-loop-item-preserved : goal.cfgs_of-loop-item-preserved
cfgs_of-loop-item-preserved t c =
    read_inside cfg_view cfg c.args.items.items _ _ _ _ _ _ (decimal c.len-place.result) _ c.loop-item.invariant c.in-Some.ensures.steps.0 c.cfg_of.ensures c.in_ok-read.ensures c.in_ok-push.ensures.items
