-- a null that is written in the place of a value takes it out
use Rattle.std.proofs.Common.{Some, option_map, ap, sym, ◌∙◌}
use Rattle.serde_json.specs.Data.{object}
use Rattle.serde_json.specs.View.{view, members_view}
use Rattle.serde_json.proofs.Views.{view-lookup}
use Rattle.hir_input_json.proofs.Common.{object_held, without_key}
use Rattle.hir_input_json.proofs.MemberObjects.{members_set, drop_absent}
use Rattle.hir_input_json.proofs.member.remove_member.Goals as goal

pub returns-in-Some-clause-taken : goal.returns-in-Some-clause-taken
returns-in-Some-clause-taken c =
    ap (λ v. Some (view v)) c.take.ensures.taken ∙ ap (option_map view) c.in-Some.ensures.value ∙ view-lookup c.args.key.now c.args.members.now.entries

pub returns-in-Some-clause-left : goal.returns-in-Some-clause-left
unfolding without_key
returns-in-Some-clause-left c =
    let writes = c.get_mut.follows.holds c.take.new.self in
    ap (λ es. object (members_view es)) writes.0 ∙ ap object (members_set c.args.key.now c.args.members.now.entries c.take.new.self c.take.ensures.left)

pub returns-in-None-clause-taken : goal.returns-in-None-clause-taken
returns-in-None-clause-taken c = ap (option_map view) c.in-None.ensures.value ∙ view-lookup c.args.key.now c.args.members.now.entries

pub returns-in-None-clause-left : goal.returns-in-None-clause-left
unfolding without_key
returns-in-None-clause-left c =
    let absent = ap (option_map view) c.in-None.ensures.value ∙ view-lookup c.args.key.now c.args.members.now.entries in
    ap object_held c.get_mut.follows.holds-at-none ∙ ap object (sym (drop_absent c.args.key.now (members_view c.args.members.now.entries) (sym absent)))
