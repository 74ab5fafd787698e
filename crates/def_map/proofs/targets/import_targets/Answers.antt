use Rattle.std.proofs.Common.{[], ◌++◌, take, refl, sym, ap, subst, ◌∙◌}
use Rattle.std.specs.{List.filter_map, Option.option_to_list}
use Rattle.std.proofs.lemmas.List.{take_all}
use Rattle.std.proofs.lemmas.Result.{IfOk-weaker}
use Rattle.def_map.specs.Numbering.{Interns}
use Rattle.def_map.specs.Targets.{AreTargetsBy, place_target, target_eq}
use Rattle.def_map.specs.declared.targets.Target.{Target}
use Rattle.def_map.proofs.Interning.{interns_both, interns_none, kept_more}
use Rattle.def_map.proofs.Leading.{targets_found}
use Rattle.def_map.proofs.targets.import_targets.Goals as goal

pub loop-place-init : goal.loop-place-init
loop-place-init c = interns_none target_eq (λ (x : Target). x) [] c.new-found.result.keys c.new-found.ensures.empty

pub loop-place-preserved : goal.loop-place-preserved
loop-place-preserved c =
    let of = λ (x : Target). x in
    let at = place_target c.args.table.now c.args.numbers.now.items.keys c.args.closure.now.facts.keys c.args.number in
    let i = c.loop-place.place-index in let places = c.places-place-items.result.now in
    let done = filter_map at (take i places) in
    subst (Interns target_eq of [] c.put_target.new.found.keys)
    (ap (λ o. done ++ option_to_list o) c.target_at.ensures ∙ sym (kept_more at places i 0 c.loop-place-test.true))
    (interns_both target_eq of [] c.loop-place.found.keys c.put_target.new.found.keys done _ c.loop-place.invariant c.in_ok-put_target.ensures)

pub returns : goal.returns
returns c =
    let t = c.args.table.now in let items = c.args.numbers.now.items.keys in let facts = c.args.closure.now.facts.keys in
    let places = take_all c.loop-place.place-index c.places-place-items.result.now c.loop-place-test.false ∙ c.places-place-items.ensures in
    IfOk-weaker c.from_slice.result _ _ (λ v is. subst (AreTargetsBy t items facts c.args.number) (sym (is ∙ c.as_slice.ensures.keys))
    (targets_found t items facts c.args.number c.args.closure.now.index [] c.loop-place.found.keys c.requires refl
    (subst (λ ps. Interns target_eq (λ (x : Target). x) [] c.loop-place.found.keys (filter_map (place_target t items facts c.args.number) ps)) places c.loop-place.invariant) c.as_slice.ensures.unique)) c.from_slice.ensures.items
