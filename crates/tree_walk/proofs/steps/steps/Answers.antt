use Rattle.std.proofs.Common.{◌≡◌, ◌++◌, All, map, ap, sym, ◌∙◌, subst, flat_map}
use Rattle.item_tree.specs.{Reach.all_ids, Shown.IsContained}
use Rattle.tree_walk.specs.Inner.Steps as spec
use Rattle.tree_walk.specs.Inner.Steps.{around_view, step_view, steps_at}
use Rattle.tree_walk.proofs.StepIds.{all_seen, ids_all_contained, ids_walked, top_steps}
use Rattle.tree_walk.proofs.steps.steps.Goals as goal

pub returns : goal.returns
returns c =
    let u = c.args.tree.now in
    let top = c.top_level_items in
    let a = around_view c.in_ok-around.around in
    let ss = c.push_all.new.steps.items in
    let all : map step_view ss ≡ spec.steps u =
    c.in_ok-push_all.ensures ∙ ap (λ olds. map step_view olds ++ flat_map (steps_at u a) top.result.now) c.new-steps.ensures.items ∙ top_steps u a top.result.now c.in_ok-around.ensures top.ensures.ids top.ensures.stand in
    let ids : map (λ s. s.id) ss ≡ all_ids u = ids_walked u step_view ss all in
    record { all = all; ids = ids; contained = all_seen (IsContained u) (λ s. s.id) ss (subst (All (IsContained u)) (sym ids) (ids_all_contained u)) }
