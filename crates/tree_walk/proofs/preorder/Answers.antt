use Rattle.std.proofs.Common.{◌≡◌, ◌≢◌, ◌↔◌, ℕ, Contains, ap, map, sym, subst, ◌∙◌, AllPairs, Some}
use Rattle.std.proofs.lemmas.List.{take_all}
use Rattle.item_tree.specs.{Layout.node_at, Reach.all_ids, Shown.IsContained, Walk.AreContained}
use Rattle.item_tree.proofs.Walking.{each_walked_once}
use Rattle.tree_walk.specs.Preorder.{preorder}
use Rattle.tree_walk.proofs.PreorderIds.{all_stand}
use Rattle.tree_walk.proofs.StepIds.{ids_all_contained}
use Rattle.tree_walk.proofs.preorder.Goals as goal

pub returns : goal.returns
returns c =
    let u = c.args.tree.now in
    let steps = c.deref-step-items in
    let ids : c.loop-step.found.items ≡ all_ids u =
    c.loop-step.invariant ∙ ap (map (λ s. s.id)) (take_all c.loop-step.step-index steps.result.now c.loop-step-test.false ∙ steps.ensures.value) ∙ c.in_ok-steps.ensures.ids in
    record {
      stand = subst (λ is. map (node_at u.forest) is ≡ map Some (preorder u.forest)) (sym ids) (all_stand u);
      ids = ids;
      once = subst (AllPairs (λ i j. i ≢ j)) (sym ids) (each_walked_once u).once;
      all = subst (λ is. (i : ℕ) → IsContained u i ↔ Contains is i) (sym ids) (each_walked_once u).all;
      contained = subst (AreContained u) (sym ids) (ids_all_contained u);
    }
