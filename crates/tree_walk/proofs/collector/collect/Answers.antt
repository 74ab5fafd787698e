use Rattle.std.proofs.Common.{◌≡◌, ◌≢◌, map, ap, sym, ◌∙◌, subst, AllPairs, flat_map}
use Rattle.item_tree.specs.Walk.{AreContained}
use Rattle.tree_walk.specs.{Declarations.declared_at, DeclarationView.collected_declaration, DeclarationView.with_definition, Inner.Declared.own_in, Inner.Steps.step_view}
use Rattle.tree_walk.proofs.DeclarationIds.{all_defined, views_alone, ids_alone, declaring_once, declaring_contained}
use Rattle.tree_walk.proofs.collector.collect.Goals as goal

pub returns : goal.returns
returns c =
    let u = c.args.tree.now in
    let ds = c.in_ok-declarations.declarations.items in
    let all : map (collected_declaration u) ds ≡ map with_definition (declared_at u) =
    c.in_ok-declarations.ensures ∙ ap (λ ss. flat_map (own_in u) (map step_view ss)) c.deref.ensures.value ∙ all_defined u _ c.in_ok-steps.ensures.all in
    let ids = ids_alone u ds all in
    record { all = all; declared = views_alone u ds all; ids = ids; once = subst (AllPairs (λ i j. i ≢ j)) (sym ids) (declaring_once u); contained = subst (AreContained u) (sym ids) (declaring_contained u) }
