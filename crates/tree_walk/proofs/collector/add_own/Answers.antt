use Rattle.std.proofs.Common.{◌≡◌, refl, ap, sym, ◌∙◌, Some, option_map}
use Rattle.std.proofs.lemmas.List.{map-append}
use Rattle.item_tree.specs.Shown.{lent_kind}
use Rattle.tree_walk.specs.{DeclarationView.declared_by, Inner.Declared.lent_declares, Inner.Steps.names_in}
use Rattle.tree_walk.proofs.LentNames.{own_one}
use Rattle.tree_walk.proofs.collector.add_own.Goals as goal

pub returns : goal.returns
returns c =
    let u = c.args.tree.now in
    let step = c.args.step.now in
    let declares : Some (declared_by c.in-Some.declares) ≡ lent_declares (lent_kind c.index-item.result) = ap (option_map declared_by) (sym c.in-Some.is) ∙ c.in_ok-declares.ensures in
    let own = own_one u (names_in step.around.scope.value) step.id (lent_kind c.index-item.result) c.ast_id.result (declared_by c.in-Some.declares) c.index-item.ensures c.ast_id.ensures declares in
    rw (own, c.in_ok-push.ensures.items, map-append, c.in_ok-clone.ensures.cases, c.visibility_of.ensures) refl
