use Rattle.std.proofs.Common.{◌∷◌, [], All, subst, sym}
use Rattle.std.proofs.lemmas.List.Elements.{All-append, All-cons, All-nil}
use Rattle.tree_walk.specs.Views.{HasOwnUse}
use Rattle.tree_walk.proofs.rows.push_row.Goals as goal

pub returns-clause-visible : goal.returns-clause-visible
returns-clause-visible c before =
    let P = HasOwnUse c.args.tree.now in
    let row = c.in_ok-row_of.field-0 in
    subst (All P) (sym c.in_ok-push.ensures.items) (All-append P c.args.rows.now.items (row ∷ []) before (All-cons P row [] c.in_ok-row_of.ensures.visible (All-nil P)))
