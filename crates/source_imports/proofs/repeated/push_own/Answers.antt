use Rattle.source_imports.proofs.Common.{PlacedText, ap, map, option_map, sym, ◌∙◌, on_ok_weaker, import_choice_view, listed_import, listed_named_view, placed_trees_view}
use Rattle.source_imports.specs.ImportCfgs.{is_import_listed}
use Rattle.source_imports.proofs.Repeats.{own_use}
use Rattle.source_imports.proofs.repeated.push_own.Goals as goal

pub returns-in_ok-imports-in-Use-clause-named : goal.returns-in_ok-imports-in-Use-clause-named
returns-in_ok-imports-in-Use-clause-named c =
    let old = c.args.finder.now in
    let choice = import_choice_view c.args.choice in
    let found = c.trees_of-trees.ensures in
    let listed = ap (is_import_listed choice.active_under) (sym c.cfgs.ensures) ∙ sym c.lists.ensures ∙ c.if-not-lists.false in
    on_ok_weaker c.push_listed.result (own_use old.text c.trees_of-trees.new.self.text old.places c.args.edition.now.reserved.items choice c.args.around c.args.tree.now c.args.id _ c.ast_id-at.result _ _
    (option_map placed_trees_view c.trees_of-trees.result) (map listed_import c.deref.result.now) (map listed_named_view c.args.found.now.items) (map listed_named_view c.push_listed.new.found.items)
    c.in-Use.ensures c.ast_id-at.ensures listed (ap (λ (t : PlacedText). t.text) found.same) found.trees (ap (map listed_import) c.deref.ensures.value ∙ c.in_ok-imports-in-Use.ensures)) c.push_listed.ensures.named
