use Rattle.source_imports.proofs.Common.{PlacedText, ap, import_choice_view, map, on_ok_weaker, listed_named_view}
use Rattle.source_imports.proofs.Repeats.{named_adds}
use Rattle.source_imports.proofs.repeated.+push.Goals as goal

pub push_one-returns-clause-named : goal.push_one-returns-clause-named
push_one-returns-clause-named t c =
    let old = c.args.finder.now in
    let new = c.push_own.new.finder in
    let same = c.in_ok-push_own.ensures.same in
    on_ok_weaker c.push_all.result (named_adds old.text new.text old.places new.places c.args.edition.now.reserved.items (import_choice_view c.args.choice) c.args.around c.args.tree.now c.args.id c.children.result.now c.ast_id.result
    (map listed_named_view c.args.found.now.items) _ (map listed_named_view c.push_all.new.found.items) (ap (λ (t : PlacedText). t.text) same) (ap (λ (t : PlacedText). t.places) same) c.ast_id.ensures c.children.ensures.stand c.in_ok-push_own.ensures.named) c.push_all.ensures.named
