-- the trees that changed are of known crates, and the objects are those of these trees
use Rattle.std.proofs.Common.{◌≡◌, map, rules, subst, ap, ◌∙◌}
use Rattle.serde_json.specs.Data.{array}
use Rattle.serde_json.specs.View.{items_of, view}
use Rattle.serde_json.specs.declared.value.Value.{Array, the_lemmas}
use Rattle.item_tree_db.specs.Since.{IsSince}
use Rattle.source_session.proofs.Common.{State}
use Rattle.source_session.proofs.Matches.{changes_known}
use Rattle.source_session.proofs.searched.search.Goals as goal

pub matches-requires : goal.matches-requires
matches-requires c =
    let changes = c.changed_since.result in
    let since = subst (λ (s : State). IsSince s 0 changes) c.sources.ensures c.changed_since.ensures.since in
    changes_known c.args.session.now.session.table 0 changes since

pub returns : goal.returns
returns c =
    let values = c.in_ok-values.values in
    let made : view (Array values) ≡ array (items_of (map view values.items)) = search (rules, the_lemmas) in
    let changes = c.changed_since.result in
    let since = subst (λ (s : State). IsSince s 0 changes) c.sources.ensures c.changed_since.ensures.since in
    (changes, since, made ∙ ap (λ ds. array (items_of ds)) c.in_ok-values.ensures)
