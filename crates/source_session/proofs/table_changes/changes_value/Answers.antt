use Rattle.std.proofs.Common.{◌≡◌, map, rules, ap, ◌∙◌}
use Rattle.serde_json.specs.Data.{array}
use Rattle.serde_json.specs.View.{items_of, view}
use Rattle.serde_json.specs.declared.value.Value.{Array, the_lemmas}
use Rattle.item_tree_db.proofs.Changes.{since_among}
use Rattle.source_session.proofs.table_changes.changes_value.Goals as goal

pub returns : goal.returns
returns c =
    let values = c.in_ok-values.values in
    let made : view (Array values) ≡ array (items_of (map view values.items)) = search (rules, the_lemmas) in
    let changes = c.changed_among.result in
    let since = since_among c.args.sources.now c.args.since c.in_ok-places.places.keys changes c.in_ok-places.ensures.whole c.changed_among.ensures.among in
    (changes, since, made ∙ ap (λ ds. array (items_of ds)) c.in_ok-values.ensures)
