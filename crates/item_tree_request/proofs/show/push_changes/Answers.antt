use Rattle.std.proofs.Common.{refl, rules, string_bytes, flat_map, ◌≡◌, ◌++◌, OnOk}
use Rattle.item_tree_db.proofs.Changes.{since_among}
use Rattle.item_tree_request.proofs.Common.{on_ok_weaker, table_change_line}
use Rattle.item_tree_request.proofs.show.push_changes.Goals as goal

pub returns-clause-lines : goal.returns-clause-lines
returns-clause-lines c =
    let places = c.in_ok-places.ensures in
    let changes = c.changed_among.result in
    let since = since_among c.args.sources.now c.args.since c.in_ok-places.places.keys changes places.whole c.changed_among.ensures.among in
    let lines = flat_map table_change_line changes in
    let added : OnOk c.push_str.result (string_bytes c.push_str.new.self ≡ string_bytes c.args.text.now ++ lines) = search rules in
    on_ok_weaker c.push_str.result (λ e. (lines, (changes, since, refl), e)) added
