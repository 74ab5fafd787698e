use Rattle.std.proofs.Common.{◌≡◌, ◌++◌, rules, ap, ◌∙◌, string_bytes}
use Rattle.serde_json.specs.Data.{string}
use Rattle.serde_json.specs.View.{view}
use Rattle.serde_json.specs.declared.value.Value.{String, the_lemmas}
use Rattle.source_session.proofs.shown.table_value.Goals as goal

pub returns : goal.returns
returns c =
    let text = c.push_show.new.text in
    let made : view (String text) ≡ string (string_bytes text) = search (rules, the_lemmas) in
    let added = c.in_ok-push_show.ensures.added in
    (added.0, added.1, made ∙ ap string (added.2 ∙ ap (λ t. t ++ added.0) c.new-text.ensures.bytes))
