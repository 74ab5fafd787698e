use Rattle.source_listing.proofs.Common.{Characters, ◌≡◌, ap, subst, ◌∙◌, string_bytes, IfOk, items_of, file_form, reading_view, choice_view, source_view}
use Rattle.serde_json.specs.Written.{has_float}
use Rattle.list_forms.specs.Lines as lines
use Rattle.source_listing.proofs.NoFloats.{file_none}
use Rattle.source_listing.proofs.json.outline_json.Goals as goal

pub value_line-requires : goal.value_line-requires
value_line-requires c =
    let s = source_view c.args.source in
    let edition = c.args.edition.now in
    ap has_float (c.in_ok-file.ensures ∙ ap (λ ds. file_form s.path (items_of ds)) c.in_ok-items.ensures)
    ∙ file_none Characters s (reading_view c.args.reading) edition.reserved.items c.args.places.now (choice_view c.args.choice) c.args.tree.now

pub returns : goal.returns
returns c =
    let s = source_view c.args.source in
    subst (λ d. IfOk c.value_line.result (λ text. string_bytes text ≡ lines.value_line d)) (c.in_ok-file.ensures ∙ ap (λ ds. file_form s.path (items_of ds)) c.in_ok-items.ensures) c.value_line.ensures
