use Rattle.source_listing.proofs.Common.{◌++◌, ◌∙◌, rules, string_bytes, look_view, file_places, reading_view, row_view, source_view}
use Rattle.source_listing.specs.Outlines.{row_outline}
use Rattle.source_listing.proofs.Printers.{file_is, places_are}
use Rattle.source_listing.proofs.PushedTexts.{one_more}
use Rattle.source_listing.proofs.outlines.outline.Goals as goal

pub loop-row-preserved : goal.loop-row-preserved
loop-row-preserved c =
    let s = source_view c.args.source in
    let x = reading_view c.args.reading in
    let k = look_view c.args.look in
    let edition = c.args.edition.now in
    let before = c.loop-row in
    let is = before.invariant.is in
    let r = c.row-item.result in
    let out = string_bytes before.out in
    let all = file_places c.args.places.now c.args.use_trees.now in
    let whole = c.in_ok-push_row.ensures.text ∙ (λ i. out ++ row_outline (file_is s all edition before.printer is i) (is.1 i).reserved.items k x (places_are s all edition before.printer is i) (row_view r)) in
    record {
      text = one_more (row_outline s edition.reserved.items k x all) row_view c.deref-row-items.result.now before.row-index r out (string_bytes c.push_row.new.out) c.loop-row-test.true c.row-item.is before.invariant.text whole;
      is = search rules;
    }
