use Rattle.source_listing.proofs.Common.{[], ◌++◌, ◌∙◌, file_places, rules, source_view, string_bytes}
use Rattle.source_listing.specs.Search.{found_text}
use Rattle.source_listing.specs.Views.{candidate_view}
use Rattle.source_listing.proofs.Printers.{file_is}
use Rattle.source_listing.proofs.PushedTexts.{one_more}
use Rattle.source_listing.proofs.found_texts.found_lines.Goals as goal

pub loop-candidate-preserved : goal.loop-candidate-preserved
loop-candidate-preserved c =
    let s = source_view c.args.source in
    let edition = c.args.edition.now in
    let form = c.args.query.form in
    let before = c.loop-candidate in
    let is = before.invariant.is in
    let x = c.candidate-item.result in
    let out = string_bytes before.out in
    let all = file_places c.args.places.now [] in
    let one = c.in_ok-push_found.ensures.text ∙ (λ i. out ++ found_text (file_is s all edition before.printer is i) (is.1 i).reserved.items form (candidate_view x)) in
    record {
      text = one_more (found_text s edition.reserved.items form) candidate_view c.deref-candidate-items.result.now before.candidate-index x out (string_bytes c.push_found.new.out) c.loop-candidate-test.true c.candidate-item.is before.invariant.text one;
      is = search rules;
    }
