use Rattle.source_tags.proofs.Common.{◌≡◌, ◌++◌, ◌∙◌, Bor, Some, ap, map, on_ok_weaker, rules, string_bytes, sym, if_any, row_view, tagged_file}
use Rattle.hir_input.specs.declared.name.Name.{Name}
use Rattle.source_rows.specs.Labels.{kind_texts}
use Rattle.source_tags.specs.Tags.{tag_text}
use Rattle.source_tags.proofs.TagLists.{tag_told}
use Rattle.source_tags.proofs.tags.Tagger.push_item_tag.Goals as goal

pub returns-clause-text : goal.returns-clause-text
returns-clause-text c =
    let f = tagged_file c.args.self.now in
    let r = row_view c.args.row.now in
    let out = string_bytes c.args.out.now in
    let named : r.name ≡ Some c.in-Some.name.now = search rules in
    let lettered : (kind_texts r.id.kind).letter ≡ Some c.in-Some-letter.letter.now = search rules in
    let placed : c.args.place ≡ Some c.in-Some-place.place = search rules in
    let scope : map (λ (n : Bor Name). n.now) c.as_slice.result.now ≡ r.scope = search rules in
    let tagged = tag_told f c.args.word.now r c.in-Some.name.now c.in-Some-letter.letter.now c.in-Some-place.place r.name (kind_texts r.id.kind).letter c.args.place named lettered placed in
    on_ok_weaker c.push_tag.result (λ e. e ∙ (λ k. out ++ tag_text f (c.item_told-item.ensures k) c.args.word.now (scope k)) ∙ ap (λ t. out ++ if_any t) (sym tagged)) c.push_tag.ensures.text
