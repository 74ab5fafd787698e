use Rattle.source_tags.proofs.Common.{◌≡◌, ◌++◌, ◌∙◌, Bor, Some, ap, map, on_ok_weaker, option_map, string_bytes, if_any, listed_view, tagged_file}
use Rattle.hir_input.specs.declared.name.Name.{Name}
use Rattle.source_tags.specs.Tags.{member_item, member_letter, tag_text}
use Rattle.source_tags.proofs.tags.Tagger.push_member_tag.Goals as goal

pub returns-clause-text : goal.returns-clause-text
returns-clause-text c =
    let f = tagged_file c.args.self.now in
    let m = listed_view c.args.member.now in
    let scope = map (λ (n : Bor Name). n.now) c.args.scope.now in
    let out = string_bytes c.args.out.now in
    let letter : Some c.in-Some.letter.now ≡ member_letter m.kind = c.in-Some.ensures in
    on_ok_weaker c.push_tag.result (λ e. e ∙ ap (λ t. out ++ tag_text f t c.args.word.now scope) c.member_item-item.ensures
    ∙ ap (λ l. out ++ if_any (option_map (λ x. tag_text f (member_item m x) c.args.word.now scope) l)) letter) c.push_tag.ensures.text
