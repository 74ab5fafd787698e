use Rattle.source_tags.proofs.Common.{rules, map, string_bytes, on_ok_weaker, tagged_file}
use Rattle.source_tags.specs.Inner.{tag_item_view, tag_place_view}
use Rattle.source_tags.specs.TagFields.{behind_address, fields_text}
use Rattle.source_tags.specs.Tags.{address_by}
use Rattle.source_tags.proofs.PushedTags.{tag_pushed}
use Rattle.source_tags.proofs.tags.Tagger.push_tag_at.Goals as goal

pub returns-clause-text : goal.returns-clause-text
returns-clause-text c =
    let f = tagged_file c.args.self.now in
    let fields = fields_text f.form.fields (tag_item_view c.args.item) (tag_place_view c.args.place) c.args.word.now (map (λ n. n.now) c.args.scope.now) in
    on_ok_weaker c.push_str-5.result (tag_pushed (string_bytes c.args.out.now) c.args.item.name.now f.path (address_by f.form.address f c.args.place.line) (behind_address fields)
    (string_bytes c.push_str.new.self) (string_bytes c.push_str-2.new.self) (string_bytes c.push_str-3.new.self) (string_bytes c.push_str-4.new.self) (string_bytes c.push_address.new.out) (string_bytes c.push_behind_address.new.out) (string_bytes c.push_str-5.new.self)
    (search rules) (search rules) (search rules) (search rules) (search rules) (search rules)) (search rules)
