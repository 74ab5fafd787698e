use Rattle.source_tags.proofs.Common.{rules, string_bytes, on_ok_weaker}
use Rattle.source_tags.proofs.PushedTags.{scope_pushed}
use Rattle.source_tags.proofs.tag_fields.push_scope_field.Goals as goal

pub returns : goal.returns
returns c =
    on_ok_weaker c.push_scope.result (scope_pushed (λ n. n.now) c.args.scope.now c.in-Some.first.now c.in-Some.rest.now c.args.word.now (string_bytes c.args.out.now) (string_bytes c.push_str.new.self) (string_bytes c.push_str-2.new.self)
    (string_bytes c.push_str-3.new.self) (string_bytes c.push_str-4.new.self) (string_bytes c.push_scope.new.path)
    (search rules) (search rules) (search rules) (search rules) (search rules)) c.push_scope.ensures.text
