use Rattle.source_tags.proofs.Common.{◌∙◌, ◌++◌, ap, codes, on_ok_weaker, rules, string_bytes}
use Rattle.source_tags.specs.TagFields.{text_field}
use Rattle.source_tags.proofs.tag_fields.push_signature_field.Goals as goal

pub returns : goal.returns
returns c =
    on_ok_weaker c.push_text_field.result (λ e. e ∙ ap (λ v. string_bytes c.args.out.now ++ text_field c.args.is_asked (codes "signature:") v) (search rules)) c.push_text_field.ensures
