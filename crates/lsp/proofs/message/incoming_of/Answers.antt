use Rattle.std.proofs.Common.{◌≡◌, codes, is_some, option_and_then, option_map, unwrap_or, string_bytes, refl, ap, rules, ◌∙◌}
use Rattle.serde_json.specs.Data.{null}
use Rattle.serde_json.specs.Find.{as_str}
use Rattle.serde_json.specs.View.{view}
use Rattle.hir_input_json.specs.Forms.{field}
use Rattle.hir_input_json.specs.Held.{object_held}
use Rattle.lsp.specs.Messages.{by_method}
use Rattle.lsp.proofs.Messages.{message_parts}
use Rattle.lsp.proofs.message.incoming_of.Goals as goal

pub returns-clause-message : goal.returns-clause-message
returns-clause-message c =
    let d = object_held c.args.members in
    let d1 = object_held c.taken_text-method.new.members in
    let d2 = object_held c.take_member-id.new.members in
    let d3 = object_held c.take_member.new.members in
    let params : view c.or_null-params.result ≡ unwrap_or (field (codes "params") d2) null = c.or_null-params.ensures ∙ ap (λ o. unwrap_or o null) c.take_member.ensures.taken in
    let has : c.is_some-has_error.result ≡ is_some (field (codes "error") d3) = search rules in
    let same : by_method (option_map string_bytes c.taken_text-method.result) (option_map view c.take_member-id.result) (view c.or_null-params.result) c.is_some-has_error.result
    ≡ by_method (option_and_then as_str (field (codes "method") d)) (field (codes "id") d1) (unwrap_or (field (codes "params") d2) null) (is_some (field (codes "error") d3)) =
    rw (c.taken_text-method.ensures.text, c.take_member-id.ensures.taken, params, has) refl in
    c.by_method.ensures.message ∙ same ∙ message_parts d d1 d2 d3 c.taken_text-method.ensures.left c.take_member-id.ensures.left c.take_member.ensures.left
