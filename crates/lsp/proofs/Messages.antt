-- Messages by the members that are taken out of them.
use Rattle.std.proofs.Common.{◌≡◌, codes, is_some, option_and_then, unwrap_or, refl, ap, ◌∙◌}
use Rattle.serde_json.specs.Data.{Data, null}
use Rattle.serde_json.specs.Find.{as_str}
use Rattle.hir_input_json.specs.Forms.{field}
use Rattle.hir_input_json.specs.Held.{without_key}
use Rattle.hir_input_json.proofs.MemberObjects.{field_without}
use Rattle.lsp.specs.Messages.{by_method, incoming}

module _ (d d1 d2 d3 : Data) (first : d1 ≡ without_key (codes "method") d) (second : d2 ≡ without_key (codes "id") d1) (third : d3 ≡ without_key (codes "params") d2) where
  id_is : field (codes "id") d1 ≡ field (codes "id") d
  id_is = ap (field (codes "id")) first ∙ field_without (codes "id") (codes "method") d refl

  params_is : field (codes "params") d2 ≡ field (codes "params") d
  params_is =
      ap (field (codes "params")) second ∙ field_without (codes "params") (codes "id") d1 refl
      ∙ ap (field (codes "params")) first ∙ field_without (codes "params") (codes "method") d refl

  error_is : field (codes "error") d3 ≡ field (codes "error") d
  error_is =
      ap (field (codes "error")) third ∙ field_without (codes "error") (codes "params") d2 refl
      ∙ ap (field (codes "error")) second ∙ field_without (codes "error") (codes "id") d1 refl
      ∙ ap (field (codes "error")) first ∙ field_without (codes "error") (codes "method") d refl

  -- the message that a value is, by what is taken out of it in turn
  pub message_parts : by_method (option_and_then as_str (field (codes "method") d)) (field (codes "id") d1) (unwrap_or (field (codes "params") d2) null) (is_some (field (codes "error") d3)) ≡ incoming d
  message_parts = rw (id_is, params_is, error_is) refl
