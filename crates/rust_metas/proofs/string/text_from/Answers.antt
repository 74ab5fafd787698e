use Rattle.std.proofs.Common.{ap, string_bytes}
use Rattle.rust_metas.proofs.Common.{IsUtf8-string_bytes}
use Rattle.rust_metas.proofs.Texts.{is_text, no_text}
use Rattle.rust_metas.proofs.string.text_from.Goals as goal

pub returns-in-Ok : goal.returns-in-Ok
returns-in-Ok c = is_text c.args.bytes.items (string_bytes c.in-Ok.text) (IsUtf8-string_bytes c.in-Ok.text) (ap (λ v. v.items) c.in-Ok.ensures.ok)

pub returns : goal.returns
returns c = no_text c.args.bytes.items (λ u. let failed = c.in-Err.ensures.succeeds u in cc)
