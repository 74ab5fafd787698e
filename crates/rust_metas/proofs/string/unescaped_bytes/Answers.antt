use Rattle.std.proofs.Common.{◌∙◌}
use Rattle.rust_metas.proofs.Strings.{unescaped_more}
use Rattle.rust_metas.proofs.string.unescaped_bytes.Goals as goal

pub bytes-preserved : goal.bytes-preserved
bytes-preserved c =
    unescaped_more c.bytes.z.now c.bytes_behind-rest.result.now c.bytes_behind-z.result.now c.bytes.out.items c.push_character.new.out.items c.in_ok-len.field-0 c.in-Some.len
    c.in-len1-up.len_at_least c.if-b-eq34.false c.bytes_behind-rest.ensures c.in_ok-len.ensures c.in-Some.is c.bytes_behind-z.ensures
    ∙ c.bytes.invariant
