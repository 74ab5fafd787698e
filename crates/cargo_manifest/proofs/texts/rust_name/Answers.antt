-- all characters are those of the name
use Rattle.std.proofs.Common.{encode_utf8, flat_map, sym, ap, ◌∙◌, map-id}
use Rattle.std.proofs.lemmas.Iterator.{YieldsList-from_chars}
use Rattle.std.proofs.lemmas.Iterator.Consumers.{YieldsList-end}
use Rattle.cargo_manifest.specs.Dependencies.{rust_name}
use Rattle.cargo_manifest.proofs.Names.{name_by_chars}
use Rattle.cargo_manifest.proofs.texts.rust_name.Goals as goal

pub returns : goal.returns
returns c =
    let all = YieldsList-end (YieldsList-from_chars c.args.name.now c.utf8.name cc) c.loop-c.yielded _ c.loop-c.yielded_by _ _ c.in-None.is c.next.ensures.steps in
    c.loop-c.invariant
    ∙ ap (flat_map (λ c. rust_name (encode_utf8 c))) (sym (map-id c.loop-c.yielded) ∙ all.0)
    ∙ name_by_chars c.args.name.now c.utf8.name
