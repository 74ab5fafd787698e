-- all characters are those of the key
use Rattle.std.proofs.Common.{encode_utf8, flat_map, sym, ap, ◌∙◌, map-id}
use Rattle.std.proofs.lemmas.Iterator.{YieldsList-from_chars}
use Rattle.std.proofs.lemmas.Iterator.Consumers.{YieldsList-end}
use Rattle.hir_input_json.proofs.Common.{pointer_step}
use Rattle.hir_input_json.proofs.Pointers.{key_by_chars}
use Rattle.hir_input_json.proofs.pointer.step_of.Goals as goal

pub returns : goal.returns
returns c =
    let all = YieldsList-end (YieldsList-from_chars c.args.key.now c.utf8.key cc) c.loop-c.yielded _ c.loop-c.yielded_by _ _ c.in-None.is c.next.ensures.steps in
    c.loop-c.invariant
    ∙ ap (flat_map (λ c. pointer_step (encode_utf8 c))) (sym (map-id c.loop-c.yielded) ∙ all.0)
    ∙ key_by_chars c.args.key.now c.utf8.key
