use Rattle.std.proofs.Common.{◌++◌, take, drop, sym, ap, ◌∙◌, append_assoc, take-append-drop}
use Rattle.item_tree_request.proofs.Common.{take_rest, Appends-trans}
use Rattle.item_tree_request.proofs.stream.write_whole.Goals as goal

pub loop-rest-preserved : goal.loop-rest-preserved
loop-rest-preserved g c =
    let (done, split, appended) = c.loop-rest.invariant in
    let rest = c.loop-rest.rest.now in
    let n = c.in-Ok.count in
    let more = done ++ take n rest in
    let behind = split ∙ ap (λ l. done ++ l) (sym (take-append-drop n rest)) ∙ sym (append_assoc done (take n rest) (drop n rest)) in
    (more, behind ∙ ap (λ l. more ++ l) (sym (take_rest rest n)), Appends-trans _ _ _ _ _ appended c.in-Ok.ensures.bytes)
