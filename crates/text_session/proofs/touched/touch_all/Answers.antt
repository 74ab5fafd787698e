use Rattle.std.proofs.Common.{◌≡◌, ◌+◌, [], ◌∷◌, ◌++◌, Some, map, take, sym, ap, subst, ◌∙◌, rules}
use Rattle.text_session.proofs.Common.{map-append, take_more, edit_view, AreTouched, touched_keys}
use Rattle.text_session.proofs.Touching.{touched_more}
use Rattle.text_session.proofs.touched.touch_all.Goals as goal

pub loop-edit-preserved : goal.loop-edit-preserved
loop-edit-preserved c =
    let edits = c.args.edits.now in
    let i = c.loop-edit.edit-index in
    let item = c.edit-item.result in
    let old = touched_keys c.args.touched.now in
    let mid = touched_keys c.loop-edit.touched in
    let new = touched_keys c.with_touched.result in
    let more : take (i + 1) edits ≡ take i edits ++ item ∷ [] = take_more edits i item c.loop-edit-test.true ∙ ap (λ e. take i edits ++ e ∷ []) (sym c.edit-item.is) in
    let views = ap (map edit_view) more ∙ map-append edit_view (take i edits) (item ∷ []) in
    let had : mid ≡ Some c.in-Some.places.keys = search rules in
    let one = subst (λ t. AreTouched (edit_view item ∷ []) t new) (sym had) c.with_touched.ensures in
    subst (λ es. AreTouched es old new) (sym views) (touched_more (map edit_view (take i edits)) (edit_view item) old mid new c.loop-edit.invariant one)
