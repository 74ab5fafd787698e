use Rattle.std.proofs.Common.{◌≡◌, ◌++◌, ◌∷◌, [], All, Err, IfErr, length, map, rules, sym, ap, ◌∙◌, subst, arith}
use Rattle.text_session.proofs.Common.{append_assoc, length-append, map-append, All-push, text_edit_view, LeavesPlaced, IsFailing, TellsFault, AreMeant, FailsAt, Means, text_after, text_in}
use Rattle.item_tree_db.specs.Edits as table
use Rattle.text_session.proofs.MeantEdits.{meant_push, tells_behind}
use Rattle.text_session.proofs.meaning.meanings_of.Goals as goal

pub loop-edit-preserved : goal.loop-edit-preserved
loop-edit-preserved c =
    let texts = text_in c.args.texts.now.entries in
    let old = c.loop-edit.invariant in
    let done = old.0 in
    let made = c.loop-edit.made.items in
    let changes = c.loop-edit.changes.items in
    let edit = c.in-Some.edit in
    let m = c.in_ok-meaning.meaning in
    let rest = c.next.new.self.rest.items in
    let step : c.loop-edit.edit-iterator.rest.items ≡ edit ∷ rest = search rules in
    let es = c.in_ok-push.ensures.items in
    let cs = c.in_ok-push-2.ensures.items in
    let views = map-append text_edit_view done (edit ∷ []) in
    let tables = ap (map table.edit_view) es ∙ map-append table.edit_view made (m.edit ∷ []) in
    let means = subst (λ ds. Means c.args.edition (text_after texts ds) (text_edit_view edit) (table.edit_view m.edit) m.change) c.deref.ensures.value c.in_ok-meaning.ensures.means in
    let meant = meant_push c.args.edition texts (map text_edit_view done) (map table.edit_view made) changes (text_edit_view edit) (table.edit_view m.edit) m.change old.2 means in
    let longer = ap length es in (
      done ++ edit ∷ [],
      old.1 ∙ ap (λ xs. done ++ xs) step ∙ sym (append_assoc done (edit ∷ []) rest),
      subst (λ ls. AreMeant c.args.edition texts ls (map table.edit_view c.push.new.self.items) c.push-in-loop-edit.new.self.items) (sym views)
          (subst (λ xs. AreMeant c.args.edition texts (map text_edit_view done ++ text_edit_view edit ∷ []) xs c.push-in-loop-edit.new.self.items) (sym tables)
          (subst (AreMeant c.args.edition texts (map text_edit_view done ++ text_edit_view edit ∷ []) (map table.edit_view made ++ table.edit_view m.edit ∷ [])) (sym cs) meant)),
      subst (All LeavesPlaced) (sym cs) (All-push LeavesPlaced changes m.change old.3 c.in_ok-meaning.ensures.placed),
      omega (arith, longer, old.4, length-append made (m.edit ∷ []), length-append done (edit ∷ [])),
    )

pub returns-in_err-meaning-clause-fails : goal.returns-in_err-meaning-clause-fails
returns-in_err-meaning-clause-fails c =
    let texts = text_in c.args.texts.now.entries in
    let old = c.loop-edit.invariant in
    let done = old.0 in
    let edit = c.in-Some.edit in
    let rest = c.next.new.self.rest.items in
    let changes = c.loop-edit.changes.items in
    let step : c.loop-edit.edit-iterator.rest.items ≡ edit ∷ rest = search rules in
    let e = c.in_err-meaning.field-0.0 in
    let is : c.from_residual-in_err-meaning.result ≡ Err e = search rules in
    let told = subst (λ ds. TellsFault (IsFailing (text_after texts ds) (text_edit_view edit) (length ds)) e) c.deref.ensures.value c.in_err-meaning.ensures.fails in
    let all = ap (map text_edit_view) (old.1 ∙ ap (λ xs. done ++ xs) step) ∙ map-append text_edit_view done (edit ∷ rest) in
    subst (λ r. IfErr r (TellsFault (FailsAt c.args.edition texts (map text_edit_view c.args.edits.items)))) (sym is)
    (subst (λ ls. TellsFault (FailsAt c.args.edition texts ls) e) (sym all)
    (tells_behind c.args.edition texts (map text_edit_view done) (map table.edit_view c.loop-edit.made.items) changes (text_edit_view edit) (map text_edit_view rest) e old.2 told))
