use Rattle.std.proofs.Common.{◌≡◌, ◌≤◌, ℕ, List, Err, IfOk, MatchResult, length, map, refl, rules, sym, ap, ◌∙◌, subst}
use Rattle.text_session.proofs.Common.{EditionYear, last_number, OutOfMemory, text_edit_view, session_of, made_count, IsEdited, IsUnedited, AreTouched, text_in, touched_keys}
use Rattle.item_tree_db.specs.Edits.{edit_view as table_view}
use Rattle.text_session.proofs.EditedSessions.{files_made, files_together, outcome_by, stopped_none, unmeant}
use Rattle.text_session.proofs.MeantEdits.{known_meant}
use Rattle.text_session.proofs.session.edit_files.Goals as goal

pub returns-in_err-meanings-clause-edited : goal.returns-in_err-meanings-clause-edited
returns-in_err-meanings-clause-edited c = λ reserved.
    let edition : EditionYear × List (List ℕ) = (c.args.edition, reserved) in
    let s = session_of edition c.args.sources.now c.args.texts.now.entries in
    let asked = map text_edit_view c.args.edits.items in
    let e = c.in_err-meanings.field-0.0 in
    let is : c.from_residual.result ≡ Err e = search rules in
    subst (λ r. MatchResult r (λ _. IsEdited s asked s) (IsUnedited s asked s)) (sym is) (unmeant s asked e c.in_err-meanings.ensures.fails)

pub returns-in_err-make_room-clause-edited : goal.returns-in_err-make_room-clause-edited
returns-in_err-make_room-clause-edited c = λ reserved.
    let edition : EditionYear × List (List ℕ) = (c.args.edition, reserved) in
    let s = session_of edition c.args.sources.now c.args.texts.now.entries in
    let u = session_of edition c.args.sources.now c.make_room.new.texts.entries in
    let asked = map text_edit_view c.args.edits.items in
    let is : c.from_residual-in_err-make_room.result ≡ Err OutOfMemory = search rules in
    subst (λ r. MatchResult r (λ _. IsEdited s asked u) (IsUnedited s asked u)) (sym is) (stopped_none s asked u refl refl c.make_room.ensures.texts)

pub edit_all-made-requires : goal.edit_all-made-requires
edit_all-made-requires c =
    let m = c.in_ok-meanings.meanings in
    known_meant c.args.sources.now c.args.edition (text_in c.args.texts.now.entries) (map text_edit_view c.args.edits.items) (map table_view m.edits.items) m.changes.items c.in_ok-meanings.ensures.meant c.requires

pub returns-clause-edited : goal.returns-clause-edited
returns-clause-edited c = λ reserved.
    let edition : EditionYear × List (List ℕ) = (c.args.edition, reserved) in
    let old = c.args.texts.now.entries in
    let new = c.put_first.new.texts.entries in
    let s = session_of edition c.args.sources.now old in
    let u = session_of edition c.edit_all-made.new.self new in
    let edits = c.in_ok-meanings.meanings.edits.items in
    let changes = c.in_ok-meanings.meanings.changes.items in
    let asked = map text_edit_view c.args.edits.items in
    let made = c.edit_all-made.result in
    let e = c.edit_all-made.ensures in
    let most : c.len-most.result ≡ length edits = search rules in
    let n : c.made_count.result ≡ made_count (length edits) made = c.made_count.ensures ∙ ap (λ k. made_count k made) most in
    let small : IfOk made (λ number. number ≤ last_number) = search rules in
    let first = files_made c.args.sources.now c.edit_all-made.new.self old c.make_room.new.texts.entries new edits changes made c.made_count.result e.ok e.refused n c.make_room.ensures.texts c.put_first.ensures edition in
    let told = outcome_by s u asked edits changes c.in_ok-meanings.ensures.meant made first e.number small e.fits e.place e.fits_before e.cause e.full e.in_range in
    subst (λ r. MatchResult r (λ _. IsEdited s asked u) (IsUnedited s asked u)) (sym c.outcome.ensures) told

pub returns-clause-together : goal.returns-clause-together
returns-clause-together c = λ count index t.
    let edits = c.in_ok-meanings.meanings.edits.items in
    let changes = c.in_ok-meanings.meanings.changes.items in
    let made = c.edit_all-made.result in
    let e = c.edit_all-made.ensures in
    let most : c.len-most.result ≡ length edits = search rules in
    let n : c.made_count.result ≡ made_count (length edits) made = c.made_count.ensures ∙ ap (λ k. made_count k made) most in
    let touched = subst (λ es. AreTouched (map table_view es) (touched_keys c.args.touched.now) (touched_keys c.touch_all.new.touched)) c.deref-2.ensures.value c.touch_all.ensures in
    files_together c.args.sources.now c.edit_all-made.new.self c.args.texts.now.entries c.make_room.new.texts.entries c.put_first.new.texts.entries edits changes made c.made_count.result e.ok e.refused n
    c.make_room.ensures.texts c.put_first.ensures count c.args.edition (map text_edit_view c.args.edits.items) (touched_keys c.args.touched.now) (touched_keys c.touch_all.new.touched) c.in_ok-meanings.ensures.meant touched index t e.footing c.in_ok-meanings.ensures.placed
