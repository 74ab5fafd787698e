use Rattle.std.proofs.Common.{◌≡◌, Err, MatchResult, map, refl, rules, sym, ap, subst}
use Rattle.text_session.proofs.Common.{OutOfMemory, text_edit_view, AllByRecursion, AreTogether, NamesCrateOf, session_of, MakesAlone, IsEdited, IsUnedited, text_in, touched_keys}
use Rattle.text_session.proofs.BodyEdits.{edited_alone, made_by, none_by, none_if, together_alone}
use Rattle.text_session.proofs.EditedSessions.{stopped_none}
use Rattle.text_session.proofs.session.edit_texts.Goals as goal

pub returns-in_err-edit_inside_body-clause-edited : goal.returns-in_err-edit_inside_body-clause-edited
returns-in_err-edit_inside_body-clause-edited c = λ reserved.
    let s = c.args.sources.now in
    let u = c.edit_inside_body.new.sources in
    let old = c.args.texts.now.entries in
    let new = c.edit_inside_body.new.texts.entries in
    let asked = map text_edit_view c.args.edits.items in
    let over = session_of (c.args.edition, reserved) in
    let makes = subst (λ es. MakesAlone s old (map text_edit_view es) u new c.edit_inside_body.result) c.deref.ensures.value c.edit_inside_body.ensures in
    let none = none_if c.args.edition s u old new asked c.edit_inside_body.result c.requires.read c.requires.placed makes c.in_err-edit_inside_body.field-0.0 c.in_err-edit_inside_body.was in
    let is : c.from_residual.result ≡ Err OutOfMemory = search rules in
    subst (λ r. MatchResult r (λ _. IsEdited (over s old) asked (over u new)) (IsUnedited (over s old) asked (over u new))) (sym is)
    (stopped_none (over s old) asked (over u new) refl none.0 (λ file. ap (λ t. text_in t file) none.1))

pub returns-in_err-edit_inside_body-clause-together : goal.returns-in_err-edit_inside_body-clause-together
returns-in_err-edit_inside_body-clause-together c = λ count index t.
    let s = c.args.sources.now in
    let u = c.edit_inside_body.new.sources in
    let old = c.args.texts.now.entries in
    let new = c.edit_inside_body.new.texts.entries in
    let none = none_if c.args.edition s u old new (map text_edit_view c.deref.result.now) c.edit_inside_body.result c.requires.read c.requires.placed c.edit_inside_body.ensures c.in_err-edit_inside_body.field-0.0 c.in_err-edit_inside_body.was in
    subst (λ v. AreTogether count c.args.edition v new index (touched_keys c.args.touched.now)) (sym none.0) (subst (λ texts. AreTogether count c.args.edition s texts index (touched_keys c.args.touched.now)) (sym none.1) t)

pub returns-then-branch-clause-edited : goal.returns-then-branch-clause-edited
returns-then-branch-clause-edited c = λ reserved.
    let s = c.args.sources.now in
    let u = c.edit_inside_body.new.sources in
    let old = c.args.texts.now.entries in
    let new = c.edit_inside_body.new.texts.entries in
    let asked = map text_edit_view c.args.edits.items in
    let makes = subst (λ es. MakesAlone s old (map text_edit_view es) u new c.edit_inside_body.result) c.deref.ensures.value c.edit_inside_body.ensures in
    let made = made_by c.args.edition s u old new asked c.edit_inside_body.result c.requires.read c.requires.placed makes c.in_ok-edit_inside_body.field-0 c.in_ok-edit_inside_body.was c.if-branch.true in
    edited_alone c.args.edition s u old new asked made reserved

pub returns-then-branch-clause-together : goal.returns-then-branch-clause-together
returns-then-branch-clause-together c =
    let s = c.args.sources.now in
    let u = c.edit_inside_body.new.sources in
    let old = c.args.texts.now.entries in
    let new = c.edit_inside_body.new.texts.entries in
    let asked = map text_edit_view c.deref.result.now in
    let made = made_by c.args.edition s u old new asked c.edit_inside_body.result c.requires.read c.requires.placed c.edit_inside_body.ensures c.in_ok-edit_inside_body.field-0 c.in_ok-edit_inside_body.was c.if-branch.true in
    together_alone c.args.edition s u old new asked made (touched_keys c.args.touched.now)

pub edit_files-requires : goal.edit_files-requires
edit_files-requires c =
    let s = c.args.sources.now in
    let u = c.edit_inside_body.new.sources in
    let old = c.args.texts.now.entries in
    let new = c.edit_inside_body.new.texts.entries in
    let none = none_by c.args.edition s u old new (map text_edit_view c.deref.result.now) c.edit_inside_body.result c.requires.read c.requires.placed c.edit_inside_body.ensures c.in_ok-edit_inside_body.field-0 c.in_ok-edit_inside_body.was c.if-branch.false in
    subst (λ table. AllByRecursion (NamesCrateOf table) (map text_edit_view c.args.edits.items)) (sym none.0) c.requires.known

pub returns-clause-together : goal.returns-clause-together
returns-clause-together c = λ count index t.
    let s = c.args.sources.now in
    let u = c.edit_inside_body.new.sources in
    let old = c.args.texts.now.entries in
    let new = c.edit_inside_body.new.texts.entries in
    let none = none_by c.args.edition s u old new (map text_edit_view c.deref.result.now) c.edit_inside_body.result c.requires.read c.requires.placed c.edit_inside_body.ensures c.in_ok-edit_inside_body.field-0 c.in_ok-edit_inside_body.was c.if-branch.false in
    c.edit_files.ensures.together count index (subst (λ v. AreTogether count c.args.edition v new index (touched_keys c.args.touched.now)) (sym none.0) (subst (λ texts. AreTogether count c.args.edition s texts index (touched_keys c.args.touched.now)) (sym none.1) t))
