use Rattle.std.proofs.Common.{◌≡◌, ◌∷◌, [], Err, MatchResult, refl, rules, subst, sym}
use Rattle.text_session.proofs.Common.{IsEdited, IsUnedited, OutOfMemory, text_edit_view}
use Rattle.text_session.proofs.EditedSessions.{stopped_none}
use Rattle.text_session.proofs.session.Session.edit_one.Goals as goal

pub returns-in_err-edits-clause-edited : goal.returns-in_err-edits-clause-edited
returns-in_err-edits-clause-edited c =
    let s = c.args.self.now.session in
    let asked = text_edit_view c.args.edit ∷ [] in
    let is : c.from_residual.result ≡ Err OutOfMemory = search rules in
    subst (λ r. MatchResult r (λ _. IsEdited s asked s) (IsUnedited s asked s)) (sym is) (stopped_none s asked s refl refl (λ file. refl))
