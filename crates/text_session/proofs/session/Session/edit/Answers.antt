use Rattle.std.proofs.Common.{MatchResult, map, sym, subst}
use Rattle.text_session.proofs.Common.{AllByRecursion, NamesCrateOf, text_edit_view, session_of, IsEdited, IsUnedited}
use Rattle.text_session.specs.Sessions.{Indexed}
use Rattle.text_session.proofs.session.Session.edit.Goals as goal

pub edit_texts-requires-clause-known : goal.edit_texts-requires-clause-known
edit_texts-requires-clause-known c = subst (λ (s : Indexed). AllByRecursion (NamesCrateOf s.session.table) (map text_edit_view c.args.edits.items)) (sym c.self.view_is) c.requires

pub returns-clause-edited : goal.returns-clause-edited
returns-clause-edited c =
    let x = c.self.inside in
    let u = session_of (x.edition.year, x.edition.reserved.items) c.edit_texts.new.sources c.edit_texts.new.texts.entries in
    let asked = map text_edit_view c.args.edits.items in
    subst (λ (s : Indexed). MatchResult c.edit_texts.result (λ _. IsEdited s.session asked u) (IsUnedited s.session asked u)) c.self.view_is (c.edit_texts.ensures.edited x.edition.reserved.items)

pub invariant_of-self : goal.invariant_of-self
invariant_of-self c = c.edit_texts.ensures.together c.self.inside.count c.self.inside.index c.self.invariant
