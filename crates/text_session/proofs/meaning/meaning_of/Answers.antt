use Rattle.std.proofs.Common.{IfOk, IfErr, length, sym, subst}
use Rattle.item_tree_db.specs.Edits as table
use Rattle.text_session.proofs.Common.{IsFailing, Means, TellsFault, text_after, text_edit_view, text_in}
use Rattle.text_session.specs.declared.edit.TextEdit as code
use Rattle.text_session.proofs.meaning.meaning_of.Goals as goal

pub returns-in-SetText-clause-means : goal.returns-in-SetText-clause-means
returns-in-SetText-clause-means c =
    let texts = text_after (text_in c.args.texts.now.entries) c.args.changes.now in
    subst (λ (e : code.TextEdit). IfOk c.set_meaning.result (λ m. Means c.args.edition texts (text_edit_view e) (table.edit_view m.edit) m.change))
    (sym c.in-SetText.is) (c.set_meaning.ensures.means texts)

pub returns-in-SetText-clause-fails : goal.returns-in-SetText-clause-fails
returns-in-SetText-clause-fails c =
    let texts = text_after (text_in c.args.texts.now.entries) c.args.changes.now in
    subst (λ (e : code.TextEdit). IfErr c.set_meaning.result (TellsFault (IsFailing texts (text_edit_view e) (length c.args.changes.now))))
    (sym c.in-SetText.is) (c.set_meaning.ensures.fails texts)
