use Rattle.std.proofs.Common.{ap}
use Rattle.rust_metas.proofs.KeptMetas.{doc_passed, keeps_docs}
use Rattle.rust_metas.proofs.PassedAttributes.{unread_by}
use Rattle.rust_metas.proofs.attribute.pass_unwanted.Goals as goal

pub returns-then-pass_doc-clause-passed : goal.returns-then-pass_doc-clause-passed
returns-then-pass_doc-clause-passed c =
    λ _. doc_passed c.args.wanted c.args.style c.pass_doc-in-Conditions.result c.args.cursor.now c.pass_doc-in-Conditions.new.cursor (ap keeps_docs c.in-Conditions.is) c.pass_doc-in-Conditions.ensures.told
    c.pass_doc-in-Conditions.ensures.passed c.if-pass_doc.true

pub returns-in-Undocumented-clause-passed : goal.returns-in-Undocumented-clause-passed
returns-in-Undocumented-clause-passed c = doc_passed c.args.wanted c.args.style c.pass_doc.result c.args.cursor.now c.pass_doc.new.cursor (ap keeps_docs c.in-Undocumented.is) c.pass_doc.ensures.told c.pass_doc.ensures.passed

pub returns-then-pass_unread-clause-passed : goal.returns-then-pass_unread-clause-passed
returns-then-pass_unread-clause-passed c =
    λ _. unread_by c.args.wanted c.args.style c.pass_doc-in-Conditions.result c.pass_unread.result c.args.cursor.now c.pass_doc-in-Conditions.new.cursor c.pass_unread.new.cursor c.pass_behind.new.cursor c.in-Conditions.is
    c.pass_doc-in-Conditions.ensures.told c.pass_doc-in-Conditions.ensures.passed c.if-pass_doc.false c.pass_unread.ensures.told c.pass_unread.ensures.passed c.if-pass_unread.true c.pass_behind.ensures
