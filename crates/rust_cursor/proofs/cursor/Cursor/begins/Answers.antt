use Rattle.std.proofs.Common.{sym, ap, ◌∙◌}
use Rattle.rust_cursor.proofs.Common.{leads_item}
use Rattle.rust_cursor.proofs.Begins.{none_leads}
use Rattle.rust_cursor.proofs.cursor.Cursor.begins.Goals as goal

pub returns-then-not-is_at_doc : goal.returns-then-not-is_at_doc
returns-then-not-is_at_doc c =
    none_leads c.args.nest.now c.args.self.now (ap leads_item (sym c.word.ensures) ∙ sym c.leads_item.ensures ∙ c.if-not-leads_item.true)
    (λ e. c.if-symbol-ne35.true (c.symbol.ensures ∙ e)) (sym c.is_at_doc.ensures ∙ c.if-not-is_at_doc.true)
