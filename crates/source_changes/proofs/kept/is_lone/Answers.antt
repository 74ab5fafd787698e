use Rattle.std.proofs.Common.{◌∙◌, ◌||◌, ap, refl, sym}
use Rattle.source_changes.specs.DocAttributes.{inner_doc_list}
use Rattle.source_changes.specs.Inner.{are_apart}
use Rattle.source_changes.proofs.CountedTokens.{stands_alone}
use Rattle.source_changes.proofs.kept.is_lone.Goals as goal

pub returns-then-has_docs : goal.returns-then-has_docs
returns-then-has_docs c = λ e.
    stands_alone c.args.has_docs c.symbol.result c.in-Some.next c.next.new.self c.args.lexer.now (sym c.copy.ensures ∙ c.in-Some.ensures.steps) c.symbol.ensures (c.if-is_apart_mark.ensures refl)
    (ap (λ d. d || are_apart inner_doc_list c.args.lexer.now) e)

pub returns-else-has_docs : goal.returns-else-has_docs
returns-else-has_docs c = λ e.
    stands_alone c.args.has_docs c.symbol.result c.in-Some.next c.next.new.self c.args.lexer.now (sym c.copy.ensures ∙ c.in-Some.ensures.steps) c.symbol.ensures (c.if-is_apart_mark.ensures refl)
    (ap (λ d. d || are_apart inner_doc_list c.args.lexer.now) c.if-has_docs.false ∙ sym c.is_apart.ensures ∙ e)
