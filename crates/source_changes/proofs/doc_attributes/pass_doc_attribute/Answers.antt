use Rattle.std.proofs.Common.{◌∙◌, ap, refl, subst, sym}
use Rattle.source_changes.specs.DocAttributes.{behind_tests, inner_doc_list}
use Rattle.source_changes.proofs.Holes.{AttributeTold, inner_told, outer_told}
use Rattle.source_changes.proofs.doc_attributes.pass_doc_attribute.Goals as goal

outer : (c : goal.Then-pass_if_all) → AttributeTold c.args.has_docs c.pass_if_all.result c.args.token.now c.args.lexer.now c.pass_if_all.new.lexer
outer c =
    let told = outer_told c.args.has_docs c.args.token.now c.args.lexer.now c.pass_if_all.new.lexer c.if-has_docs.false (sym c.symbol.ensures ∙ c.if-symbol-ne35.false) (c.if-pass_if_all.ensures.all refl) c.requires in
    subst (λ r. AttributeTold c.args.has_docs r c.args.token.now c.args.lexer.now c.pass_if_all.new.lexer) (sym c.if-pass_if_all.true) told

pub returns-then-pass_if_all-clause-same : goal.returns-then-pass_if_all-clause-same
returns-then-pass_if_all-clause-same c = (outer c).same

pub returns-then-pass_if_all-clause-after : goal.returns-then-pass_if_all-clause-after
returns-then-pass_if_all-clause-after c = (outer c).after

pub returns-then-pass_if_all-clause-fewer : goal.returns-then-pass_if_all-clause-fewer
returns-then-pass_if_all-clause-fewer c = (outer c).fewer

inner : (c : goal.After-pass_if_all-else-pass_if_all) → AttributeTold c.args.has_docs c.pass_if_all-else-pass_if_all.result c.args.token.now c.args.lexer.now c.pass_if_all-else-pass_if_all.new.lexer
inner c =
    let left = c.if-pass_if_all.ensures.same refl in
    let tried = c.pass_if_all-else-pass_if_all.ensures in
    let first = ap (behind_tests inner_doc_list) (sym left) in
    inner_told c.args.has_docs c.pass_if_all-else-pass_if_all.result c.args.token.now c.args.lexer.now c.pass_if_all-else-pass_if_all.new.lexer c.if-has_docs.false (sym c.symbol.ensures ∙ c.if-symbol-ne35.false)
    (c.if-pass_if_all.ensures.none refl) (λ e. first ∙ tried.all e) (λ e. first ∙ tried.none e) (λ e. tried.same e ∙ left) c.requires

pub returns-else-pass_if_all-clause-same : goal.returns-else-pass_if_all-clause-same
returns-else-pass_if_all-clause-same c = (inner c).same

pub returns-else-pass_if_all-clause-after : goal.returns-else-pass_if_all-clause-after
returns-else-pass_if_all-clause-after c = (inner c).after

pub returns-else-pass_if_all-clause-fewer : goal.returns-else-pass_if_all-clause-fewer
returns-else-pass_if_all-clause-fewer c = (inner c).fewer
