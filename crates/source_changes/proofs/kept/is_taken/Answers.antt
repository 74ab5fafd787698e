use Rattle.std.proofs.Common.{◌∙◌, ◌++◌, ◌+◌, ap, arith, length, sym}
use Rattle.rust_lexer.specs.Symbol.{symbol_of}
use Rattle.source_changes.specs.DocAttributes.{docs_as_comments}
use Rattle.source_changes.specs.Skeletons.{kept_tokens, not_over}
use Rattle.source_changes.proofs.AsComments.{still_behind}
use Rattle.source_changes.proofs.Holes.{kept_later, sooner, uncounted}
use Rattle.source_changes.proofs.kept.is_taken.Goals as goal

pub returns-then-not-counts-clause-same : goal.returns-then-not-counts-clause-same
returns-then-not-counts-clause-same c =
    let docs = c.args.left.now.has_docs in
    let t = c.args.token.now in
    let holes = c.args.left.now.holes.now in
    let before = symbol_of t in
    let ts = docs_as_comments docs 0 c.pass_doc_attribute.new.lexer in
    c.if-pass_doc_attribute.ensures.same holes c.args.left.now.before
    ∙ ap (λ l. l ++ kept_tokens docs (not_over t.at holes) before ts) (uncounted docs (not_over t.at holes) c.args.left.now.before t (sym c.counts.ensures ∙ c.if-not-counts.true))
    ∙ kept_later docs t.at (t.at + length t.text) holes before ts (omega arith) (still_behind docs 0 (t.at + length t.text) c.pass_doc_attribute.new.lexer c.if-pass_doc_attribute.ensures.after)
    ∙ ap (λ b. kept_tokens docs holes b ts) (sym c.symbol-left.ensures)

pub returns-then-pass_doc_attribute-clause-after : goal.returns-then-pass_doc_attribute-clause-after
returns-then-pass_doc_attribute-clause-after c = sooner _ _ _ (omega arith) c.if-pass_doc_attribute.ensures.after

pub returns-then-not-counts-clause-after : goal.returns-then-not-counts-clause-after
returns-then-not-counts-clause-after c = sooner _ _ _ (omega arith) c.if-pass_doc_attribute.ensures.after

pub returns-clause-after : goal.returns-clause-after
returns-clause-after c = sooner _ _ _ (omega arith) c.pass_hole.ensures.after
