use Rattle.std.proofs.Common.{sym, ap, ◌∙◌}
use Rattle.rust_lexer.specs.Tokens.{tokens}
use Rattle.source_changes.specs.Bodies.{is_seen_beyond}
use Rattle.source_changes.specs.Hiding.{reaches_out}
use Rattle.source_changes.proofs.hiding.reaches_out.Goals as goal

pub returns-in-Some : goal.returns-in-Some
returns-in-Some c =
    c.is_seen_beyond.ensures ∙ (λ k. is_seen_beyond (tokens (c.text_at-item.ensures k)) (tokens (c.text_at-inside.ensures k))) ∙ sym (ap (reaches_out c.args.text.now c.args.range) c.in-Some.is)
