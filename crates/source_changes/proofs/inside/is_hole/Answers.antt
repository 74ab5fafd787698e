use Rattle.std.proofs.Common.{◌∙◌}
use Rattle.rust_lexer.specs.Tokens.{tokens}
use Rattle.source_changes.specs.Bodies.{is_unseen}
use Rattle.source_changes.proofs.inside.is_hole.Goals as goal

pub returns : goal.returns
returns c = c.is_unseen.ensures ∙ (λ k. is_unseen (tokens (c.text_at-front.ensures k)) (tokens (c.text_at-inside.ensures k)))
