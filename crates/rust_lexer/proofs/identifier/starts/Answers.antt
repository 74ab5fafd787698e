use Rattle.std.proofs.Common.{◌≡◌, ℕ, Option, Some, None, refl, ap, ◌∙◌, option_map}
use Rattle.std.proofs.lemmas.Iterator.{YieldsList-from_chars}
use Rattle.std.proofs.lemmas.Iterator.Consumers.{nth_from_yields_List}
use Rattle.rust_lexer.specs.Identifier.{may_start}
use Rattle.rust_lexer.proofs.identifier.starts.Goals as goal

itself : (o : Option ℕ) → o ≡ option_map (λ c. c) o
itself None = refl
itself (Some c) = refl

pub returns : goal.returns
returns c =
    c.is_start.ensures
    ∙ ap may_start (itself c.nth.result ∙ nth_from_yields_List c.nth.result _ 0 c.nth.ensures.ran (YieldsList-from_chars c.args.word.now c.utf8.word cc))
