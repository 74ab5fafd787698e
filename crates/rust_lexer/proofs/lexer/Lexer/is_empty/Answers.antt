use Rattle.std.proofs.Common.{◌∙◌, sym, ap}
use Rattle.rust_lexer.proofs.Common.{is_nil}
use Rattle.rust_lexer.proofs.EmptyTexts.{nil_left}
use Rattle.rust_lexer.proofs.lexer.Lexer.is_empty.Goals as goal

pub returns : goal.returns
returns c =
    c.is_empty.ensures ∙ sym (nil_left c.self.inside.front c.self.inside.at c.self.inside.rest.now) ∙ ap is_nil c.self.view_is
