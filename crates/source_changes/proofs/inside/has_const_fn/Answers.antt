use Rattle.std.proofs.Common.{sym}
use Rattle.rust_lexer.specs.Tokens.{tokens}
use Rattle.source_changes.proofs.Words.{no_const_fn}
use Rattle.source_changes.proofs.inside.has_const_fn.Goals as goal

pub returns-then-not-may_have_word : goal.returns-then-not-may_have_word
returns-then-not-may_have_word c = sym (no_const_fn (tokens c.args.text.now) (c.may_have_word.ensures c.if-not-may_have_word.true))
