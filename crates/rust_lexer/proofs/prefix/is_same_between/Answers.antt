use Rattle.std.proofs.Common.{arith}
use Rattle.rust_lexer.proofs.Begins.{same_further}
use Rattle.rust_lexer.proofs.prefix.is_same_between.Goals as goal

pub returns-then-to-theirs : goal.returns-then-to-theirs
returns-then-to-theirs c = same_further c.args.from c.args.to c.args.ours.now c.args.theirs.now _ (omega arith) c.eq.ensures
