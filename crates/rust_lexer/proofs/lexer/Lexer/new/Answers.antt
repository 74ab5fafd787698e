use Rattle.rust_lexer.proofs.Laws.{few, lossless, not_empty, placed}
use Rattle.rust_lexer.proofs.lexer.Lexer.new.Goals as goal

pub returns-clause-lossless : goal.returns-clause-lossless
returns-clause-lossless c = lossless c.front_of.result 0 c.args.text.now

pub returns-clause-in_place : goal.returns-clause-in_place
returns-clause-in_place c = placed c.front_of.result 0 c.args.text.now

pub returns-clause-not_empty : goal.returns-clause-not_empty
returns-clause-not_empty c = not_empty c.front_of.result 0 c.args.text.now

pub returns-clause-few : goal.returns-clause-few
returns-clause-few c = few c.front_of.result 0 c.args.text.now
