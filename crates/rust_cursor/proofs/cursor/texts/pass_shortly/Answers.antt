use Rattle.rust_cursor.proofs.UnkeptTexts.{depth_of, leads_same, outer_deep, outer_last, outer_leads}
use Rattle.rust_cursor.proofs.cursor.texts.pass_shortly.Goals as goal

pub returns-in-None-clause-passed : goal.returns-in-None-clause-passed
returns-in-None-clause-passed c = λ p. leads_same p c.args.lexer.now c.pass_braces.new.self c.args.nest.now c.in-None.ensures

pub returns-clause-passed : goal.returns-clause-passed
returns-clause-passed c = λ p. outer_leads c.args.nest.now c.args.lexer.now c.pass_braces.new.self (depth_of c.args.nest.now) c.in-Some.outer p p c.requires c.in-Some.ensures

pub returns-clause-some : goal.returns-clause-some
returns-clause-some c = outer_deep c.args.lexer.now c.pass_braces.new.self (depth_of c.args.nest.now) c.in-Some.outer c.in-Some.ensures

pub returns-clause-last : goal.returns-clause-last
returns-clause-last c = λ l. outer_last c.args.lexer.now c.pass_braces.new.self (depth_of c.args.nest.now) c.in-Some.outer l l c.in-Some.ensures
