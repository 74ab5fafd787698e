use Rattle.std.proofs.Common.{sym, ◌∙◌, arith}
use Rattle.rust_cursor.proofs.Common.{reach_end}
use Rattle.rust_cursor.proofs.Nesting.{fewer, room, counted_on}
use Rattle.rust_cursor.proofs.Reaches.{reaching_some, reaching_turn}
use Rattle.rust_cursor.proofs.cursor.Cursor.pass_reach.Goals as goal

pub nest_behind-requires : goal.nest_behind-requires
nest_behind-requires c =
    room c.tokens.nest c.tokens.self (reaching_some c.args.reach c.tokens.nest c.tokens.self (sym c.is_reached.ensures ∙ c.tokens-test.true)) c.tokens.invariant.counted

pub tokens-smaller : goal.tokens-smaller
tokens-smaller c =
    let some = reaching_some c.args.reach c.tokens.nest c.tokens.self (sym c.is_reached.ensures ∙ c.tokens-test.true) in
    let less = fewer c.tokens.nest c.nest_behind.new.nest c.tokens.self c.bump.new.self some c.nest_behind.ensures c.bump.ensures in
    omega (arith, less.left)

pub tokens-preserved : goal.tokens-preserved
tokens-preserved c =
    let some = reaching_some c.args.reach c.tokens.nest c.tokens.self (sym c.is_reached.ensures ∙ c.tokens-test.true) in
    let less = fewer c.tokens.nest c.nest_behind.new.nest c.tokens.self c.bump.new.self some c.nest_behind.ensures c.bump.ensures in
    record {
      same = reaching_turn c.args.reach c.tokens.nest c.nest_behind.new.nest c.tokens.self c.bump.new.self (reach_end c.args.reach c.args.self.now)
          (sym c.is_reached.ensures ∙ c.tokens-test.true) c.nest_behind.ensures (sym c.is_closed.ensures ∙ c.if-is_closed.false) c.bump.ensures c.tokens.invariant.same;
      counted = counted_on less c.tokens.invariant.counted;
    }
