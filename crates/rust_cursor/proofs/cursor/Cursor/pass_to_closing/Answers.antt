use Rattle.std.proofs.Common.{refl, sym, ◌∙◌, arith}
use Rattle.rust_cursor.proofs.Common.{to_closing, nest_behind}
use Rattle.rust_cursor.proofs.Nesting.{shorter, fewer}
use Rattle.rust_cursor.proofs.Steps.{closing_some}
use Rattle.rust_cursor.proofs.ClosingBrace.{closing_counted}
use Rattle.rust_cursor.proofs.cursor.Cursor.pass_to_closing.Goals as goal

pub brackets_behind-requires-clause-braces : goal.brackets_behind-requires-clause-braces
brackets_behind-requires-clause-braces c =
    let some = closing_some c.args.bracket c.tokens.nest c.tokens.self (sym c.is_closing.ensures ∙ c.tokens-test.true) in
    let less = shorter c.tokens.self some in
    omega (arith, c.tokens.invariant.braces)

pub brackets_behind-requires-clause-others : goal.brackets_behind-requires-clause-others
brackets_behind-requires-clause-others c =
    let some = closing_some c.args.bracket c.tokens.nest c.tokens.self (sym c.is_closing.ensures ∙ c.tokens-test.true) in
    let less = shorter c.tokens.self some in
    omega (arith, c.tokens.invariant.others)

pub tokens-smaller : goal.tokens-smaller
tokens-smaller c =
    let some = closing_some c.args.bracket c.tokens.nest c.tokens.self (sym c.is_closing.ensures ∙ c.tokens-test.true) in
    let less = fewer c.tokens.nest (nest_behind c.tokens.nest c.tokens.self) c.tokens.self c.bump.new.self some refl c.bump.ensures in
    omega (arith, less.left)

pub tokens-preserved : goal.tokens-preserved
tokens-preserved c =
    let some = closing_some c.args.bracket c.tokens.nest c.tokens.self (sym c.is_closing.ensures ∙ c.tokens-test.true) in
    let less = fewer c.tokens.nest (nest_behind c.tokens.nest c.tokens.self) c.tokens.self c.bump.new.self some refl c.bump.ensures in
    record {
      same = closing_counted c.args.bracket c.tokens.nest c.brackets_behind.new.nest c.tokens.self c.bump.new.self (to_closing c.args.bracket c.args.self.now)
          (sym c.is_closing.ensures ∙ c.tokens-test.true) c.brackets_behind.ensures.braces c.brackets_behind.ensures.others c.bump.ensures c.tokens.invariant.same;
      braces = omega (arith, less.braces, c.brackets_behind.ensures.braces, c.tokens.invariant.braces);
      others = omega (arith, less.others, c.brackets_behind.ensures.others, c.tokens.invariant.others);
    }
