use Rattle.std.proofs.Common.{◌∙◌, ap, arith, refl, sym, string_bytes}
use Rattle.rust_cursor.proofs.Common.{more, taking, is_mark, nest_inside}
use Rattle.rust_cursor.proofs.BraceSteps.{inside}
use Rattle.rust_cursor.proofs.Nesting.{shorter, fewer}
use Rattle.rust_cursor.proofs.UnkeptTexts.{clipped_turn, text_kept, unkept}
use Rattle.rust_cursor.proofs.cursor.Cursor.take_inside.Goals as goal

pub nest_inside-requires-clause-braces : goal.nest_inside-requires-clause-braces
nest_inside-requires-clause-braces c =
    let is = inside c.args.extent c.tokens.nest (nest_inside c.tokens.nest c.tokens.self) c.tokens.self (sym c.is_inside.ensures ∙ c.tokens-test.true) refl in
    let less = shorter c.tokens.self is.some in
    omega (arith, c.tokens.invariant.braces, c.requires.braces)

pub nest_inside-requires-clause-inner : goal.nest_inside-requires-clause-inner
nest_inside-requires-clause-inner c =
    let is = inside c.args.extent c.tokens.nest (nest_inside c.tokens.nest c.tokens.self) c.tokens.self (sym c.is_inside.ensures ∙ c.tokens-test.true) refl in
    let less = shorter c.tokens.self is.some in
    omega (arith, c.tokens.invariant.inner, c.requires.inner)

pub tokens-smaller : goal.tokens-smaller
tokens-smaller c =
    let is = inside c.args.extent c.tokens.nest c.nest_inside.new.nest c.tokens.self (sym c.is_inside.ensures ∙ c.tokens-test.true) c.nest_inside.ensures in
    let less = fewer c.tokens.nest c.nest_inside.new.nest c.tokens.self c.bump_symbol.new.self is.some is.after c.bump_symbol.ensures.rest in
    omega (arith, less.left)

pub tokens-preserved : goal.tokens-preserved
tokens-preserved c =
    let is = inside c.args.extent c.tokens.nest c.nest_inside.new.nest c.tokens.self (sym c.is_inside.ensures ∙ c.tokens-test.true) c.nest_inside.ensures in
    let less = fewer c.tokens.nest c.nest_inside.new.nest c.tokens.self c.bump_symbol.new.self is.some is.after c.bump_symbol.ensures.rest in
    record {
      same = λ o. clipped_turn c.args.keeps_text c.args.extent (string_bytes c.tokens.text) (string_bytes c.push_text.new.text) c.tokens.last c.bump_symbol.result o o c.tokens.nest c.nest_inside.new.nest (is_mark c.tokens.nest.before) c.tokens.self c.bump_symbol.new.self
          (taking c.args.extent (string_bytes c.args.text.now) c.args.last.now o c.args.nest.now c.args.self.now)
          is.goes refl is.after is.more c.in_ok-push_text.ensures c.bump_symbol.ensures.value (is.opened o) c.bump_symbol.ensures.rest (c.tokens.invariant.same o);
      text = λ e. text_kept c.args.keeps_text (more c.args.extent c.tokens.last (string_bytes c.tokens.text) c.tokens.self) (string_bytes c.tokens.text) (string_bytes c.push_text.new.text) c.in_ok-push_text.ensures (c.tokens.invariant.text e);
      left = omega (arith, less.left, c.tokens.invariant.left);
      braces = omega (arith, less.braces, c.tokens.invariant.braces);
      inner = omega (arith, less.inner, c.tokens.invariant.inner);
      others = ap (λ k. k.others) c.nest_inside.ensures ∙ c.tokens.invariant.others;
      angles = ap (λ k. k.angles) c.nest_inside.ensures ∙ c.tokens.invariant.angles;
    }

pub returns-then-not-keeps_text-clause-same : goal.returns-then-not-keeps_text-clause-same
returns-then-not-keeps_text-clause-same c =
    λ o. unkept c.args.keeps_text c.args.self.now c.pass_inside.new.self c.args.nest.now c.pass_inside.new.nest c.if-not-keeps_text.true c.pass_inside.ensures.passed c.pass_inside.ensures.unended c.pass_inside.ensures.edition
    c.args.extent (string_bytes c.args.text.now) c.args.last.now o
