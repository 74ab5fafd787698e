use Rattle.std.proofs.Common.{ap, sym, ◌∙◌, arith, filter}
use Rattle.rust_cursor.proofs.Common.{is_significant, left_of}
use Rattle.rust_cursor.proofs.UnkeptTexts.{leads_first, leads_through, some_left}
use Rattle.rust_cursor.proofs.cursor.Cursor.pass_inside.Goals as goal

pub nest_inside-requires-clause-braces : goal.nest_inside-requires-clause-braces
nest_inside-requires-clause-braces c =
    let some = some_left c.args.self.now c.args.nest.now (sym c.is_inside.ensures ∙ c.if-not-is_inside.false) in
    omega (arith, some, c.requires.braces)

pub nest_inside-requires-clause-inner : goal.nest_inside-requires-clause-inner
nest_inside-requires-clause-inner c =
    let some = some_left c.args.self.now c.args.nest.now (sym c.is_inside.ensures ∙ c.if-not-is_inside.false) in
    omega (arith, some, c.requires.inner)

pub pass_braced-requires-clause-braces : goal.pass_braced-requires-clause-braces
pass_braced-requires-clause-braces c =
    let first = leads_first c.args.self.now c.args.nest.now c.nest_inside.new.nest c.self.inside.next c.in-Some.token c.self.inside.lexer c.end-self-inside.result
    (ap (λ z. z.left) c.self.view_is) c.in-Some.is (sym c.is_inside.ensures ∙ c.if-not-is_inside.false) c.nest_inside.ensures c.end-self-inside.ensures in
    let short = c.pass_shortly.ensures.passed 0 in
    omega (arith, first.braces, short.braces, c.requires.braces)

pub pass_braced-requires-clause-inner : goal.pass_braced-requires-clause-inner
pass_braced-requires-clause-inner c =
    let first = leads_first c.args.self.now c.args.nest.now c.nest_inside.new.nest c.self.inside.next c.in-Some.token c.self.inside.lexer c.end-self-inside.result
    (ap (λ z. z.left) c.self.view_is) c.in-Some.is (sym c.is_inside.ensures ∙ c.if-not-is_inside.false) c.nest_inside.ensures c.end-self-inside.ensures in
    let short = c.pass_shortly.ensures.passed 0 in
    omega (arith, first.inner, short.inner, c.requires.inner)

pub invariant_of-self : goal.invariant_of-self
invariant_of-self c =
    let first = leads_first c.args.self.now c.args.nest.now c.nest_inside.new.nest c.self.inside.next c.in-Some.token c.self.inside.lexer c.end-self-inside.result
    (ap (λ z. z.left) c.self.view_is) c.in-Some.is (sym c.is_inside.ensures ∙ c.if-not-is_inside.false) c.nest_inside.ensures c.end-self-inside.ensures in
    let short = c.pass_shortly.ensures.passed 0 in
    omega (arith, first.fewer, short.fewer, c.pass_braced.ensures.passed.fewer, c.requires.braces)

pub returns-clause-passed : goal.returns-clause-passed
returns-clause-passed c =
    let p = c.end-self-inside.result in
    let q = c.pass_braced.new.past in
    let far = filter is_significant c.pass_shortly.new.lexer in
    let behind = filter is_significant c.self.inside.lexer in
    let rest = left_of c.pass_braced.new.next c.pass_braced.new.lexer in
    let first = leads_first c.args.self.now c.args.nest.now c.nest_inside.new.nest c.self.inside.next c.in-Some.token c.self.inside.lexer c.end-self-inside.result
    (ap (λ z. z.left) c.self.view_is) c.in-Some.is (sym c.is_inside.ensures ∙ c.if-not-is_inside.false) c.nest_inside.ensures c.end-self-inside.ensures in
    leads_through c.args.self.now.past p q c.args.self.now.left behind rest c.args.nest.now c.nest_inside.new.nest c.pass_braced.new.nest first
    (leads_through p p q behind far rest c.nest_inside.new.nest c.pass_shortly.new.nest c.pass_braced.new.nest (c.pass_shortly.ensures.passed p) c.pass_braced.ensures.passed)
