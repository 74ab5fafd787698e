use Rattle.std.proofs.Common.{rules, IsCharBoundary}
use Rattle.rust_edits.proofs.Common.{IsUncut}
use Rattle.rust_edits.proofs.ToldEdits.{uncut_front, uncut_replaced, uncut_back, uncut_shut}
use Rattle.rust_edits.proofs.Steps.{if_none, off}
use Rattle.rust_edits.proofs.parts.parts_of.Goals as goal

pub returns-in_err-front-clause-none : goal.returns-in_err-front-clause-none
returns-in_err-front-clause-none c =
    let y = c.in_ok-rest.rest.now in
    let n = c.in_ok-checked_sub-2.field-0 in
    if_none c.from_residual-in_err-front.result (IsUncut c.args.text.now c.args.body c.args.range)
    (uncut_front c.args.text.now c.args.body c.args.range c.in_ok-before.before.now (search rules) y n (search rules) (search rules) (search rules)
    (off c.cut-2.result (IsCharBoundary y n) c.cut-2.ensures.told c.in_err-front.was))

pub returns-in_err-replaced-clause-none : goal.returns-in_err-replaced-clause-none
returns-in_err-replaced-clause-none c =
    let y = c.in_ok-front.rest.now in
    let n = c.in_ok-checked_sub-3.field-0 in
    if_none c.from_residual-in_err-replaced.result (IsUncut c.args.text.now c.args.body c.args.range)
    (uncut_replaced c.args.text.now c.args.body c.args.range c.in_ok-before.before.now (search rules) c.in_ok-front.front.now (search rules) y n (search rules) (search rules) (search rules)
    (off c.cut-3.result (IsCharBoundary y n) c.cut-3.ensures.told c.in_err-replaced.was))

pub returns-in_err-back-clause-none : goal.returns-in_err-back-clause-none
returns-in_err-back-clause-none c =
    let y = c.in_ok-replaced.rest.now in
    let n = c.in_ok-checked_sub-5.field-0 in
    if_none c.from_residual-in_err-back.result (IsUncut c.args.text.now c.args.body c.args.range)
    (uncut_back c.args.text.now c.args.body c.args.range c.in_ok-before.before.now (search rules) c.in_ok-front.front.now (search rules) c.in_ok-replaced.replaced.now (search rules) y n
    (search rules) (search rules) (search rules) (off c.cut-4.result (IsCharBoundary y n) c.cut-4.ensures.told c.in_err-back.was))

pub returns-in_err-behind-clause-none : goal.returns-in_err-behind-clause-none
returns-in_err-behind-clause-none c =
    if_none c.from_residual-in_err-behind.result (IsUncut c.args.text.now c.args.body c.args.range)
    (uncut_shut c.args.text.now c.args.body c.args.range c.in_ok-before.before.now (search rules) c.in_ok-front.front.now (search rules) c.in_ok-replaced.replaced.now (search rules)
    c.in_ok-back.back.now c.in_ok-back.rest.now (search rules) (search rules) (search (rules, c.in_err-behind.ensures.none)))
