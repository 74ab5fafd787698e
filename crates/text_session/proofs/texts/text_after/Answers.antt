use Rattle.std.proofs.Common.{◌≡◌, None, option_copied, rules, sym, ◌∙◌}
use Rattle.text_session.proofs.Common.{left_text, text_in}
use Rattle.text_session.proofs.KeptTexts.{skips_last, takes_last}
use Rattle.text_session.proofs.texts.text_after.Goals as goal

pub returns-in-Some-left_of : goal.returns-in-Some-left_of
returns-in-Some-left_of c =
    let last = c.in-Some.last.now in
    let text = option_copied c.in-Some-left_of.text in
    sym (takes_last (text_in c.args.texts.now.entries) c.loop-last.left.now c.in-Some.front.now last c.args.file text c.in-Some.ensures.cases.0 (sym c.in-Some-left_of.ensures)) ∙ c.loop-last.invariant

pub loop-last-preserved : goal.loop-last-preserved
loop-last-preserved c =
    let last = c.in-Some.last.now in
    let none : left_text c.args.file last ≡ None = search rules in
    sym (skips_last (text_in c.args.texts.now.entries) c.loop-last.left.now c.in-Some.front.now last c.args.file c.in-Some.ensures.cases.0 none) ∙ c.loop-last.invariant
