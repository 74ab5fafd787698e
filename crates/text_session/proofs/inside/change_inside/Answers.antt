use Rattle.std.proofs.Common.{◌≡◌, ◌≤◌, Some, IfSome, option_copied, rules, sym, ap, subst, ◌∙◌}
use Rattle.text_session.proofs.Common.{last_number, IsInside, text_in}
use Rattle.text_session.proofs.BodyEdits.{change_alone}
use Rattle.text_session.proofs.inside.change_inside.Goals as goal

pub returns : goal.returns
returns c =
    let text = c.in-Some.text.now in
    let old = c.args.texts.now.entries in
    let u = c.set_again.new.self in
    let had : text_in old c.args.file.0 ≡ Some text = sym c.text_of.ensures ∙ ap option_copied c.in-Some.is in
    let is = subst (λ f. IfSome f (IsInside text c.args.range c.args.typed.now)) c.in-Some-2.is c.in_ok-inside.ensures in
    let small : u.number ≤ last_number = search rules in
    change_alone c.args.sources.now u old c.args.file.0 text had c.set_again.ensures.footing c.retype.new.texts.entries c.args.range c.args.typed.now c.in-Some-2.inside is c.retype.ensures.here c.retype.ensures.others c.in-Some-set_again.ensures.again small
