use Rattle.std.proofs.Common.{◌≡◌, ◌≤◌, [], ◌∷◌, Some, Ok, IfSome, option_copied, rules, string_bytes, sym, ap, subst, ◌∙◌}
use Rattle.text_session.proofs.Common.{bytes_eq-Decides, last_number, MakesAlone, set_text, spliced_text, text_in}
use Rattle.text_session.proofs.BodyEdits.{set_by_change, set_by_itself}
use Rattle.text_session.proofs.inside.set_inside.Goals as goal

pub returns-then-eq : goal.returns-then-eq
returns-then-eq c =
    let text = c.in-Some.text.now in
    let old = c.args.texts.now.entries in
    let found = c.set_again.result in
    let had : text_in old c.args.file.0 ≡ Some text = sym c.text_of.ensures ∙ ap option_copied c.in-Some.is in
    let own : c.as_str.result.now ≡ c.args.new.now = (bytes_eq-Decides c.as_str.result.now c.args.new.now).0 (sym c.eq.ensures ∙ c.if-eq.true) in
    let same : c.args.new.now ≡ string_bytes text.text = sym own ∙ c.as_str.ensures.value in
    let small : IfSome found (λ n. n ≤ last_number) = search rules in
    let e = c.set_again.ensures in
    let made = set_by_itself c.args.sources.now c.set_again.new.self old c.args.file.0 text c.args.new.now found had same e.footing e.again e.number small e.none in
    subst (λ b. MakesAlone c.args.sources.now old (set_text c.args.file.0 c.args.new.now ∷ []) c.set_again.new.self old (Ok b)) (sym c.is_some.ensures) made

pub returns : goal.returns
returns c =
    let text = c.in-Some.text.now in
    let old = c.args.texts.now.entries in
    let had : text_in old c.args.file.0 ≡ Some text = sym c.text_of.ensures ∙ ap option_copied c.in-Some.is in
    let range = c.in-Some-difference.range in
    let typed = c.in-Some-difference.typed.now in
    let differ : c.args.new.now ≡ spliced_text c.deref.result.now range typed = search rules in
    let made = subst (λ t. c.args.new.now ≡ spliced_text t range typed) c.deref.ensures differ in
    set_by_change c.args.sources.now c.change_inside.new.sources old c.change_inside.new.texts.entries c.args.file.0 range typed c.args.new.now text c.change_inside.result had made c.change_inside.ensures
