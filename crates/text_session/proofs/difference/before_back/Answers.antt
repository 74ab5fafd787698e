use Rattle.std.proofs.Common.{◌≡◌, take-append-drop, sym, ◌∙◌}
use Rattle.text_session.proofs.Common.{bytes_eq-Decides}
use Rattle.text_session.proofs.difference.before_back.Goals as goal

pub returns-then-eq : goal.returns-then-eq
returns-then-eq c =
    let same : c.in_ok-rest.end.now ≡ c.args.back.now = (bytes_eq-Decides c.in_ok-rest.end.now c.args.back.now).0 (sym c.eq.ensures ∙ c.if-eq.true) in
    let whole = take-append-drop c.in_ok-checked_sub.field-0 c.args.text.now in
    let front = c.in_ok-rest.ensures.front in
    let back = c.in_ok-rest.ensures.back in
    cc
