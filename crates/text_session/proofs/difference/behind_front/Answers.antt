use Rattle.std.proofs.Common.{◌≡◌, length, take-append-drop, sym, ◌∙◌}
use Rattle.text_session.proofs.Common.{bytes_eq-Decides}
use Rattle.text_session.proofs.difference.behind_front.Goals as goal

pub returns-then-eq : goal.returns-then-eq
returns-then-eq c =
    let same : c.in_ok-start.start.now ≡ c.args.front.now = (bytes_eq-Decides c.in_ok-start.start.now c.args.front.now).0 (sym c.eq.ensures ∙ c.if-eq.true) in
    let whole = take-append-drop (length c.args.front.now) c.args.text.now in
    let front = c.in_ok-start.ensures.front in
    let back = c.in_ok-start.ensures.back in
    cc
