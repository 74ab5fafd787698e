use Rattle.std.proofs.Common.{rules, ap, refl, subst}
use Rattle.httparse.specs.Grammar.{HasNoSection}
use Rattle.message_stream.proofs.Common.{err_from_is_err_and, feed_of}
use Rattle.message_stream.specs.Inner.{IsHeaderPart}
use Rattle.message_stream.proofs.HeaderParts.{cut_more, header_end, header_fed, header_more, header_shown, header_unsaid, header_whole}
use Rattle.message_stream.proofs.headers.read_header.Goals as goal
use Rattle.message_stream.proofs.headers.read_header.Goals.{in-Shown, in-Feed+in-More}

pub returns-in_err-ending : goal.returns-in_err-ending
returns-in_err-ending g c =
    let p = err_from_is_err_and c.from_residual.result c.from_residual.ensures.1 in
    rw (p.1, p.2) (cut_more _ _ _ _ c.loop-turn.header.items c.loop-turn.invariant.0 c.in_err-ending.ensures)

pub state_of-requires : goal.state_of-requires
state_of-requires g c = header_fed _ _ _ _ _ _ c.deref.ensures.value refl c.loop-turn.invariant.1 (subst (IsHeaderPart _ _ _ _) c.in-Feed.is c.in_ok-ending.ensures)

pub returns-in-NoLength : goal.returns-in-NoLength
returns-in-NoLength g c = header_unsaid _ _ _ _ _ _ _ c.deref.ensures.value c.loop-turn.invariant.0 c.in_ok-ending.ensures c.in-NoLength.ensures

pub returns-in-Length : goal.returns-in-Length
returns-in-Length g c = header_whole _ _ _ _ _ _ _ _ c.deref.ensures.value c.loop-turn.invariant.0 c.in_ok-ending.ensures (search rules) c.in-Length.ensures

pub returns-in-End : goal.returns-in-End
returns-in-End g c = header_end _ _ _ _ _ _ c.end_of.result c.deref-in-End.ensures.value c.loop-turn.invariant.0 c.loop-turn.invariant.1 (subst (IsHeaderPart _ _ _ _) c.in-End.is c.in_ok-ending.ensures) c.end_of.ensures

pub loop-turn-preserved : goal.loop-turn-preserved
loop-turn-preserved g c = (
  header_more _ _ _ _ _ _ c.loop-turn.invariant.0 c.in_ok-ending.ensures,
  elim c.match-ending.branch [
    | in-Shown w ↦ header_shown _ _ _ _ _ (ap feed_of w.in-Shown.is) c.loop-turn.invariant.1 c.in_ok-ending.ensures
    | in-Feed+in-More w ↦ subst HasNoSection w.deref.ensures.value w.in-More.ensures.0
  ],
)
