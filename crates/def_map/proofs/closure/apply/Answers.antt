use Rattle.std.proofs.Common.{OnOk, Ok, Err, Result}
use Rattle.def_map.proofs.Closing.{reaches_both, applied_of}
use Rattle.def_map.proofs.closure.apply.Goals as goal

-- what is so where all went well
on_ok : {A E : Type 0} {P Q : Type 0} (r : Result A E) → (P → Q) → OnOk r P → OnOk r Q
on_ok (Ok x) h p = h p
on_ok (Err e) h p = p

pub returns-in_err-meet-clause-reaches : goal.returns-in_err-meet-clause-reaches
returns-in_err-meet-clause-reaches c = reaches_both _ _ _ _ _ c.follow.ensures.reaches c.meet.ensures.reaches

pub returns-clause-reaches : goal.returns-clause-reaches
returns-clause-reaches c = reaches_both _ _ _ _ _ (reaches_both _ _ _ _ _ c.follow.ensures.reaches c.meet.ensures.reaches) c.meet-2.ensures.reaches

pub returns-clause-applied : goal.returns-clause-applied
returns-clause-applied c =
    on_ok c.meet-2.result
    (λ met. applied_of _ _ _ _ _ _ _ _ _ c.follow.ensures.reaches c.meet.ensures.reaches c.meet-2.ensures.reaches c.in_ok-follow.ensures.followed c.in_ok-meet.ensures.met met)
    c.meet-2.ensures.met
