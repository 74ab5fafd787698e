use Rattle.std.proofs.Common.{subst, sym, refl, take}
use Rattle.std.specs.List.{All}
use Rattle.std.proofs.lemmas.List.{take_all, take_more}
use Rattle.std.proofs.lemmas.List.Elements.{All-nil}
use Rattle.def_map.specs.Inner.Closing.{PutsIf, AnswersFact, IsMet}
use Rattle.def_map.proofs.Closing.{reaches_none, reaches_meet, met_more}
use Rattle.def_map.proofs.closure.meet.Goals as goal

pub loop-place-init : goal.loop-place-init
loop-place-init c = record { reaches = reaches_none _ _ _ _ refl; met = All-nil (IsMet c.args.table.now c.args.fact c.args.found.now.keys c.args.found.now.keys); few = λ low. low }

pub loop-place-preserved : goal.loop-place-preserved
loop-place-preserved c =
    let puts = subst (λ o. PutsIf o c.loop-place.found.keys c.put_if.new.found.keys) c.meet_at.ensures c.put_if.ensures.puts in
    let so = c.loop-place.invariant.reaches in
    record {
      reaches = reaches_meet _ _ _ _ c.loop-place.found.keys _ so puts;
      met = subst (λ xs. All (IsMet c.args.table.now c.args.fact c.args.found.now.keys c.put_if.new.found.keys) xs) (sym (take_more c.args.places.now c.loop-place.place-index _ c.loop-place-test.true))
          (met_more c.args.table.now c.args.fact (take c.loop-place.place-index c.args.places.now) _ c.args.found.now.keys c.loop-place.found.keys _ so.more puts.more so.grows puts.grows
          c.loop-place.invariant.met (subst (λ o. AnswersFact o c.put_if.new.found.keys) c.meet_at.ensures c.in_ok-put_if.ensures.has));
      few = λ low. c.in_ok-put_if.ensures.few (c.loop-place.invariant.few low);
    }

pub returns-in_err-put_if-clause-reaches : goal.returns-in_err-put_if-clause-reaches
returns-in_err-put_if-clause-reaches c =
    reaches_meet _ _ _ _ c.loop-place.found.keys _ c.loop-place.invariant.reaches
    (subst (λ o. PutsIf o c.loop-place.found.keys c.put_if.new.found.keys) c.meet_at.ensures c.put_if.ensures.puts)

pub returns-clause-met : goal.returns-clause-met
returns-clause-met c =
    subst (All (IsMet c.args.table.now c.args.fact c.args.found.now.keys c.loop-place.found.keys)) (take_all c.loop-place.place-index c.args.places.now c.loop-place-test.false) c.loop-place.invariant.met
