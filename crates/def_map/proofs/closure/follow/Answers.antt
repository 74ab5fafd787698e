use Rattle.std.proofs.Common.{subst, sym, refl, take}
use Rattle.std.specs.List.{All}
use Rattle.std.proofs.lemmas.List.{take_more}
use Rattle.std.proofs.lemmas.List.Elements.{All-nil}
use Rattle.def_map.specs.Inner.Closing.{PutsIf, AnswersFact, IsFactFollowed}
use Rattle.def_map.proofs.Closing.{reaches_none, reaches_follow, followed_more}
use Rattle.def_map.proofs.closure.follow.Goals as goal

pub loop-namespace-init : goal.loop-namespace-init
loop-namespace-init c = record { reaches = reaches_none _ _ _ _ refl; followed = All-nil (IsFactFollowed c.args.table.now c.args.fact c.args.found.now.keys); few = λ low. low }

pub loop-namespace-preserved : goal.loop-namespace-preserved
loop-namespace-preserved c =
    let puts = subst (λ o. PutsIf o c.loop-namespace.found.keys c.put_if.new.found.keys) c.follow.ensures c.put_if.ensures.puts in
    record {
      reaches = reaches_follow _ _ _ _ c.loop-namespace.found.keys _ c.loop-namespace.invariant.reaches puts;
      followed = subst (λ xs. All (IsFactFollowed c.args.table.now c.args.fact c.put_if.new.found.keys) xs) (sym (take_more c.args.namespaces.now c.loop-namespace.namespace-index _ c.loop-namespace-test.true))
          (followed_more c.args.table.now c.args.fact (take c.loop-namespace.namespace-index c.args.namespaces.now) _ c.loop-namespace.found.keys puts.more _ puts.grows c.loop-namespace.invariant.followed
          (subst (λ o. AnswersFact o c.put_if.new.found.keys) c.follow.ensures c.in_ok-put_if.ensures.has));
      few = λ low. c.in_ok-put_if.ensures.few (c.loop-namespace.invariant.few low);
    }

pub returns-in_err-put_if-clause-reaches : goal.returns-in_err-put_if-clause-reaches
returns-in_err-put_if-clause-reaches c =
    reaches_follow _ _ _ _ c.loop-namespace.found.keys _ c.loop-namespace.invariant.reaches
    (subst (λ o. PutsIf o c.loop-namespace.found.keys c.put_if.new.found.keys) c.follow.ensures c.put_if.ensures.puts)
