use Rattle.std.proofs.Common.{subst, sym, refl, take}
use Rattle.std.specs.List.{All, Contains}
use Rattle.std.proofs.lemmas.List.{take_all, take_more}
use Rattle.std.proofs.lemmas.List.Elements.{All-nil, Contains-get_or}
use Rattle.def_map.proofs.Closing.{seeds_more, seeds_none, all_seeds}
use Rattle.def_map.proofs.closure.put_seeds.Goals as goal

pub loop-fact-init : goal.loop-fact-init
loop-fact-init c = record { grows = seeds_none _ _ _ refl; has = All-nil (Contains c.args.found.now.keys); few = λ low. low }

pub loop-fact-preserved : goal.loop-fact-preserved
loop-fact-preserved c = record {
  grows = seeds_more _ _ _ c.loop-fact.found.keys _ (Contains-get_or c.args.seeds.now c.loop-fact.fact-index _ c.loop-fact-test.true) c.loop-fact.invariant.grows c.put_if.ensures.puts;
  has = subst (λ xs. All (Contains c.put_if.new.found.keys) xs) (sym (take_more c.args.seeds.now c.loop-fact.fact-index _ c.loop-fact-test.true))
      (all_seeds (take c.loop-fact.fact-index c.args.seeds.now) _ c.loop-fact.found.keys c.put_if.ensures.puts.more _ c.put_if.ensures.puts.grows c.loop-fact.invariant.has c.in_ok-put_if.ensures.has);
  few = λ low. c.in_ok-put_if.ensures.few (c.loop-fact.invariant.few low);
}

pub returns-in_err-put_if-clause-grows : goal.returns-in_err-put_if-clause-grows
returns-in_err-put_if-clause-grows c =
    seeds_more _ _ _ c.loop-fact.found.keys _ (Contains-get_or c.args.seeds.now c.loop-fact.fact-index _ c.loop-fact-test.true) c.loop-fact.invariant.grows c.put_if.ensures.puts

pub returns-clause-has : goal.returns-clause-has
returns-clause-has c = subst (All (Contains c.loop-fact.found.keys)) (take_all c.loop-fact.fact-index c.args.seeds.now c.loop-fact-test.false) c.loop-fact.invariant.has
