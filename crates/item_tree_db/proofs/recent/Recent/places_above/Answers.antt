use Rattle.std.proofs.Common.{subst}
use Rattle.item_tree_db.proofs.Common.{IsStrictlySortedBy, noted_cmp}
use Rattle.item_tree_db.proofs.PlaceNumbers.{front_sorted, met_late, met_more}
use Rattle.item_tree_db.proofs.recent.Recent.places_above.Goals as goal

pub returns-then-number-bound : goal.returns-then-number-bound
returns-then-number-bound c =
    let i = c.loop-noted.invariant in
    met_late c.args.self.now c.args.bound c.loop-noted.noted-iterator.iter c.next.new.self.iter c.in-Some.noted.now c.loop-noted.places.keys c.if-bound-self.false i.sorted c.in-Some.ensures.steps c.if-number-bound.true i.met

pub loop-noted-preserved : goal.loop-noted-preserved
loop-noted-preserved c =
    let left = c.next.new.self.iter in
    let x = c.in-Some.noted.now in
    let steps = c.in-Some.ensures.steps in
    record {
      callable = tt;
      finite = tt;
      sorted = front_sorted noted_cmp left x (subst (IsStrictlySortedBy noted_cmp) steps c.loop-noted.invariant.sorted);
      met = met_more c.args.self.now c.loop-noted.noted-iterator.iter left x c.loop-noted.places c.insert.new.self steps c.in_ok-insert.ensures.updates c.loop-noted.invariant.met;
    }
