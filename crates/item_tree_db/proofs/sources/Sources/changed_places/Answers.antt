use Rattle.std.proofs.Common.{ℕ, Option, IfSome, subst}
use Rattle.std.proofs.lemmas.Result.{IfOk-weaker}
use Rattle.std.specs.BTreeSet.{BTreeSet}
use Rattle.item_tree_db.proofs.Common.{HoldLate, HoldNumbers, Place, State, table_from}
use Rattle.item_tree_db.proofs.Changes.{hold_late, places_since, since_among}
use Rattle.item_tree_db.proofs.sources.Sources.changed_places.Goals as goal

pub returns-in-Some : goal.returns-in-Some
returns-in-Some c =
    let i = c.self.inside in
    let s = c.args.self.now in
    let n = c.args.n in
    let keys = c.in-Some.places.keys in
    let found = subst (λ (o : Option (BTreeSet Place)). IfSome o (λ places. HoldNumbers c.max.result i.places places.keys)) c.in-Some.is c.in_ok-places.ensures in
    let numbers = subst (λ (m : ℕ). HoldNumbers m i.places keys) c.max.ensures found in
    let late = hold_late (table_from i.crates.items i.skipped.items i.start i.number i.places) c.self.invariant.sound n keys numbers in
    let since = since_among s n keys c.changed_among.result (subst (λ (z : State). HoldLate z n keys) c.self.view_is late) c.changed_among.ensures.among in
    IfOk-weaker c.places_of.result _ _ (λ places of. places_since s n c.changed_among.result places since of) c.places_of.ensures

pub returns-in-None : goal.returns-in-None
returns-in-None c = IfOk-weaker c.places_of-in-None.result _ _ (λ places of. places_since c.args.self.now c.args.n c.changed_since.result places c.changed_since.ensures.since of) c.places_of-in-None.ensures
