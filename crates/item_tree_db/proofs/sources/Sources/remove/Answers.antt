use Rattle.item_tree_db.proofs.Steps.{removed_made}
use Rattle.item_tree_db.proofs.sources.Sources.remove.Goals as goal

pub invariant_of-self : goal.invariant_of-self
invariant_of-self c =
    let i = c.self.inside in
    let made = removed_made i.crates.items i.skipped.items i.start i.number i.places c.remove.new.self c.args.self.now c.self.invariant.sound c.self.view_is c.args.place c.remove.ensures in
    record { few = c.self.invariant.few; sound = made.sound; empty = c.self.invariant.empty }

pub returns : goal.returns
returns c = let i = c.self.inside in (removed_made i.crates.items i.skipped.items i.start i.number i.places c.remove.new.self c.args.self.now c.self.invariant.sound c.self.view_is c.args.place c.remove.ensures).after
