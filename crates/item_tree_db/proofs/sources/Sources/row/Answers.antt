use Rattle.item_tree_db.proofs.Common.{table_from}
use Rattle.item_tree_db.proofs.Steps.{row_seen}
use Rattle.item_tree_db.proofs.sources.Sources.row.Goals as goal

pub returns : goal.returns
returns c = let i = c.self.inside in row_seen (table_from i.crates.items i.skipped.items i.start i.number i.places) c.args.place c.self.invariant.sound c.args.self.now c.self.view_is c.args.krate.0 c.requires _ c.row.ensures
