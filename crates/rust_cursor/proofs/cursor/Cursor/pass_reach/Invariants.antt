use Rattle.std.proofs.Common.{◌≡◌, length}
use Rattle.rust_cursor.proofs.Common.{reach_from, reach_end}
use Rattle.rust_cursor.proofs.Nesting.{AreCounted}
use Rattle.rust_cursor.proofs.cursor.Cursor.pass_reach.Given as goal

abbrev pub invariant-tokens : goal.invariant-tokens
invariant-tokens l = record {
  same : reach_from l.reach l.nest l.self ≡ reach_end l.reach l.initial.self;
  counted : AreCounted l.nest l.self;
}

abbrev pub decreases-tokens : goal.decreases-tokens
decreases-tokens l = length l.self.left
