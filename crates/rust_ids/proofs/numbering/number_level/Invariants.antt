use Rattle.std.proofs.Common.{◌≡◌, suc, eqb}
use Rattle.rust_ids.proofs.Common.{last_below, depth_at, IsNumbered, is_numbered_before}
use Rattle.rust_ids.proofs.numbering.number_level.Given as goal

abbrev pub invariant-loop-at : goal.invariant-loop-at
invariant-loop-at l = record {
  numbered : IsNumbered (is_numbered_before l.nodes l.depth l.at) l.nodes l.ids.items l.counts;
  around : l.around ≡ last_below (λ j. eqb (suc (depth_at l.nodes j)) l.depth) l.at;
}
