use Rattle.std.proofs.Common.{◌≡◌, ◌≤◌, take}
use Rattle.def_map.specs.Seeding.{macro_pairs, macros_in}
use Rattle.def_map.proofs.seeds.check_pairs.Given as goal

abbrev pub invariant-loop-import : goal.invariant-loop-import
invariant-loop-import l = record {
  counted : l.pairs ≡ macro_pairs (macros_in l.outside) (take l.import-index l.imports);
  few : l.pairs ≤ 2097152;
}
