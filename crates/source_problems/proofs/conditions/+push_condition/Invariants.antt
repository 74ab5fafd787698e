-- what is wrong with all is what was added, and behind it that of those that are left
use Rattle.std.proofs.Common.{◌≡◌, ◌++◌, map, drop}
use Rattle.hir_input.specs.Cfg.{cfg_view, cfgs_from}
use Rattle.source_problems.specs.Metas.{conditions_problems}
use Rattle.source_problems.proofs.conditions.+push_condition.Given as goal

abbrev pub invariant-loop-member : goal.invariant-loop-member
invariant-loop-member l = record {
  at : l.found.at ≡ l.fn.found.at;
  problems : l.found.problems.items ++ conditions_problems l.fn.found.at l.less (cfgs_from (map cfg_view (drop l.member-index l.member-items)))
      ≡ l.fn.found.problems.items ++ conditions_problems l.fn.found.at l.less (cfgs_from (map cfg_view l.member-items));
}
