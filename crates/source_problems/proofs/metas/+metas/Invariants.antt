-- what is wrong with all is what was added, and behind it that of those that are left
use Rattle.std.proofs.Common.{◌≡◌, ◌++◌, map, drop}
use Rattle.hir_input.specs.Attr.{meta_view, metas_from}
use Rattle.source_problems.specs.Metas.{metas_problems}
use Rattle.source_problems.proofs.metas.+metas.Given as goal

abbrev pub invariant-push_metas-loop-meta : goal.invariant-push_metas-loop-meta
invariant-push_metas-loop-meta l = record {
  at : l.found.at ≡ l.fn.found.at;
  problems : l.found.problems.items ++ metas_problems l.fn.found.at l.left (metas_from (map meta_view (drop l.meta-index l.metas)))
      ≡ l.fn.found.problems.items ++ metas_problems l.fn.found.at l.left (metas_from (map meta_view l.metas));
}
