use Rattle.std.proofs.Common.{◌≡◌, map, drop}
use Rattle.hir_input.specs.declared.cfg.CfgExpr.{CfgExpr}
use Rattle.hir_input.specs.Cfg.{cfg_view}
use Rattle.source_imports.specs.ImportExclusion.{cfg_excludes, some_or_each}
use Rattle.source_imports.proofs.import_exclusion.+condition.Given as goal

-- the tests of what is left tell what those of all do
abbrev pub invariant-members_exclude-loop-member : goal.invariant-members_exclude-loop-member
invariant-members_exclude-loop-member l =
    let exclusion = λ (c : CfgExpr). cfg_excludes l.is_true (cfg_view c) l.is_other_true (cfg_view l.other) in
    some_or_each l.is_some (map exclusion (drop l.member-index l.members)) ≡ some_or_each l.is_some (map exclusion l.members)
