use Rattle.std.proofs.Common.{◌≡◌, map, drop}
use Rattle.hir_input.specs.declared.cfg.CfgExpr.{CfgExpr}
use Rattle.hir_input.specs.Cfg.{atom_view, cfg_view}
use Rattle.source_imports.specs.ImportExclusion.{atom_excludes, some_or_each}
use Rattle.source_imports.proofs.import_exclusion.+atom.Given as goal

-- the tests of what is left tell what those of all do
abbrev pub invariant-atom_excludes_members-loop-member : goal.invariant-atom_excludes_members-loop-member
invariant-atom_excludes_members-loop-member l =
    let exclusion = λ (c : CfgExpr). atom_excludes l.is_true (atom_view l.atom) l.is_other_true (cfg_view c) in
    some_or_each l.is_some (map exclusion (drop l.member-index l.members)) ≡ some_or_each l.is_some (map exclusion l.members)
