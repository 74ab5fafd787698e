use Rattle.std.proofs.Common.{map, ap, not, ◌∙◌}
use Rattle.hir_input.proofs.CfgLemmas.{cfg_view-All, cfg_view-Any}
use Rattle.hir_input.specs.Cfg.{cfg_view}
use Rattle.source_imports.specs.ImportExclusion.{some_or_each}
unfoldable use Rattle.source_imports.specs.ImportExclusion.{cfg_excludes, cfg_exclusions}
use Rattle.source_imports.proofs.ImportExclusions.{cfg_exclusions-from}
use Rattle.source_imports.proofs.import_exclusion.+condition.Goals as goal

pub cfg_excludes-returns-in-All : goal.cfg_excludes-returns-in-All
unfolding cfg_excludes cfg_exclusions
cfg_excludes-returns-in-All t c =
    let p = c.args.is_true in
    let q = c.args.is_other_true in
    let d = cfg_view c.args.other.now in
    rw (c.in-All.is, cfg_view-All, cfg_exclusions-from) (c.members_exclude.ensures ∙ ap (λ ms. some_or_each p (map (λ m. cfg_excludes p (cfg_view m) q d) ms)) c.deref.ensures.value)

pub cfg_excludes-returns-in-Any : goal.cfg_excludes-returns-in-Any
unfolding cfg_excludes cfg_exclusions
cfg_excludes-returns-in-Any t c =
    let p = c.args.is_true in
    let q = c.args.is_other_true in
    let d = cfg_view c.args.other.now in
    rw (c.in-Any.is, cfg_view-Any, cfg_exclusions-from) (c.members_exclude-in-Any.ensures ∙ ap (λ ms. some_or_each (not p) (map (λ m. cfg_excludes p (cfg_view m) q d) ms)) c.deref-in-Any.ensures.value)
