use Rattle.std.proofs.Common.{map, ap, not, ◌∙◌}
use Rattle.hir_input.proofs.CfgLemmas.{cfg_view-All, cfg_view-Any}
use Rattle.hir_input.specs.Cfg.{atom_view, cfg_view}
use Rattle.source_imports.specs.ImportExclusion.{some_or_each}
unfoldable use Rattle.source_imports.specs.ImportExclusion.{atom_excludes, atom_exclusions}
use Rattle.source_imports.proofs.ImportExclusions.{atom_exclusions-from}
use Rattle.source_imports.proofs.import_exclusion.+atom.Goals as goal

pub atom_excludes-returns-in-All : goal.atom_excludes-returns-in-All
unfolding atom_excludes atom_exclusions
atom_excludes-returns-in-All t c =
    let p = c.args.is_true in
    let a = atom_view c.args.atom.now in
    let q = c.args.is_other_true in
    rw (c.in-All.is, cfg_view-All, atom_exclusions-from) (c.atom_excludes_members.ensures ∙ ap (λ ms. some_or_each q (map (λ m. atom_excludes p a q (cfg_view m)) ms)) c.deref.ensures.value)

pub atom_excludes-returns-in-Any : goal.atom_excludes-returns-in-Any
unfolding atom_excludes atom_exclusions
atom_excludes-returns-in-Any t c =
    let p = c.args.is_true in
    let a = atom_view c.args.atom.now in
    let q = c.args.is_other_true in
    rw (c.in-Any.is, cfg_view-Any, atom_exclusions-from) (c.atom_excludes_members-in-Any.ensures ∙ ap (λ ms. some_or_each (not q) (map (λ m. atom_excludes p a q (cfg_view m)) ms)) c.deref-in-Any.ensures.value)
