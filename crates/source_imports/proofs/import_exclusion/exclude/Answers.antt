use Rattle.std.proofs.Common.{◌∙◌, sym}
use Rattle.hir_input.specs.Cfg.{cfg_view}
use Rattle.source_imports.proofs.ImportExclusions.{never_true}
use Rattle.source_imports.proofs.import_exclusion.exclude.Goals as goal

pub returns-clause-law : goal.returns-clause-law
returns-clause-law c e = never_true (cfg_view c.args.cfg.now) (cfg_view c.args.other.now) (sym c.exclude_by_members.ensures ∙ e)
