-- what the metas that are left disable, all do
use Rattle.std.proofs.Common.{◌≡◌, map, drop}
use Rattle.hir_input.specs.Attr.{meta_view, metas_from}
use Rattle.source_rows.specs.Enabled as spec
use Rattle.source_rows.proofs.enabled.+disables.Given as goal

abbrev pub invariant-any_disables-loop-meta : goal.invariant-any_disables-loop-meta
invariant-any_disables-loop-meta l = spec.any_disables l.options (metas_from (map meta_view (drop l.meta-index l.metas))) ≡ spec.any_disables l.options (metas_from (map meta_view l.metas))
