use Rattle.std.proofs.Common.{◌≡◌, map, take}
use Rattle.hir_input.proofs.Common.{meta_view}
use Rattle.hir_input.proofs.attr.+clone_meta.Given as goal

abbrev pub invariant-loop-i : goal.invariant-loop-i
invariant-loop-i l = map meta_view l.metas.items ≡ map meta_view (take l.i l.inner.items)
