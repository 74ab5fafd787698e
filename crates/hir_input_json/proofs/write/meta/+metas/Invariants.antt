-- what is to be written is what was made, and behind it what is left
use Rattle.std.proofs.Common.{map}
use Rattle.hir_input_json.proofs.Writing.Common.{meta_view, metas_from, meta_data, metas_data}
use Rattle.hir_input_json.proofs.Writing.Lists.{HasMade}
use Rattle.hir_input_json.proofs.write.meta.+metas.Given as goal

abbrev pub invariant-meta_values-loop-meta : goal.invariant-meta_values-loop-meta
invariant-meta_values-loop-meta l = HasMade (λ m. meta_data (meta_view m)) (λ ms. metas_data (metas_from (map meta_view ms))) l.metas l.values.items l.meta-index
