-- What a cfg disables is told by the metas that tell conditions.
use Rattle.std.proofs.Common.{◌≡◌, ◌||◌, List, [], ◌∷◌, refl, ap}
use Rattle.hir_input.specs.Attr.{MetaView, cfg_attr_meta, cfg_meta, metas_from, unsafe_meta}
use Rattle.hir_input.specs.Cfg.{AtomView}
use Rattle.rust_metas.proofs.Common.{kept_metas}
use Rattle.rust_metas.specs.declared.wanted.WantedMetas.TheVariants as wanted
use Rattle.source_rows.specs.Enabled.{any_disables, disables}

pub conditions_disable : (options : List AtomView) (ms : List MetaView) → any_disables options (metas_from (kept_metas wanted.Conditions ms)) ≡ any_disables options (metas_from ms)
unfolding kept_metas
conditions_disable options [] = refl
conditions_disable options (cfg_meta condition ∷ ms) = ap (λ b. disables options (cfg_meta condition) || b) (conditions_disable options ms)
conditions_disable options (cfg_attr_meta condition metas ∷ ms) = ap (λ b. disables options (cfg_attr_meta condition metas) || b) (conditions_disable options ms)
conditions_disable options (unsafe_meta inner ∷ ms) = ap (λ b. disables options (unsafe_meta inner) || b) (conditions_disable options ms)
conditions_disable options (_ ∷ ms) = conditions_disable options ms
