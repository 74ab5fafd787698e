-- The cfgs of listed metas.
use Rattle.std.proofs.Common.{◌≡◌, List, [], ◌∷◌, ◌++◌, flat_map, refl, ap}
use Rattle.hir_input.specs.Attr.{MetaView, metas_from}
use Rattle.source_listing.specs.MetaCfgs.{meta_cfgs, metas_cfgs}

pub metas_are : (ms : List MetaView) → metas_cfgs (metas_from ms) ≡ flat_map meta_cfgs ms
metas_are [] = refl
metas_are (m ∷ ms) = ap (λ cs. meta_cfgs m ++ cs) (metas_are ms)
