-- The cfgs of metas.
use Rattle.std.specs.Prelude.{Bool, not, List, [], ◌∷◌, ◌++◌, map}
use Rattle.std.specs.List.{list_any}
use Rattle.hir_input.specs.Attr.{MetaView, MetaViews, cfg_meta, cfg_attr_meta, unsafe_meta, no_metas, meta_and}
use Rattle.hir_input.specs.Cfg.{AtomView, CfgView, any_of, not_of, no_cfgs, cfg_and, truth}
use Rattle.item_tree_attrs.specs.Collected.{is_false}

-- a cfg that counts where a condition holds
abbrev pub cfg_where : CfgView → CfgView → CfgView
cfg_where condition cfg = any_of (cfg_and (not_of condition) (cfg_and cfg no_cfgs))

-- the cfgs of a meta: one in a `cfg_attr` counts where the condition of that holds
abbrev mutual
  pub meta_cfgs : MetaView → List CfgView
  meta_cfgs (cfg_meta cfg) = cfg ∷ []
  meta_cfgs (cfg_attr_meta condition metas) = map (cfg_where condition) (metas_cfgs metas)
  meta_cfgs (unsafe_meta inner) = meta_cfgs inner
  meta_cfgs _ = []

  pub metas_cfgs : MetaViews → List CfgView
  metas_cfgs no_metas = []
  metas_cfgs (meta_and m ms) = meta_cfgs m ++ metas_cfgs ms

-- none of these is false
abbrev pub holds_no_false : List AtomView → List CfgView → Bool
holds_no_false options cfgs = not (list_any (λ c. is_false (truth options c)) cfgs)
