-- The equations of a meta's plain data.
use Rattle.std.proofs.Common.{◌≡◌, map, Vec, Global}
use Rattle.hir_input.proofs.Common.{CfgExpr, Meta, cfg_view, cfg_attr_meta, metas_from, meta_view}
use Rattle.hir_input.specs.declared.attr.Meta.{the_lemmas}
use Rattle.hir_input.specs.declared.attr.Meta.TheVariants.{CfgAttr}

pub meta_view-CfgAttr : (condition : CfgExpr) (metas : Vec Meta Global) → meta_view (CfgAttr condition metas) ≡ cfg_attr_meta (cfg_view condition) (metas_from (map meta_view metas.items))
meta_view-CfgAttr condition metas = simp the_lemmas

pub ruleset meta_views = (the_lemmas, meta_view-CfgAttr)
