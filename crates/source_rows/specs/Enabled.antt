-- What a cfg disables.
use Rattle.std.specs.Prelude.{Bool, false, not, ◌&&◌, ◌||◌, List}
use Rattle.hir_input.specs.Attr.{MetaView, MetaViews, cfg_meta, cfg_attr_meta, unsafe_meta, no_metas, meta_and}
use Rattle.hir_input.specs.Cfg.{AtomView, truth}
use Rattle.item_tree_attrs.specs.Collected.{is_false}

-- a meta holds a cfg that is false under these options, perhaps in a `cfg_attr` that is not
abbrev mutual
  pub disables : List AtomView → MetaView → Bool
  disables options (cfg_meta cfg) = is_false (truth options cfg)
  disables options (cfg_attr_meta cfg metas) = not (is_false (truth options cfg)) && any_disables options metas
  disables options (unsafe_meta inner) = disables options inner
  disables options _ = false

  pub any_disables : List AtomView → MetaViews → Bool
  any_disables options no_metas = false
  any_disables options (meta_and m ms) = disables options m || any_disables options ms
