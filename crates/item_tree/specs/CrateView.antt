-- A crate, as far as its trees depend on it, as plain data.
use Rattle.std.specs.Prelude.{List, map}
use Rattle.hir_input.specs.declared.ids.HirFileId.{HirFileId}
use Rattle.hir_input.specs.Attr.{MetaView, meta_view}
use Rattle.hir_input.specs.Cfg.{AtomView}
use Rattle.item_tree.specs.declared.crate_data.CrateData.{CrateData}

-- the file of its root module, the options that are set, and its attributes
pub record CrateView : Type 0 where
  pub root : HirFileId
  pub options : List AtomView
  pub attrs : List MetaView

-- a crate as plain data
abbrev pub crate_view : CrateData → CrateView
crate_view k = record { root = k.root; options = k.cfg; attrs = map meta_view k.attrs.items }
