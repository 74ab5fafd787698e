-- A code of crates.
use Rattle.std.specs.Prelude.{List, refl}
use Rattle.std.specs.Coded.{Coded, code_by, coded×}
use Rattle.hir_input.specs.declared.ids.HirFileId.{HirFileId}
use Rattle.hir_input.specs.contracts.ids.HirFileId as file
use Rattle.hir_input.specs.Attr.{MetaView}
use Rattle.hir_input.specs.Cfg.{AtomView}
use Rattle.hir_input.specs.Code.Attr.{options_code, attrs_code}
use Rattle.item_tree.specs.CrateView.{CrateView}

abbrev pub crate_code : Coded CrateView
crate_code =
    code_by (HirFileId × (List AtomView × List MetaView))
    (coded× file.the_row.coded (coded× options_code attrs_code))
    (λ k. (k.root, (k.options, k.attrs)))
    (λ p. record { root = p.0; options = p.1.0; attrs = p.1.1 })
    (λ _. refl)
