-- A code of collected values.
use Rattle.std.specs.{Prelude.List, Prelude.Option, Prelude.refl, Coded.Coded, Coded.code_by, Coded.coded×, Coded.coded_list, Coded.coded_option}
use Rattle.hir_input.specs.{declared.attr.Attr.Attr, Code.Attr.cfg_code, Cfg.CfgView}
use Rattle.hir_input.specs.contracts.attr.Attr as attr
use Rattle.item_tree_attrs.specs.Collected.{Collected}

abbrev pub collected_code : Coded Collected
collected_code =
    code_by (List Attr × Option CfgView)
    (coded× (coded_list attr.the_row.coded) (coded_option cfg_code))
    (λ c. (c.attrs, c.false_cfg))
    (λ p. record { attrs = p.0; false_cfg = p.1 })
    (λ _. refl)
