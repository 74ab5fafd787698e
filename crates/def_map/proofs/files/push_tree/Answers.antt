use Rattle.std.proofs.Common.{◌≡◌, None, map, option_map, sym, ap, ◌∙◌}
use Rattle.std.proofs.lemmas.Result.{on_ok_weaker}
use Rattle.hir_input.specs.Cfg.{cfg_view}
use Rattle.def_map.specs.{Attributes.attr_marks, Inner.Walking.collected_in, Views.crate_row_view}
use Rattle.def_map.proofs.LentItems.{file_adds}
use Rattle.def_map.proofs.files.push_tree.Goals as goal

pub returns : goal.returns
returns c =
    let none : None ≡ (collected_in c.top_level_attrs-lent.result).false_cfg = ap (option_map (λ cfg. cfg_view cfg.now)) (sym c.in_default.is) ∙ c.false_cfg_in.ensures in
    on_ok_weaker c.push_items.result
    (file_adds c.args.ctx.now c.args.tree.now c.args.at c.top_level_attrs-lent.result c.marks_of-marks.result c.top_level_items.result.now
    (map crate_row_view c.args.rows.now.items) (map crate_row_view c.push_marked.new.rows.items) (map crate_row_view c.push_items.new.rows.items) c.top_level_attrs-lent.ensures none
    (c.marks_of-marks.ensures ∙ ap attr_marks c.attrs_in.ensures) c.top_level_items.ensures.stand c.in_ok-push_marked.ensures)
    c.push_items.ensures
