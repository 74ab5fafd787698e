use Rattle.std.proofs.Common.{◌≡◌, None, map, option_map, sym, ap, ◌∙◌}
use Rattle.std.proofs.lemmas.Result.{on_ok_weaker}
use Rattle.hir_input.specs.Cfg.{cfg_view}
use Rattle.item_tree.specs.Shown.{lent_kind}
use Rattle.def_map.specs.{Attributes.attr_marks, Inner.Walking.collected_in, Views.crate_row_view}
use Rattle.def_map.proofs.LentItems.{none_inside, some_inside}
use Rattle.def_map.proofs.walk.+walk.Goals as goal

pub push_item-returns-in_default-place_inside : goal.push_item-returns-in_default-place_inside
push_item-returns-in_default-place_inside t c =
    let none : None ≡ (collected_in c.attrs-lent.result).false_cfg = ap (option_map (λ cfg. cfg_view cfg.now)) (sym c.in_default.is) ∙ c.false_cfg_in.ensures in
    none_inside c.args.ctx.now c.args.tree.now c.args.place c.args.id (lent_kind c.index-item.result) c.attrs-lent.result c.ast_id.result c.marks_of-marks.result
    (map crate_row_view c.args.rows.now.items) (map crate_row_view c.push_marked.new.rows.items) (map crate_row_view c.push_own.new.rows.items) c.index-item.ensures c.attrs-lent.ensures c.ast_id.ensures none
    (c.marks_of-marks.ensures ∙ ap attr_marks c.attrs_in.ensures) c.in_ok-push_marked.ensures c.in_ok-push_own.ensures (sym c.in_default-place_inside.is ∙ c.place_inside.ensures)

pub push_item-returns : goal.push_item-returns
push_item-returns t c =
    let none : None ≡ (collected_in c.attrs-lent.result).false_cfg = ap (option_map (λ cfg. cfg_view cfg.now)) (sym c.in_default.is) ∙ c.false_cfg_in.ensures in
    on_ok_weaker c.push_items.result
    (some_inside c.args.ctx.now c.args.tree.now c.args.place c.args.id (lent_kind c.index-item.result) c.attrs-lent.result c.ast_id.result c.marks_of-marks.result c.in-Some-place_inside.inside c.children.result.now
    (map crate_row_view c.args.rows.now.items) (map crate_row_view c.push_marked.new.rows.items) (map crate_row_view c.push_own.new.rows.items) (map crate_row_view c.push_items.new.rows.items) c.index-item.ensures c.attrs-lent.ensures
    c.ast_id.ensures none (c.marks_of-marks.ensures ∙ ap attr_marks c.attrs_in.ensures) c.in_ok-push_marked.ensures c.in_ok-push_own.ensures (sym c.in-Some-place_inside.is ∙ c.place_inside.ensures)
    c.children.ensures.ids)
    c.push_items.ensures
