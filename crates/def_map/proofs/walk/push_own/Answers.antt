use Rattle.std.proofs.Common.{List, option_map, sym, ap, subst, ◌∙◌}
use Rattle.std.specs.Result.{OnOk}
use Rattle.item_tree.specs.Shown.{lent_kind}
use Rattle.def_map.specs.{Inner.Walking.plain_view, Inner.Walking.AddsRows, Tables.CrateRow}
use Rattle.def_map.proofs.LentItems.{own_plain, own_other}
use Rattle.def_map.proofs.walk.push_own.Goals as goal

pub returns-in-Some : goal.returns-in-Some
returns-in-Some c =
    let plain = ap (option_map plain_view) (sym c.in-Some.is) ∙ c.plain_item.ensures in
    subst (λ (rows : List CrateRow). OnOk c.push_plain.result (AddsRows c.args.rows.now.items c.push_plain.new.rows.items rows))
    (sym (own_plain c.args.ctx.now c.args.tree.now c.args.owner.now (lent_kind c.args.item) (plain_view c.in-Some.plain) (sym plain))) c.push_plain.ensures

pub returns-in-None : goal.returns-in-None
returns-in-None c =
    let none = ap (option_map plain_view) (sym c.in-None.is) ∙ c.plain_item.ensures in
    subst (λ (rows : List CrateRow). OnOk c.push_other.result (AddsRows c.args.rows.now.items c.push_other.new.rows.items rows))
    (sym (own_other c.args.ctx.now c.args.tree.now c.args.owner.now (lent_kind c.args.item) (sym none))) c.push_other.ensures
