use Rattle.std.proofs.Common.{rules, ◌≡◌, ◌∙◌, List, map, option_map, sym, ap, length}
use Rattle.std.specs.Vec.{with_items}
use Rattle.std.proofs.lemmas.List.{with_items_is}
use Rattle.hir_input.specs.declared.ast.Item.{Item}
use Rattle.hir_input.specs.Syntax.{ItemView, item_view, module_from, named_from}
use Rattle.rust_items.specs.Ids.{held_with_ids, list_with_ids}
use Rattle.rust_items.specs.Views.{supply_view}
use Rattle.rust_items.proofs.Numbering.{module_fields, module_listed}
use Rattle.rust_items.proofs.ids.+ids.Goals as goal

pub number_module-returns-in-Some : goal.number_module-returns-in-Some
number_module-returns-in-Some t c =
    let m = c.args.node.now in
    let n = named_from m.hash m.number m.attrs.items m.name m.visibility m.body in
    let before = supply_view c.args.supply.now in
    let after = supply_view c.number_items.new.supply in
    let given = c.in-Some.items in
    let made = with_items given c.number_items.new.items in
    let long : length c.number_items.new.items ≡ given.len = search rules in
    let is : made.items ≡ c.number_items.new.items = with_items_is given c.number_items.new.items long in
    let told : list_with_ids (map item_view given.items) before ≡ (map item_view made.items, after) =
    ap (λ (l : List Item). list_with_ids (map item_view l) before) (sym c.deref_mut.ensures.value) ∙ c.number_items.ensures ∙ ap (λ (l : List Item). (map item_view l, after)) (sym is) in
    ap (λ (v : ItemView). held_with_ids c.args.id v before) (module_fields m)
    ∙ ap (λ o. held_with_ids c.args.id (module_from n m.semicolon (option_map (λ v. map item_view v.items) o)) before) c.in-Some.is
    ∙ module_listed c.args.id n m.semicolon (map item_view given.items) (map item_view made.items) before after told
    ∙ ap (λ (v : ItemView). (v, after)) (sym (module_fields _))
