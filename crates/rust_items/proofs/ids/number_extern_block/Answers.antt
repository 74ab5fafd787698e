use Rattle.std.proofs.Common.{rules, ◌≡◌, ◌∙◌, List, map, option_map, sym, ap, length}
use Rattle.std.specs.Vec.{with_items}
use Rattle.std.proofs.lemmas.List.{with_items_is}
use Rattle.hir_input.specs.declared.ast.ExternItem.{ExternItem}
use Rattle.hir_input.specs.Syntax.{extern_item_view, extern_block_from, node_from}
use Rattle.rust_items.specs.Ids.{held_with_ids, list_with_ids}
use Rattle.rust_items.specs.Views.{supply_view}
use Rattle.rust_items.proofs.Numbering.{extern_listed}
use Rattle.rust_items.proofs.ids.number_extern_block.Goals as goal

pub returns-in-Some : goal.returns-in-Some
returns-in-Some c =
    let b = c.args.block.now in
    let n = node_from b.hash b.number b.attrs.items b.body in
    let before = supply_view c.args.supply.now in
    let after = supply_view c.number_externs.new.supply in
    let given = c.in-Some.items in
    let made = with_items given c.number_externs.new.items in
    let long : length c.number_externs.new.items ≡ given.len = search rules in
    let is : made.items ≡ c.number_externs.new.items = with_items_is given c.number_externs.new.items long in
    let told : list_with_ids (map extern_item_view given.items) before ≡ (map extern_item_view made.items, after) =
    ap (λ (l : List ExternItem). list_with_ids (map extern_item_view l) before) (sym c.deref_mut.ensures.value) ∙ c.number_externs.ensures ∙ ap (λ (l : List ExternItem). (map extern_item_view l, after)) (sym is) in
    ap (λ o. held_with_ids c.args.id (extern_block_from n (option_map (λ v. map extern_item_view v.items) o)) before) c.in-Some.is
    ∙ extern_listed c.args.id n (map extern_item_view given.items) (map extern_item_view made.items) before after told
