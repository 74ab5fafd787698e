use Rattle.std.proofs.Common.{◌++◌, take, map, sym, ap, subst, ◌∙◌}
use Rattle.std.specs.List.{filter_map}
use Rattle.std.specs.Option.{option_to_list}
use Rattle.def_map.specs.declared.rows.ItemKey.{ItemKey}
use Rattle.def_map.specs.CrateView.{macro_view}
use Rattle.def_map.specs.Numbering.{Interns, item_eq, has_number, macro_item}
use Rattle.def_map.proofs.Interning.{interns_both, mapped_more}
use Rattle.def_map.proofs.numbers.push_macros.Goals as goal

pub loop-found-preserved : goal.loop-found-preserved
loop-found-preserved c =
    let of = λ (key : ItemKey). key in
    let i = c.loop-found.found-index in let rows = c.args.macros.now in let asked = macro_item (has_number c.args.symbols.now.keys) in
    let done = filter_map asked (map macro_view (take i rows)) in
    subst (Interns item_eq of c.args.items.now.keys c.push_item.new.items.keys)
    (ap (λ o. done ++ option_to_list o) (c.macro_item.ensures ∙ ap (λ d. asked (macro_view d)) c.found-item.is) ∙ sym (mapped_more asked macro_view rows i _ c.loop-found-test.true))
    (interns_both item_eq of c.args.items.now.keys c.loop-found.items.keys c.push_item.new.items.keys done _ c.loop-found.invariant c.in_ok-push_item.ensures)
