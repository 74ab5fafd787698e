use Rattle.std.proofs.Common.{◌++◌, take, map, sym, ap, subst, ◌∙◌}
use Rattle.std.specs.List.{filter_map}
use Rattle.std.specs.Option.{option_to_list}
use Rattle.def_map.specs.declared.rows.ItemKey.{ItemKey}
use Rattle.def_map.specs.CrateView.{declared_view}
use Rattle.def_map.specs.Numbering.{Interns, item_eq, has_number, declared_item}
use Rattle.def_map.proofs.Interning.{interns_both, mapped_more}
use Rattle.def_map.proofs.numbers.push_declared.Goals as goal

pub loop-declared-preserved : goal.loop-declared-preserved
loop-declared-preserved c =
    let of = λ (key : ItemKey). key in
    let i = c.loop-declared.declared-index in let rows = c.args.declarations.now in let asked = declared_item (has_number c.args.symbols.now.keys) in
    let done = filter_map asked (map declared_view (take i rows)) in
    subst (Interns item_eq of c.args.items.now.keys c.push_item.new.items.keys)
    (ap (λ o. done ++ option_to_list o) (c.declared_item.ensures ∙ ap (λ d. asked (declared_view d)) c.declared-item.is) ∙ sym (mapped_more asked declared_view rows i _ c.loop-declared-test.true))
    (interns_both item_eq of c.args.items.now.keys c.loop-declared.items.keys c.push_item.new.items.keys done _ c.loop-declared.invariant c.in_ok-push_item.ensures)
