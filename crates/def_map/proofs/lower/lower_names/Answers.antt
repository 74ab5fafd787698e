use Rattle.std.proofs.Common.{◌++◌, take, sym, ap, ◌∙◌}
use Rattle.std.specs.List.{filter_map}
use Rattle.std.specs.Option.{option_to_list}
use Rattle.def_map.specs.Lowering.{number_by}
use Rattle.def_map.proofs.Interning.{kept_more}
use Rattle.def_map.proofs.lower.lower_names.Goals as goal

pub loop-name-preserved : goal.loop-name-preserved
loop-name-preserved c =
    let number = number_by c.args.numbers.now in
    let done = filter_map number (take c.loop-name.name-index c.args.names.now) in
    c.in_ok-push_number.ensures ∙ ap (λ l. l ++ option_to_list c.symbol.result) c.loop-name.invariant
    ∙ ap (λ o. done ++ option_to_list o) (c.symbol.ensures ∙ ap number (c.text.ensures.value ∙ c.name-item.is)) ∙ sym (kept_more number c.args.names.now c.loop-name.name-index _ c.loop-name-test.true)
