-- one more name, and the last
use Rattle.std.proofs.Common.{rules, refl, ap, ◌∙◌, ◌+◌, sym, map, drop}
use Rattle.serde_json.specs.View.{view}
use Rattle.hir_input_json.proofs.Writing.Common.{joined_items, each_data, name_data}
use Rattle.hir_input_json.proofs.Writing.Lists.{none_left, one_more}
use Rattle.hir_input_json.proofs.write.path.names_behind.Goals as goal

pub loop-name-preserved : goal.loop-name-preserved
loop-name-preserved c =
    one_more (each_data name_data) name_data (λ x xs. refl) _ c.args.names.now c.loop-name.name-index c.name-item.result c.loop-name.values.items c.in_ok-name_value.field-0
    (search rules) c.loop-name.invariant (search rules)
    ∙ ap (λ vs. joined_items (map view vs) (each_data name_data (drop (c.loop-name.name-index + 1) c.args.names.now))) (sym c.in_ok-push.ensures.items)

pub returns : goal.returns
returns c = none_left (each_data name_data) refl _ c.args.names.now c.loop-name.name-index c.loop-name.values.items (search rules) c.loop-name.invariant
