use Rattle.std.proofs.Common.{◌++◌, take, map, option_map, sym, ap, ◌∙◌, append_assoc}
use Rattle.std.specs.{List.filter_map, Option.option_to_list}
use Rattle.def_map.specs.CrateView.{declared_view}
use Rattle.def_map.specs.Lowering.{declaration_by}
use Rattle.def_map.specs.Seeding.{declaration_seed}
use Rattle.def_map.proofs.Outsiders.{kept_and_mapped_more}
use Rattle.def_map.proofs.seeds.push_declarations.Goals as goal

pub loop-declared-preserved : goal.loop-declared-preserved
loop-declared-preserved c =
    let by = declaration_by c.args.numbers.now in let i = c.loop-declared.declared-index in let rows = c.args.declarations.now in
    let done = map declaration_seed (filter_map by (map declared_view (take i rows))) in
    let before = c.args.seeds.now.items in
    c.in_ok-push_seed.ensures ∙ ap (λ l. l ++ option_to_list c.declaration_seed.result) c.loop-declared.invariant ∙ append_assoc before done _
    ∙ ap (λ l. before ++ l) (ap (λ o. done ++ option_to_list o) (c.declaration_seed.ensures ∙ ap (λ x. option_map declaration_seed (by (declared_view x))) c.declared-item.is)
    ∙ sym (kept_and_mapped_more declaration_seed by declared_view rows i _ c.loop-declared-test.true))
