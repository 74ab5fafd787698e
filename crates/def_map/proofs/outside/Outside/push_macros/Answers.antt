use Rattle.std.proofs.Common.{◌++◌, take, map, sym, ap, ◌∙◌, append_assoc}
use Rattle.std.specs.{List.filter_map, Option.option_to_list}
use Rattle.def_map.specs.CrateView.{macro_view}
use Rattle.def_map.specs.Lowering.{macro_by}
use Rattle.def_map.specs.Seeding.{macro_named, macros_in}
use Rattle.def_map.proofs.Outsiders.{twice_more}
use Rattle.def_map.proofs.outside.Outside.push_macros.Goals as goal

pub loop-found-preserved : goal.loop-found-preserved
loop-found-preserved c =
    let by = macro_by c.args.numbers.now in let i = c.loop-found.found-index in let rows = c.args.macros.now in
    record {
      others = c.in_ok-push_macro.ensures.others ∙ c.loop-found.invariant.others;
      macros = λ n.
          let done = filter_map (macro_named n) (filter_map by (map macro_view (take i rows))) in
          let before = macros_in c.args.self.now n in
          c.in_ok-push_macro.ensures.macros n ∙ ap (λ l. l ++ filter_map (macro_named n) (option_to_list (by (macro_view c.found-item.result)))) (c.loop-found.invariant.macros n)
          ∙ append_assoc before done _ ∙ ap (λ l. before ++ l) (ap (λ x. done ++ filter_map (macro_named n) (option_to_list (by (macro_view x)))) c.found-item.is
          ∙ sym (twice_more (macro_named n) by macro_view rows i _ c.loop-found-test.true));
    }
