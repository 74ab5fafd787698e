use Rattle.std.proofs.Common.{◌++◌, take, map, sym, ap, subst, ◌∙◌}
use Rattle.std.specs.List.{filter_map}
use Rattle.std.specs.Option.{option_to_list}
use Rattle.def_map.specs.declared.facts.Declared.{Declared}
use Rattle.def_map.specs.CrateView.{declared_view}
use Rattle.def_map.specs.Lowering.{declared_eq, sure_by}
use Rattle.def_map.specs.Numbering.{Interns}
use Rattle.def_map.proofs.Interning.{interns_both, mapped_more}
use Rattle.def_map.proofs.lower.push_sure.Goals as goal

pub loop-declared-preserved : goal.loop-declared-preserved
loop-declared-preserved c =
    let of = λ (d : Declared). d in
    let i = c.loop-declared.declared-index in let rows = c.args.declarations.now in let sure = sure_by c.args.numbers.now in
    let done = filter_map sure (map declared_view (take i rows)) in
    subst (Interns declared_eq of c.args.all.now.keys c.push_declared.new.all.keys)
    (ap (λ o. done ++ option_to_list o) (c.sure_name.ensures ∙ ap (λ d. sure (declared_view d)) c.declared-item.is) ∙ sym (mapped_more sure declared_view rows i _ c.loop-declared-test.true))
    (interns_both declared_eq of c.args.all.now.keys c.loop-declared.all.keys c.push_declared.new.all.keys done _ c.loop-declared.invariant c.in_ok-push_declared.ensures)
