use Rattle.std.proofs.Common.{ℕ, List, Bor, nat_eq, ◌++◌, take, sym, ap, subst, ◌∙◌}
use Rattle.std.specs.{List.filter_map, Option.option_to_list}
use Rattle.def_map.specs.Lowering.{number_by}
use Rattle.def_map.specs.Numbering.{Interns}
use Rattle.def_map.proofs.Interning.{interns_both, kept_more}
use Rattle.def_map.proofs.outside.push_others.Goals as goal

pub loop-name-preserved : goal.loop-name-preserved
loop-name-preserved c =
    let of = λ (n : ℕ). n in
    let number = λ (name : Bor (List ℕ)). number_by c.args.numbers.now name.now in
    let i = c.loop-name.name-index in let names = c.args.names.now in
    let done = filter_map number (take i names) in
    subst (Interns nat_eq of c.args.others.now.keys c.put_number.new.others.keys)
    (ap (λ o. done ++ option_to_list o) c.symbol.ensures ∙ sym (kept_more number names i _ c.loop-name-test.true))
    (interns_both nat_eq of c.args.others.now.keys c.loop-name.others.keys c.put_number.new.others.keys done _ c.loop-name.invariant c.in_ok-put_number.ensures)
