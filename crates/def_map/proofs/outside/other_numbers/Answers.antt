use Rattle.std.proofs.Common.{ℕ, true, ◌==◌, nat_eq, map, option_map, sym, ap, ◌∙◌}
use Rattle.std.specs.{List.filter_map, List.list_any, Option.option_map_or}
use Rattle.def_map.specs.CrateView.{other_view}
use Rattle.def_map.specs.Lowering.{number_by, item_by}
use Rattle.def_map.specs.Numbers.{numbered_other}
use Rattle.def_map.proofs.Interning.{all_known}
use Rattle.def_map.proofs.Outsiders.{others_by}
use Rattle.def_map.proofs.outside.other_numbers.Goals as goal

pub returns : goal.returns
returns c = λ n.
    let numbers = c.args.numbers.now in
    all_known nat_eq (λ (n : ℕ). n) c.new-others.result.keys c.push_others.new.others.keys _ c.new-others.ensures.empty c.in_ok-push_others.ensures n
    ∙ others_by numbers n c.as_slice.result.now
    ∙ ap (λ names. list_any (λ p. n == p.0) (filter_map (numbered_other (number_by numbers) (item_by numbers)) (map other_view names))) c.as_slice.ensures.value
    ∙ sym (ap (λ o. option_map_or (list_any (λ p. n == p.0)) (option_map (filter_map (numbered_other (number_by numbers) (item_by numbers))) (option_map (λ names. map other_view names.items) o)) true) c.in-Some.is)
