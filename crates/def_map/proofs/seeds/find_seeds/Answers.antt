use Rattle.std.proofs.Common.{◌≡◌, ◌<◌, ◌≤◌, ◌++◌, map, sym, ap, subst, ◌∙◌}
use Rattle.std.specs.List.{filter_map}
use Rattle.def_map.specs.Closing.{AreSeeds}
use Rattle.def_map.specs.Closure.{hides}
use Rattle.def_map.specs.CrateView.{declared_view, veil_view}
use Rattle.def_map.specs.Lowering.{crate_by, declaration_by}
use Rattle.def_map.specs.Seeding.{all_seeds, declaration_seed, imports_seeds, is_other_name, macros_in, macros_named, macro_pairs, other_in, veil_seed}
use Rattle.def_map.proofs.Outsiders.{all_unseen, pairs_of}
use Rattle.def_map.proofs.SeedLaws.{are_seeds}
use Rattle.def_map.proofs.seeds.find_seeds.Goals as goal

pub returns-in_err-check_pairs-clause-too_many_pairs : goal.returns-in_err-check_pairs-clause-too_many_pairs
returns-in_err-check_pairs-clause-too_many_pairs c = λ e.
    let many : 2097152 < macro_pairs (macros_in c.in_ok-outside.outside) c.deref.result.now = c.in_err-check_pairs.ensures.many.1 in
    let crate = crate_by c.args.numbers.now c.args.rows.now in
    subst (λ n. 2097152 < n)
    (ap (macro_pairs (macros_in c.in_ok-outside.outside)) c.deref.ensures.value
    ∙ pairs_of (macros_in c.in_ok-outside.outside) (macros_named crate) c.in_ok-outside.ensures.macros c.args.table.now.imports.items crate.imports c.requires.imports) many

pub returns-clause-few_pairs : goal.returns-clause-few_pairs
returns-clause-few_pairs c =
    let few : macro_pairs (macros_in c.in_ok-outside.outside) c.deref.result.now ≤ 2097152 = c.in_ok-check_pairs.ensures.few in
    let crate = crate_by c.args.numbers.now c.args.rows.now in
    subst (λ n. n ≤ 2097152)
    (ap (macro_pairs (macros_in c.in_ok-outside.outside)) c.deref.ensures.value
    ∙ pairs_of (macros_in c.in_ok-outside.outside) (macros_named crate) c.in_ok-outside.ensures.macros c.args.table.now.imports.items crate.imports c.requires.imports) few

pub returns-clause-seeds : goal.returns-clause-seeds
returns-clause-seeds c =
    let n = c.args.numbers.now in let rows = c.args.rows.now in let crate = crate_by n rows in
    let o = c.in_ok-outside.outside in let hidden = hides c.args.table.now in
    let imports = imports_seeds crate (other_in o) (macros_in o) hidden 0 crate.imports in
    let is : c.push_imports.new.seeds.items ≡ all_seeds crate (is_other_name crate) (macros_named crate) hidden =
    c.in_ok-push_imports.ensures
    ∙ ap (λ l. l ++ imports) (c.in_ok-push_veils.ensures
    ∙ ap (λ l. l ++ map veil_seed (map veil_view c.deref-3.result.now)) (c.in_ok-push_declarations.ensures
    ∙ ap (λ l. l ++ map declaration_seed (filter_map (declaration_by n) (map declared_view c.deref-2.result.now))) c.new-seeds.ensures.items
    ∙ ap (λ l. map declaration_seed (filter_map (declaration_by n) (map declared_view l))) c.deref-2.ensures.value)
    ∙ ap (λ l. map declaration_seed crate.declarations ++ map veil_seed (map veil_view l)) c.deref-3.ensures.value)
    ∙ (λ i. all_seeds crate (λ q. c.in_ok-outside.ensures.others q i) (λ q. c.in_ok-outside.ensures.macros q i) hidden) in
    subst (AreSeeds crate) (sym is) (are_seeds crate c.args.table.now c.requires.declared (λ q x has. all_unseen n (λ v. v.items) q x rows.others has))
