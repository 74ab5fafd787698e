use Rattle.std.proofs.Common.{◌≡◌, ◌++◌, ◌∷◌, [], Some, None, if◌then◌else◌, length, take, sym, ap, ◌∙◌, arith}
use Rattle.std.specs.{List.position, Option.option_or}
use Rattle.std.proofs.lemmas.List.{take_more, length-take-le}
use Rattle.def_map.specs.Tables.{is_module_of}
use Rattle.def_map.proofs.Positions.{position_more}
use Rattle.def_map.proofs.module_index.index_modules.Goals as goal

pub loop-number-preserved : goal.loop-number-preserved
loop-number-preserved c = λ at a.
    let modules = c.args.modules.now in let i = c.loop-number.number in
    let found = c.index-modules-number.result in
    let test = is_module_of at a in
    let size : length (take i modules) ≡ i = length-take-le i modules (omega (arith, c.loop-number-test.true)) in
    c.in_ok-put_module.ensures at a
    ∙ ap (λ o. option_or o (if test found then Some i else None)) (c.loop-number.invariant at a)
    ∙ ap (λ n. option_or (position test (take i modules)) (if test found then Some n else None)) (sym size)
    ∙ sym (position_more test (take i modules) found)
    ∙ ap (λ l. position test l) (ap (λ x. take i modules ++ x ∷ []) c.index-modules-number.is ∙ sym (take_more modules i _ c.loop-number-test.true))
