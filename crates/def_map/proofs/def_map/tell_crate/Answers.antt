use Rattle.std.proofs.Common.{◌<◌, ◌≤◌, Err, IfErr, sym, ap, subst}
use Rattle.std.proofs.lemmas.List.{length-map}
use Rattle.std.proofs.lemmas.Result.{err_from_is_err_and}
use Rattle.def_map.specs.Closing.{AreSeeds}
use Rattle.def_map.specs.CrateView.{rows_view, import_view}
use Rattle.def_map.specs.Lowering.{crate_by}
use Rattle.def_map.specs.Numbering.{number_in, item_number}
use Rattle.def_map.specs.Refused.{IsCrateRefused}
use Rattle.def_map.proofs.Bounds.{names_few, items_few}
use Rattle.def_map.proofs.ReachedItems.{known_numbered}
use Rattle.def_map.proofs.Refusing.{numbers_refused, pairs_few, seeds_refused, closure_refused, memory_refused}
use Rattle.def_map.proofs.Resolving.{answers_hold}
use Rattle.def_map.proofs.def_map.tell_crate.Goals as goal

pub returns-clause-told : goal.returns-clause-told
returns-clause-told c =
    let n = c.in_ok-numbers.numbers in
    let t = c.in_ok-table.table in
    let rows = c.args.rows.now in
    answers_hold (number_in n.symbols.keys) n.items.keys (rows_view rows) c.in_ok-numbers.ensures.numbering t c.deref.result.now c.in_ok-closure.closure.facts.keys
    c.in_ok-table.ensures (subst (AreSeeds (crate_by n rows)) (sym c.deref.ensures.value) c.in_ok-seeds.ensures.seeds)
    c.in_ok-closure.ensures.sound c.in_ok-closure.ensures.complete (known_numbered rows n.items.keys c.in_ok-numbers.ensures.items) c.in_ok-told.told.items c.in_ok-told.ensures

pub returns-clause-few : goal.returns-clause-few
returns-clause-few c =
    let n = c.in_ok-numbers.numbers in
    let crate = rows_view c.args.rows.now in
    record {
      names = names_few crate n.symbols.keys n.few_symbols c.in_ok-numbers.ensures.names;
      items = items_few crate n.items.keys n.few_items c.in_ok-numbers.ensures.items;
      imports = subst (λ l. l ≤ 4294967296) (sym (length-map c.args.rows.now.imports.items import_view)) c.in_ok-seeds.ensures.few;
      pairs = pairs_few (number_in n.symbols.keys) (item_number n.items.keys) crate c.in_ok-numbers.ensures.numbering c.in_ok-seeds.ensures.few_pairs;
    }

pub returns-in_err-numbers-clause-refused : goal.returns-in_err-numbers-clause-refused
returns-in_err-numbers-clause-refused c =
    let crate = rows_view c.args.rows.now in
    let p = err_from_is_err_and c.from_residual.result c.from_residual.ensures.1 in
    subst (λ r. IfErr r (IsCrateRefused crate)) (sym p.1) (subst (IsCrateRefused crate) (sym p.2)
    (numbers_refused crate c.in_err-numbers.field-0.0 (λ e. c.in_err-numbers.ensures.too_many_names (ap Err e)) (λ e. c.in_err-numbers.ensures.too_many_items (ap Err e))))

pub returns-in_err-table-clause-refused : goal.returns-in_err-table-clause-refused
returns-in_err-table-clause-refused c =
    let crate = rows_view c.args.rows.now in
    let p = err_from_is_err_and c.from_residual-in_err-table.result c.from_residual-in_err-table.ensures.1 in
    subst (λ r. IfErr r (IsCrateRefused crate)) (sym p.1) (memory_refused crate p.0 p.2)

pub returns-in_err-seeds-clause-refused : goal.returns-in_err-seeds-clause-refused
returns-in_err-seeds-clause-refused c =
    let crate = rows_view c.args.rows.now in
    let n = c.in_ok-numbers.numbers in
    let p = err_from_is_err_and c.from_residual-in_err-seeds.result c.from_residual-in_err-seeds.ensures.1 in
    subst (λ r. IfErr r (IsCrateRefused crate)) (sym p.1) (subst (IsCrateRefused crate) (sym p.2)
    (seeds_refused (number_in n.symbols.keys) (item_number n.items.keys) crate c.in_ok-numbers.ensures.numbering c.in_err-seeds.field-0.0
    (λ e. subst (λ l. 4294967296 < l) (sym (length-map c.args.rows.now.imports.items import_view)) (c.in_err-seeds.ensures.too_many_imports (ap Err e))) (λ e. c.in_err-seeds.ensures.too_many_pairs (ap Err e))))

pub returns-in_err-closure-clause-refused : goal.returns-in_err-closure-clause-refused
returns-in_err-closure-clause-refused c =
    let crate = rows_view c.args.rows.now in
    let n = c.in_ok-numbers.numbers in
    let p = err_from_is_err_and c.from_residual-in_err-closure.result c.from_residual-in_err-closure.ensures.1 in
    subst (λ r. IfErr r (IsCrateRefused crate)) (sym p.1) (subst (IsCrateRefused crate) (sym p.2)
    (closure_refused (number_in n.symbols.keys) (item_number n.items.keys) crate c.in_ok-numbers.ensures.numbering c.in_ok-table.table c.deref.result.now c.in_err-closure.field-0.0 c.in_ok-table.ensures
    (subst (AreSeeds (crate_by n c.args.rows.now)) (sym c.deref.ensures.value) c.in_ok-seeds.ensures.seeds)
    (λ e. c.in_err-closure.ensures.too_many_facts (ap Err e)) (λ e. c.in_err-closure.ensures.too_many_joins (ap Err e))))

pub returns-in_err-told-clause-refused : goal.returns-in_err-told-clause-refused
returns-in_err-told-clause-refused c =
    let crate = rows_view c.args.rows.now in
    let p = err_from_is_err_and c.from_residual-in_err-told.result c.from_residual-in_err-told.ensures.1 in
    subst (λ r. IfErr r (IsCrateRefused crate)) (sym p.1) (memory_refused crate p.0 p.2)
