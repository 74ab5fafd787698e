use Rattle.std.proofs.Common.{Err, IfErr, refl, sym, ap, subst, ◌∙◌}
use Rattle.std.proofs.lemmas.Result.{err_from_is_err_and}
use Rattle.def_map.specs.Inner.Told.{collected_crate, rows_answers}
use Rattle.def_map.specs.Refused.{AreImportsRefused, IsCrateRefused, IsCrateSmall}
use Rattle.def_map.specs.Views.{sources_view}
use Rattle.def_map.proofs.Refusing.{collect_refused, crate_refused, sources_memory_refused}
use Rattle.def_map.proofs.Resolving.{collected_same, resolved_hold}
use Rattle.def_map.proofs.def_map.resolve_imports.Goals as goal

pub returns-clause-resolved : goal.returns-clause-resolved
returns-clause-resolved c =
    let s = sources_view c.args.sources in
    let collected = c.in_ok-collected.collected in
    let told = c.in_ok-told.told.items in
    let crate = collected_crate collected c.args.sources.manifest.now in
    let same = collected_same s collected c.args.sources.manifest.now refl c.in_ok-collected.ensures.parents c.in_ok-collected.ensures.rows in
    resolved_hold s crate told c.in_ok-imports.imports.items same c.in_ok-told.ensures.told
    (c.in_ok-imports.ensures ∙ ap (λ rows. rows_answers rows told) c.in_ok-collected.ensures.rows)

pub returns-clause-few : goal.returns-clause-few
returns-clause-few c =
    let s = sources_view c.args.sources in
    let collected = c.in_ok-collected.collected in
    let same = collected_same s collected c.args.sources.manifest.now refl c.in_ok-collected.ensures.parents c.in_ok-collected.ensures.rows in
    record {
      modules = c.in_ok-collected.ensures.few;
      ordered = c.in_ok-collected.ensures.ordered;
      contents = subst IsCrateSmall same c.in_ok-told.ensures.few;
    }

pub returns-in_err-collected-clause-refused : goal.returns-in_err-collected-clause-refused
returns-in_err-collected-clause-refused c =
    let s = sources_view c.args.sources in
    let p = err_from_is_err_and c.from_residual.result c.from_residual.ensures.1 in
    subst (λ r. IfErr r (AreImportsRefused s)) (sym p.1) (subst (AreImportsRefused s) (sym p.2)
    (collect_refused s c.in_err-collected.field-0.0 (λ e. c.in_err-collected.ensures.many (ap Err e)) (λ e. c.in_err-collected.ensures.unordered (ap Err e))))

pub returns-in_err-told-clause-refused : goal.returns-in_err-told-clause-refused
returns-in_err-told-clause-refused c =
    let s = sources_view c.args.sources in
    let collected = c.in_ok-collected.collected in
    let crate = collected_crate collected c.args.sources.manifest.now in
    let same = collected_same s collected c.args.sources.manifest.now refl c.in_ok-collected.ensures.parents c.in_ok-collected.ensures.rows in
    let p = err_from_is_err_and c.from_residual-in_err-told.result c.from_residual-in_err-told.ensures.1 in
    subst (λ r. IfErr r (AreImportsRefused s)) (sym p.1) (crate_refused s crate p.0 same (subst (IsCrateRefused crate) (sym p.2) c.in_err-told.ensures.refused))

pub returns-in_err-imports-clause-refused : goal.returns-in_err-imports-clause-refused
returns-in_err-imports-clause-refused c =
    let s = sources_view c.args.sources in
    let p = err_from_is_err_and c.from_residual-in_err-imports.result c.from_residual-in_err-imports.ensures.1 in
    subst (λ r. IfErr r (AreImportsRefused s)) (sym p.1) (sources_memory_refused s p.0 p.2)
