use Rattle.std.proofs.Common.{IfErr, IfOk, OnOk, map, ap, subst, ◌∙◌}
use Rattle.def_map.specs.Inner.Told.{AreAnswers}
use Rattle.def_map.specs.Refused.{IsCrateRefused, IsCrateSmall}
use Rattle.def_map.specs.Tables.{crate_from}
use Rattle.def_map.specs.Views.{crate_manifest_view, crate_row_view}
use Rattle.def_map.proofs.def_map.tell_rows.Goals as goal

pub returns-clause-told : goal.returns-clause-told
returns-clause-told c =
    let manifest = crate_manifest_view c.args.manifest.now in
    subst (λ crate. IfOk c.tell_crate.result (λ told. AreAnswers crate told.items))
    (c.in_ok-rows.ensures ∙ ap (λ parents. crate_from parents manifest (map crate_row_view c.deref-2.result.now)) c.deref.ensures.value
    ∙ ap (λ rows. crate_from c.args.collected.now.parents.items manifest (map crate_row_view rows)) c.deref-2.ensures.value) c.tell_crate.ensures.told

pub returns-clause-few : goal.returns-clause-few
returns-clause-few c =
    let manifest = crate_manifest_view c.args.manifest.now in
    subst (λ crate. OnOk c.tell_crate.result (IsCrateSmall crate))
    (c.in_ok-rows.ensures ∙ ap (λ parents. crate_from parents manifest (map crate_row_view c.deref-2.result.now)) c.deref.ensures.value
    ∙ ap (λ rows. crate_from c.args.collected.now.parents.items manifest (map crate_row_view rows)) c.deref-2.ensures.value) c.tell_crate.ensures.few

pub returns-clause-refused : goal.returns-clause-refused
returns-clause-refused c =
    let manifest = crate_manifest_view c.args.manifest.now in
    subst (λ crate. IfErr c.tell_crate.result (IsCrateRefused crate))
    (c.in_ok-rows.ensures ∙ ap (λ parents. crate_from parents manifest (map crate_row_view c.deref-2.result.now)) c.deref.ensures.value
    ∙ ap (λ rows. crate_from c.args.collected.now.parents.items manifest (map crate_row_view rows)) c.deref-2.ensures.value) c.tell_crate.ensures.refused
