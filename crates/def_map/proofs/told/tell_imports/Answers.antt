use Rattle.std.proofs.Common.{length, map, refl, sym, ap, subst}
use Rattle.std.proofs.lemmas.Result.{IfOk-weaker}
use Rattle.def_map.specs.CrateView.{import_view}
use Rattle.def_map.specs.Found.{AreVerdicts}
use Rattle.def_map.proofs.Resolving.{told_by}
use Rattle.def_map.proofs.told.tell_imports.Goals as goal

pub returns : goal.returns
returns c =
    let t = c.args.table.now in
    let facts = c.args.closure.now.facts.keys in
    IfOk-weaker c.tell_all.result _ _ (λ told so.
    told_by _ (map import_view c.args.rows.now.imports.items) facts told.items (ap (map import_view) c.deref.ensures.value) refl
    (subst (AreVerdicts t (length t.imports.items) facts) (sym c.deref-2.ensures.value)
    (subst (λ list. AreVerdicts t (length t.imports.items) list c.in_ok-verdicts.verdicts.items) c.as_slice.ensures.keys c.in_ok-verdicts.ensures)) c.in_ok-hidden.ensures so) c.tell_all.ensures
