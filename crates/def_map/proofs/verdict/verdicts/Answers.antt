use Rattle.std.proofs.Common.{length, map, ap, ◌∙◌}
use Rattle.std.proofs.lemmas.Result.{IfOk-weaker}
use Rattle.def_map.specs.Found.{verdict_by}
use Rattle.def_map.proofs.Noting.{told_of}
use Rattle.def_map.proofs.verdict.verdicts.Goals as goal

pub returns : goal.returns
returns c =
    IfOk-weaker c.tell.result _ _ (λ told is. told_of c.args.table.now (length c.args.table.now.imports.items) c.args.facts.now c.in_ok-known.known.items told.items c.in_ok-known.ensures (is ∙ ap (map verdict_by) c.deref.ensures.value)) c.tell.ensures
