-- where the keys that were taken out before are others
use Rattle.std.proofs.Common.{◌≡◌, Err, rules, sym, subst, arith}
use Rattle.source_session.proofs.Common.{object_held, Reads, field_without, settings, settings_view}
use Rattle.source_session.proofs.line.settings_in.Goals as goal

pub returns-in_err-start-clause-reads : goal.returns-in_err-start-clause-reads
returns-in_err-start-clause-reads c =
    let e = c.in_err-start.field-0.0 in
    let is : c.from_residual-in_err-start.result ≡ Err e = search rules in
    subst (λ r. Reads settings_view r (settings (object_held c.args.members.now))) (sym is) (λ w. grind (arith, field_without, c.in_err-start.ensures w))

pub returns-clause-reads : goal.returns-clause-reads
returns-clause-reads c = grind (arith, field_without)
