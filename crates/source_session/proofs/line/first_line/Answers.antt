use Rattle.std.proofs.Common.{◌≡◌, Err, length, rules, sym, ◌∙◌, subst}
use Rattle.source_session.proofs.Common.{length-map, crate_view, object_held, right, Reads, Tells, asked_view, first_view, settings_view, line_asked, first_line}
use Rattle.source_session.proofs.Readings.{first_read, first_tells}
use Rattle.source_session.proofs.line.first_line.Goals as goal

pub returns-in_err-asked-clause-reads : goal.returns-in_err-asked-clause-reads
returns-in_err-asked-clause-reads c =
    let s = c.in_ok-settings.settings in
    let n = c.len.result in
    let here : n ≡ length s.crates.items = search rules in
    let count = here ∙ sym (length-map s.crates.items crate_view) in
    let e = c.in_err-asked.field-0.0 in
    let is : c.from_residual-in_err-asked.result ≡ Err e = search rules in
    let told = first_tells (object_held c.args.members) (settings_view s) n c.in_ok-only_known.ensures c.in_ok-settings.ensures.reads count e (subst (λ d. Tells (line_asked n d) e) c.in_ok-settings.ensures.left c.in_err-asked.ensures.reads) in
    subst (λ r. Reads first_view r (first_line (object_held c.args.members))) (sym is) told

pub returns-clause-reads : goal.returns-clause-reads
returns-clause-reads c =
    let s = c.in_ok-settings.settings in
    let n = c.len.result in
    let here : n ≡ length s.crates.items = search rules in
    let count = here ∙ sym (length-map s.crates.items crate_view) in
    first_read (object_held c.args.members) (settings_view s) n c.in_ok-only_known.ensures c.in_ok-settings.ensures.reads count (asked_view c.in_ok-asked.asked)
    (subst (λ d. line_asked n d ≡ right (asked_view c.in_ok-asked.asked)) c.in_ok-settings.ensures.left c.in_ok-asked.ensures.reads)
