use Rattle.decl_index.proofs.Common.{◌≡◌, All-weaker, IsLate, IsKnown, entries_of, AreChangedEntries}
use Rattle.std.proofs.lemmas.Result.{IfOk-weaker}
use Rattle.decl_index.proofs.index.read_late.Goals as goal

pub read_changed-requires : goal.read_changed-requires
read_changed-requires c = let s = c.args.sources.now in All-weaker (IsLate s c.args.since) (λ d. IsKnown s d.1) (λ d l. l.known) c.args.changes c.requires.since.late

pub returns : goal.returns
returns c =
    let s = c.args.sources.now in
    let changes = c.args.changes in
    IfOk-weaker c.read_changed.result (λ fresh. fresh.items ≡ entries_of s changes) (λ fresh. AreChangedEntries s c.args.since fresh.items)
    (λ fresh is. record { changes = changes; since = c.requires.since; grounded = c.requires.grounded; items = is }) c.read_changed.ensures
