use Rattle.std.proofs.Common.{rules}
use Rattle.source_changes.proofs.Tables.{count_put}
use Rattle.source_changes.proofs.matching.count_one.Goals as goal

pub returns-clause-counted : goal.returns-clause-counted
returns-clause-counted g c = count_put g.met.K.Eq.laws c.args.counts.now c.insert.new.self c.args.key c.unwrap_or-count.result (search rules) c.in_ok-insert.ensures.updates.0
