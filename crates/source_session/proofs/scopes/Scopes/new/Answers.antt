use Rattle.source_session.proofs.Paths.{all_scopes}
use Rattle.source_session.proofs.scopes.Scopes.new.Goals as goal

pub returns : goal.returns
returns c = record {
  all = all_scopes c.args.tree.now c.in_ok-collected.collected.declarations.items c.in_ok-collected.ensures.all;
  once = c.in_ok-collected.ensures.once;
}
