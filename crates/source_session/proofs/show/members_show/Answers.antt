use Rattle.source_session.proofs.show.members_show.Goals as goal

pub returns-in-find-clause-known : goal.returns-in-find-clause-known
returns-in-find-clause-known c = c.find_show.ensures.known c.args.count
