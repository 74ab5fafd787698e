use Rattle.text_session.proofs.touched.refresh.Goals as goal

pub returns-clause-behind : goal.returns-clause-behind
returns-clause-behind c = c.in_ok-refresh_index.ensures.at c.new.result.keys
