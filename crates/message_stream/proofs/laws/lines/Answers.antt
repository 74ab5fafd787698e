use Rattle.message_stream.proofs.EachService.{lines_served}
use Rattle.message_stream.proofs.laws.lines.Goals as goal

pub returns : goal.returns
returns g c left waiting old new from to turns text all served known = lines_served g.S.Service.conduct left waiting old new from to turns text all served known
