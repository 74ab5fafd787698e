use Rattle.message_stream.proofs.EachService.{never_rests}
use Rattle.message_stream.proofs.Conversations.{messages_join, messages_took}
use Rattle.message_stream.proofs.laws.still.Goals as goal

pub returns : goal.returns
returns g c = record {
  taken = messages_took;
  joined = messages_join;
  never = λ left waiting old new from to turns text still served. never_rests g.F.Framing.frames g.S.Service.conduct left waiting still old new from to turns text served;
}
