use Rattle.message_stream.proofs.UniqueMessages.{one_message}
use Rattle.message_stream.proofs.WrittenMessages.{headed_is}
use Rattle.message_stream.proofs.laws.headers.Goals as goal

pub returns : goal.returns
returns c = record { one = one_message; written = headed_is }
