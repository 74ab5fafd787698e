-- what is written is the texts of the shows so far
use Rattle.std.proofs.Common.{string_bytes, take}
use Rattle.item_tree_request.proofs.Common.{AreJoined}
use Rattle.item_tree_request.proofs.show_writer.output_of.Given as goal

abbrev pub invariant-loop-show : goal.invariant-loop-show
invariant-loop-show g l = AreJoined (g.T.ShowWriter.is_text l.edition.reserved.items l.sources) (take l.show-index l.shows) (string_bytes l.text)
