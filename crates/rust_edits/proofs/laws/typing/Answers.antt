use Rattle.rust_edits.proofs.Order.{items_are_in_order}
use Rattle.rust_edits.proofs.Typing.Typing.{typing_inside}
use Rattle.rust_edits.proofs.Typing.MovedItems.{places_move, is_read_anew, body_is_told}
use Rattle.rust_edits.proofs.Typing.BodyStarts.{body_opens}
use Rattle.rust_edits.proofs.Typing.ProblemsIn.{problems_stand}
use Rattle.rust_edits.proofs.Typing.ProblemPlaces.{problems_move}
use Rattle.rust_edits.proofs.laws.typing.Goals as goal

pub returns : goal.returns
returns c = record {
  items_are_in_order = items_are_in_order;
  typing_inside = typing_inside;
  places_move = places_move;
  is_read_anew = is_read_anew;
  body_is_told = body_is_told;
  body_opens = body_opens;
  problems_stand = problems_stand;
  problems_move = problems_move;
}
