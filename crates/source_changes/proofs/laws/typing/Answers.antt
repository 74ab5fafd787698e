use Rattle.source_changes.proofs.PlainTexts.{stand_without_returns}
use Rattle.source_changes.proofs.UnseenTyping.{holes_are_unseen, member_holes_are_unseen, moved_holes_are_unseen, typing_in_member_is_same, typing_is_same}
use Rattle.source_changes.proofs.laws.typing.Goals as goal

pub returns : goal.returns
returns c = record {
  stand_without_returns = stand_without_returns;
  holes_are_unseen = holes_are_unseen;
  typing_is_same = typing_is_same;
  moved_holes_are_unseen = moved_holes_are_unseen;
  member_holes_are_unseen = member_holes_are_unseen;
  typing_in_member_is_same = typing_in_member_is_same;
}
