use Rattle.std.proofs.Common.{map, sym, ◌∙◌, option_map}
use Rattle.rust_cursor.proofs.PushedLists.{pushed_view}
use Rattle.rust_cursor.proofs.Turns.{turns_perhaps}
use Rattle.rust_items.proofs.MemberCommon.{member_turn, is_list_over, member_list, member_view}
use Rattle.rust_items.proofs.members.list.Goals as goal

pub loop-turn-preserved : goal.loop-turn-preserved
loop-turn-preserved c =
    turns_perhaps is_list_over (member_turn c.args.metas c.args.kind) c.most_turns-most.result c.loop-turn._turn c.last_end-past.result (map member_view c.loop-turn.members.items) (map member_view c.push_some.new.list.items)
    (option_map member_view c.in_ok-member.member) c.loop-turn.cursor c.turn.new.cursor c.pass_beyond.new.self (member_list c.args.metas c.args.kind c.args.cursor.now)
    c.loop-turn-test.true (sym c.is_over.ensures ∙ c.if-is_over.false) c.in_ok-member.ensures c.last_end-past.ensures c.pass_beyond.ensures (pushed_view member_view _ _ _ c.in_ok-push_some.ensures) c.loop-turn.invariant
