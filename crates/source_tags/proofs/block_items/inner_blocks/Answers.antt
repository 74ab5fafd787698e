use Rattle.source_tags.proofs.Common.{sym, ◌∙◌}
use Rattle.rust_cursor.proofs.Turns.{turns_perhaps}
use Rattle.rust_cursor.specs.Elements.{perhaps, turns}
use Rattle.rust_cursor.specs.Tokens.{tokens_of}
use Rattle.rust_cursor.specs.Words.{eat, is_empty}
use Rattle.source_tags.specs.BlockItems.{braces_turn}
use Rattle.source_tags.proofs.block_items.inner_blocks.Goals as goal

pub loop-turn-preserved : goal.loop-turn-preserved
loop-turn-preserved c =
    turns_perhaps is_empty (braces_turn c.args.places.now) c.most_turns-most.result c.loop-turn._turn c.last_end-past.result c.loop-turn.blocks.items c.push_some.new.list.items c.take_braces-block.result
    c.loop-turn.cursor c.take_braces-block.new.cursor c.pass_beyond.new.self (turns is_empty (perhaps (braces_turn c.args.places.now)) (eat 123 (tokens_of c.args.edition c.args.text.now)).1)
    c.loop-turn-test.true (sym c.is_empty.ensures ∙ c.if-is_empty.false) c.take_braces-block.ensures c.last_end-past.ensures c.pass_beyond.ensures c.in_ok-push_some.ensures c.loop-turn.invariant
