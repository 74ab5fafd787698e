use Rattle.source_tags.proofs.Common.{◌≡◌, ◌-◌}
use Rattle.rust_cursor.specs.Elements.{perhaps, turns, turns_from}
use Rattle.rust_cursor.specs.Tokens.{tokens_of}
use Rattle.rust_cursor.specs.Words.{eat, is_empty}
use Rattle.source_tags.specs.BlockItems.{braces_turn}
use Rattle.source_tags.proofs.block_items.inner_blocks.Given as goal

abbrev pub invariant-loop-turn : goal.invariant-loop-turn
invariant-loop-turn l = turns_from is_empty (perhaps (braces_turn l.places)) (l.most - l._turn) l.blocks.items l.cursor ≡ turns is_empty (perhaps (braces_turn l.places)) (eat 123 (tokens_of l.fn.edition l.text)).1
