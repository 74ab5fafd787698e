use Rattle.std.proofs.Common.{rules, ◌≡◌, Some, option_map, sym, ap, ◌∙◌}
use Rattle.rust_items.proofs.Common.{item_view, leaf_behind, wanted_behind, log_view, and_rest, leaf_found, leaf_kept, leaf_turn}
use Rattle.rust_leaves.specs.Views.{front_view, leaf_view}
use Rattle.rust_items.proofs.ClippedItems.{leaf_turn_clipped, finds_by}
use Rattle.rust_items.proofs.turn.leaf_turn.Goals as goal

pub returns-in-Some : goal.returns-in-Some
returns-in-Some c =
    let front = front_view c.args.front in
    let log = log_view c.args.log.now in
    let read = leaf_view c.in-Some.leaf in
    let rest = c.take_leaf.new.cursor in
    let taken : leaf_behind c.args.wanted front c.args.cursor.now ≡ (Some read, rest) = search rules in
    finds_by (option_map item_view) c.keep_leaf.result (leaf_kept c.args.depth front.start c.last_end-end.result read log) (wanted_behind c.args.wanted (leaf_turn c.args.depth) front log c.args.cursor.now) (log_view c.keep_leaf.new.log) rest
    (leaf_turn_clipped c.args.wanted c.args.depth front log c.args.cursor.now
    ∙ ap (λ l. leaf_found c.args.depth front.start l.0 log l.1) taken
    ∙ ap (λ n. and_rest (leaf_kept c.args.depth front.start n read log) rest) (sym c.last_end-end.ensures))
    c.keep_leaf.ensures
