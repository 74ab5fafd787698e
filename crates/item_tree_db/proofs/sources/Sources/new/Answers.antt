use Rattle.std.proofs.Common.{map, sym, ap, ◌∙◌}
use Rattle.item_tree_db.proofs.Common.{take-map, crate_view, crate_limit, state_of}
use Rattle.item_tree_db.proofs.sources.Sources.new.Goals as goal

pub returns : goal.returns
returns c =
    let crates = ap (map crate_view) c.truncate.ensures.items ∙ sym (take-map crate_view crate_limit c.args.crates.items) in
    λ j. state_of (record { crates = crates j; skipped = c.args.skipped.items; start = c.args.start; number = c.args.start; places = c.new.ensures j })
