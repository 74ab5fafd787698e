use Rattle.std.proofs.Common.{◌≤◌, ◌++◌, option_map, ap, sym, ◌∙◌, arith, rules}
use Rattle.item_tree.proofs.Common.{use_tree_view, written_count, tree_of, kept_places, use_tree_limit}
use Rattle.item_tree.proofs.KeptPlaces.{places_stand, kept_no_more}
use Rattle.item_tree.proofs.LeavesFound.{leaves_written}
use Rattle.item_tree.proofs.lower.use_tree.lower_use_tree.Goals as goal

pub returns : goal.returns
returns c =
    let w = use_tree_view c.args.node.now in
    let tree = tree_of c.in-Some.tree in
    let all = c.lower_node.new.places.items in
    let places = c.in_ok-tree.ensures.placed ∙ ap (λ places. places ++ kept_places 0 w) c.new-places.ensures.items in
    let kept = sym c.in_ok-tree.ensures.kept ∙ ap (option_map tree_of) c.in-Some.is in
    let count : written_count w ≤ use_tree_limit = search rules in
    record {
      kept = sym kept;
      places = places;
      written = places_stand w all tree places kept;
      leaves = leaves_written w all tree places kept;
      count = count;
      fits = record { nodes = omega (arith, kept_no_more w tree kept, count); supers = search rules };
      fault = tt;
    }
