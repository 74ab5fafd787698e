use Rattle.source_listing.proofs.Common.{[], ap, map, file_places, view, reading_view, choice_view, source_view}
use Rattle.source_listing.proofs.NestedObjects.{objects_are}
use Rattle.source_listing.proofs.json.outline_items.Goals as goal

pub returns : goal.returns
returns c =
    let s = source_view c.args.source in
    let edition = c.args.edition.now in
    objects_are c.args.units s (file_places c.args.places.now []) edition c.new-printer.result (reading_view c.args.reading) (choice_view c.args.choice) c.args.tree.now c.is_file_enabled.result c.top_level_items.result.now
    (map view c.new-items.result.items) (map view c.push_objects.new.out.items) c.new-printer.ensures c.top_level_items.ensures.stand c.is_file_enabled.ensures (ap (map view) c.new-items.ensures.items)
    c.in_ok-push_objects.ensures.objects
