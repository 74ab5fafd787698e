use Rattle.source_listing.proofs.Common.{◌++◌, ◌+◌, ◌∷◌, [], map, ap, ◌∙◌, rules, flat_map, map-append, items_of, view, header_of, members_of, reading_view, item_entry, member_objects, entry_object, choice_view, file_of, shown_item_view, objects_at, places_of, reserved_of}
use Rattle.source_listing.proofs.NestedObjects.{object_adds, object_is}
use Rattle.source_listing.proofs.Printers.{Setting, same_through, setting_same}
use Rattle.source_listing.proofs.json.+read.Goals as goal

pub push_object-returns-clause-objects : goal.push_object-returns-clause-objects
push_object-returns-clause-objects t c =
    let p = c.args.printer.now in
    let units = c.args.listing.units in
    let x = reading_view c.args.listing.reading in
    let choice = choice_view c.args.listing.choice in
    let u = c.args.listing.tree.now in
    let level = c.args.around.level in
    let is = c.children-ids.result.now in
    let y = shown_item_view c.item_of-item.result in
    let place = c.stand-stand.result.place in
    let spot = c.stand-stand.result.spot in
    let members = map view c.in_ok-inner.inner.items in
    let inner = map view c.push_objects.new.out.items in
    let here = c.stand-stand.ensures.same in
    let behind = same_through p c.stand-stand.new.self c.member_values.new.printer here c.in_ok-inner.ensures.same in
    let last = same_through p c.member_values.new.printer c.push_objects.new.printer behind c.in_ok-push_objects.ensures.same in
    let are_members = c.in_ok-inner.ensures.objects ∙ ap (λ (t : Setting). member_objects units t.file.text t.reserved choice level (members_of x place y.is_active)) (setting_same p c.stand-stand.new.self here) in
    let are_inner = c.in_ok-push_objects.ensures.objects
    ∙ ap (λ (t : Setting). members ++ flat_map (objects_at units t.file x t.reserved t.places.items choice u (level + 1) y.is_active) is) (setting_same p c.member_values.new.printer behind) in
    let is_object = c.in_ok-object.ensures
    ∙ ap (λ (t : Setting). entry_object t.reserved (item_entry (header_of x y.id.kind place) spot y) (items_of inner)) (setting_same p c.push_objects.new.printer last) in
    object_adds units (file_of p) x (reserved_of p) (places_of p).items choice u level c.args.around.is_active c.args.id is y (view c.in_ok-object.object) (map view c.args.out.now.items) (map view c.push.new.self.items)
    c.item_of-item.ensures c.children-ids.ensures.stand (search rules)
    (object_is units (file_of p) x (reserved_of p) (places_of p).items choice u level is y place spot members inner (view c.in_ok-object.object) c.stand-stand.ensures.place c.stand-stand.ensures.spot are_members are_inner is_object)
    (ap (map view) c.in_ok-push.ensures.items ∙ map-append view c.args.out.now.items (c.in_ok-object.object ∷ []))
