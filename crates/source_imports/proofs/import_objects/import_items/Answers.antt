use Rattle.source_imports.proofs.Common.{PlacedText, rules, ap, map, ◌++◌, ◌∙◌, flat_map, take_all, view, declaration_id, declaration_view, IsContained, file_places, import_object, seen_objects}
use Rattle.source_imports.proofs.ImportedNames.{contained_at, one_more_seen, seen_of_all}
use Rattle.source_imports.proofs.import_objects.import_items.Goals as goal

pub push_declaration-requires : goal.push_declaration-requires
push_declaration-requires c =
    contained_at (IsContained c.args.tree.now) declaration_id c.in_ok-collected.collected.declarations.items c.loop-declaration.declaration-index c.declaration-item.result c.in_ok-collected.ensures.contained (search rules) (search rules)

pub returns : goal.returns
returns c =
    let see = declaration_view c.args.tree.now in
    let units = c.args.units in
    let text = c.args.text.now in
    let reserved = c.args.edition.now.reserved.items in
    let places = file_places c.args.places.now c.args.use_trees.now in
    let ds = c.deref-declaration-items.result.now in
    let whole = take_all c.loop-declaration.declaration-index ds (search rules) in
    let all = seen_of_all (import_object reserved) see units text places ds c.args.tree.now.forest (ap (map see) c.deref-declaration-items.ensures.value ∙ c.in_ok-collected.ensures.declared) in
    c.loop-declaration.invariant.objects ∙ ap (flat_map (λ d. seen_objects units text reserved places (see d))) whole ∙ all

pub loop-declaration-preserved : goal.loop-declaration-preserved
loop-declaration-preserved c =
    let units = c.args.units in
    let text = c.args.text.now in
    let reserved = c.args.edition.now.reserved.items in
    let places = file_places c.args.places.now c.args.use_trees.now in
    let before = c.loop-declaration in
    let d = c.declaration-item.result in
    let see = declaration_view c.args.tree.now in
    let out = map view before.out.items in
    record {
      objects = one_more_seen (λ x. seen_objects units text reserved places (see x)) c.deref-declaration-items.result.now before.declaration-index d out (map view c.push_declaration.new.out.items) (search rules) (search rules) before.invariant.objects
          (c.in_ok-push_declaration.ensures.objects ∙ ap (λ (t : PlacedText). out ++ seen_objects units t.text reserved t.places (see d)) before.invariant.is);
      is = c.in_ok-push_declaration.ensures.same ∙ before.invariant.is;
    }
