use Rattle.source_imports.proofs.Common.{PlacedText, rules, ap, map, string_bytes, ◌++◌, ◌∙◌, flat_map, take_all, declaration_id, declaration_view, IsContained, file_places, source_view, import_choice_view, seen_lines}
use Rattle.source_imports.proofs.ImportedNames.{contained_at, lines_of_all, one_more_seen}
use Rattle.source_imports.proofs.imports.import_lines.Goals as goal

pub push_declaration-requires-clause-contained : goal.push_declaration-requires-clause-contained
push_declaration-requires-clause-contained c =
    contained_at (IsContained c.args.tree.now) declaration_id c.in_ok-collected.collected.declarations.items c.loop-declaration.declaration-index c.declaration-item.result c.in_ok-collected.ensures.contained (search rules) (search rules)

pub push_declaration-requires-clause-text : goal.push_declaration-requires-clause-text
push_declaration-requires-clause-text c = ap (λ (t : PlacedText). t.text) c.loop-declaration.invariant.is

pub returns : goal.returns
returns c =
    let see = declaration_view c.args.tree.now in
    let s = source_view c.args.source in
    let ds = c.deref-declaration-items.result.now in
    let whole = take_all c.loop-declaration.declaration-index ds (search rules) in
    let choice = import_choice_view c.args.choice in
    let all = lines_of_all see c.args.edition.now.reserved.items c.args.form choice s (file_places c.args.places.now c.args.use_trees.now) ds c.args.tree.now.forest (ap (map see) c.deref-declaration-items.ensures.value ∙ c.in_ok-collected.ensures.declared) in
    c.loop-declaration.invariant.text ∙ ap (flat_map (λ d. seen_lines c.args.edition.now.reserved.items c.args.form choice s (file_places c.args.places.now c.args.use_trees.now) (see d))) whole ∙ all

pub loop-declaration-preserved : goal.loop-declaration-preserved
loop-declaration-preserved c =
    let s = source_view c.args.source in
    let reserved = c.args.edition.now.reserved.items in
    let choice = import_choice_view c.args.choice in
    let places = file_places c.args.places.now c.args.use_trees.now in
    let before = c.loop-declaration in
    let d = c.declaration-item.result in
    let see = declaration_view c.args.tree.now in
    let out = string_bytes before.out in
    record {
      text = one_more_seen (λ x. seen_lines reserved c.args.form choice s places (see x)) c.deref-declaration-items.result.now before.declaration-index d out (string_bytes c.push_declaration.new.out) (search rules) (search rules) before.invariant.text
          (c.in_ok-push_declaration.ensures.text ∙ ap (λ (t : PlacedText). out ++ seen_lines reserved c.args.form choice s t.places (see d)) before.invariant.is);
      is = c.in_ok-push_declaration.ensures.same ∙ before.invariant.is;
    }
