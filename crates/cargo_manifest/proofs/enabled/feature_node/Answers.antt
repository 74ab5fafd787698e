-- the name of one more entry, if it has one
use Rattle.std.proofs.Common.{◌≡◌, ◌+◌, ◌∷◌, ◌++◌, map, drop, string_bytes, sym, ap, ◌∙◌}
use Rattle.std.proofs.lemmas.List.{drop_more}
use Rattle.std.specs.{List.filter_map, Option.option_to_list}
use Rattle.cargo_manifest.specs.Features.{entry_feature}
use Rattle.cargo_manifest.specs.Views.{dependency_view}
use Rattle.cargo_manifest.proofs.Entries.{put_option}
use Rattle.cargo_manifest.proofs.enabled.feature_node.Goals as goal

pub loop-entry-preserved : goal.loop-entry-preserved
loop-entry-preserved c =
    let names_of = entry_feature (map dependency_view c.args.dependencies.now) in
    let xs = c.deref-entry-items.result.now in
    let i = c.loop-entry.entry-index in
    let x = c.entry-item.result in
    let done = map (λ name. name.now) c.loop-entry.enables.items in
    let rest = filter_map names_of (map string_bytes (drop (i + 1) xs)) in
    let cell : drop i xs ≡ x ∷ drop (i + 1) xs = drop_more xs i x c.loop-entry-test.true ∙ ap (λ y. y ∷ drop (i + 1) xs) (sym c.entry-item.is) in
    c.loop-entry.invariant
    ∙ ap (λ es. done ++ filter_map names_of (map string_bytes es)) cell
    ∙ put_option done (names_of (string_bytes x)) rest
    ∙ ap (λ o. (done ++ option_to_list o) ++ rest) (ap names_of (sym c.deref.ensures) ∙ sym c.entry_feature.ensures)
    ∙ ap (λ ns. ns ++ rest) (sym c.in_ok-push_some.ensures)
