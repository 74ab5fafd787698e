use Rattle.std.proofs.Common.{◌≡◌, All, filter, map, rules, sym, ap, subst, ◌∙◌, flat_map}
use Rattle.source_session.proofs.Common.{All-filter, IsDeclared, IsFound, Session, found_form, found_one, is_at, entry_path}
use Rattle.serde_json.specs.Data.{array}
use Rattle.serde_json.specs.View.{items_of, view}
use Rattle.serde_json.specs.declared.value.Value.{Array, the_lemmas}
use Rattle.decl_index.specs.Entries.{IndexView}
use Rattle.decl_index.specs.Lookup.{entry_has_name}
use Rattle.source_session.proofs.Paths.{found_all}
use Rattle.source_session.proofs.shown.find.Goals as goal

pub found_values-requires : goal.found_values-requires
found_values-requires c =
    let now = c.refresh.new.self in
    let known = IsDeclared now.session.table in
    let looked = c.lookup-entries.ensures ∙ ap (λ (index : IndexView). filter (entry_has_name c.name.result.now) index.1) c.index.ensures.index in
    subst (All known) (sym looked) (All-filter (entry_has_name c.name.result.now) known now.index.1 c.in_ok-refresh.ensures.index.listing.declared)

pub returns-clause-found : goal.returns-clause-found
returns-clause-found c =
    let now = c.refresh.new.self in
    let u = now.session in
    let q = c.args.sought.now in
    let all = now.index.1 in
    let looked = c.lookup-entries.ensures ∙ ap (λ (index : IndexView). filter (entry_has_name c.name.result.now) index.1) c.index.ensures.index ∙ ap (λ name. filter (entry_has_name name) all) c.name.ensures in
    let values = c.in_ok-values.ensures ∙ ap (flat_map (found_one u q)) looked ∙ found_all (entry_has_name q.name) (λ e. is_at q.path (entry_path u.table e)) (found_form q.units u) all in
    let made : view (Array c.in_ok-values.values) ≡ array (items_of (map view c.in_ok-values.values.items)) = search (rules, the_lemmas) in
    subst (λ (s : Session). IsFound s q (view (Array c.in_ok-values.values))) c.refresh.ensures.session (all, c.in_ok-refresh.ensures.index.listing, made ∙ ap (λ ds. array (items_of ds)) values)
