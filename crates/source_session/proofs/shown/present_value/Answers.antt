use Rattle.std.proofs.Common.{◌≡◌, IfOk, sym, subst, rules}
use Rattle.serde_json.specs.View.{view}
use Rattle.source_session.proofs.Common.{Table, Outline, TreeItems, ImportPlaces, IsPresentValue, ShowNamesCrate, State, Knows, crate_count}
use Rattle.source_session.proofs.NamedCrates.{show_known}
use Rattle.source_session.proofs.shown.present_value.Goals as goal

pub table_value-requires : goal.table_value-requires
table_value-requires c =
    let u = c.args.session.now.session in
    let is : c.args.show.now ≡ Table c.in-Table.show = search rules in
    let named = subst (ShowNamesCrate (crate_count u)) is c.requires in
    subst (λ (s : State). Knows s c.in-Table.show) (sym c.sources.ensures) (show_known u.table c.in-Table.show named)

pub outline-requires : goal.outline-requires
outline-requires c =
    let is : c.args.show.now ≡ Outline c.in-Outline.krate c.in-Outline.file c.in-Outline.units c.in-Outline.has_members = search rules in
    (subst (ShowNamesCrate (crate_count c.args.session.now.session)) is c.requires).0

pub tree_items-requires : goal.tree_items-requires
tree_items-requires c =
    let is : c.args.show.now ≡ TreeItems c.in-TreeItems.krate c.in-TreeItems.place c.in-TreeItems.units = search rules in
    (subst (ShowNamesCrate (crate_count c.args.session.now.session)) is c.requires).0

pub import_places-requires : goal.import_places-requires
import_places-requires c =
    let is : c.args.show.now ≡ ImportPlaces c.in-ImportPlaces.krate c.in-ImportPlaces.place c.in-ImportPlaces.units = search rules in
    (subst (ShowNamesCrate (crate_count c.args.session.now.session)) is c.requires).0

pub returns-in-Outline-clause-shown : goal.returns-in-Outline-clause-shown
returns-in-Outline-clause-shown c =
    let is : c.args.show.now ≡ Outline c.in-Outline.krate c.in-Outline.file c.in-Outline.units c.in-Outline.has_members = search rules in
    subst (λ show. IfOk c.outline.result (λ value. IsPresentValue c.args.session.now.session show (view value))) (sym is) c.outline.ensures

pub returns-in-TreeItems-clause-shown : goal.returns-in-TreeItems-clause-shown
returns-in-TreeItems-clause-shown c =
    let is : c.args.show.now ≡ TreeItems c.in-TreeItems.krate c.in-TreeItems.place c.in-TreeItems.units = search rules in
    subst (λ show. IfOk c.tree_items.result (λ value. IsPresentValue c.args.session.now.session show (view value))) (sym is) c.tree_items.ensures

pub returns-in-ImportPlaces-clause-shown : goal.returns-in-ImportPlaces-clause-shown
returns-in-ImportPlaces-clause-shown c =
    let is : c.args.show.now ≡ ImportPlaces c.in-ImportPlaces.krate c.in-ImportPlaces.place c.in-ImportPlaces.units = search rules in
    subst (λ show. IfOk c.import_places.result (λ value. IsPresentValue c.args.session.now.session show (view value))) (sym is) c.import_places.ensures
