-- where a place is known, and where none is
use Rattle.std.proofs.Common.{◌≡◌, Some, None, IfOk, rules, string_bytes, sym, subst}
use Rattle.serde_json.specs.Data.{string}
use Rattle.serde_json.specs.View.{view}
use Rattle.hir_input.specs.Id.{shown_id}
use Rattle.line_index.specs.Positions.{position_in}
use Rattle.source_session.proofs.Common.{place_of, stands_at}
use Rattle.source_session.specs.Found as spec
use Rattle.source_session.proofs.found.in_file.Goals as goal

pub returns-in_default-clause-value : goal.returns-in_default-clause-value
returns-in_default-clause-value c =
    let r = c.placeless_value.result in
    let lines = c.args.spots.now.lines in
    let none : place_of c.args.id c.args.spots.now.places ≡ None = search rules in
    let id : string_bytes c.in_ok-shown.shown ≡ shown_id c.args.id = search rules in
    subst (λ place. IfOk r (λ value. view value ≡ spec.in_file c.args.units c.args.file c.args.krate (string (shown_id c.args.id)) lines place)) (sym none)
    (subst (λ id. IfOk r (λ value. view value ≡ spec.in_file c.args.units c.args.file c.args.krate (string id) lines None)) id (c.placeless_value.ensures lines c.args.units))

pub returns-clause-value : goal.returns-clause-value
returns-clause-value c =
    let r = c.placed_value.result in
    let lines = c.args.spots.now.lines in
    let place = c.in-Some.place in
    let some : place_of c.args.id c.args.spots.now.places ≡ Some place = search rules in
    let id : string_bytes c.in_ok-shown.shown ≡ shown_id c.args.id = search rules in
    let at : c.position_in-at.result ≡ position_in c.args.units lines (stands_at place) = search rules in
    subst (λ p. IfOk r (λ value. view value ≡ spec.in_file c.args.units c.args.file c.args.krate (string (shown_id c.args.id)) lines p)) (sym some)
    (subst (λ at. IfOk r (λ value. view value ≡ spec.placed_form c.args.file c.args.krate (string (shown_id c.args.id)) at place)) at
    (subst (λ id. IfOk r (λ value. view value ≡ spec.placed_form c.args.file c.args.krate (string id) c.position_in-at.result place)) id c.placed_value.ensures))
