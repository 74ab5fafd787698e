-- one step on each turn; where none is new, the last turn finds the same
use Rattle.std.proofs.Common.{◌≡◌, ◌≤◌, false, map, length, arith, rules, add-one, sym, ap, ◌∙◌}
use Rattle.std.proofs.lemmas.List.{length-map}
use Rattle.std.specs.List.{list_any}
use Rattle.cargo_manifest.specs.Inner.{is_new, feature_node_view, step_after, feature_step_view}
use Rattle.cargo_manifest.specs.Views.{asked_features_view}
use Rattle.cargo_manifest.proofs.Enabling.{marks, next_marks, settled_marks}
use Rattle.cargo_manifest.proofs.enabled.last_steps.Goals as goal

pub returns-then-not-has_new : goal.returns-then-not-has_new
returns-then-not-has_new c =
    let none : c.has_new.result ≡ false = search rules in
    let no_new : list_any (is_new (map feature_step_view c.loop-turn.steps.items)) (map feature_step_view c.loop-turn.steps.items) ≡ false =
    ap (λ xs. list_any (is_new (map feature_step_view xs)) (map feature_step_view xs)) (sym c.deref.ensures.value) ∙ sym c.has_new.ensures ∙ none in
    let within : c.loop-turn._turn ≤ length (map feature_node_view c.args.nodes.now) = omega (arith, length-map c.args.nodes.now feature_node_view, c.loop-turn-test.true) in
    settled_marks (map feature_node_view c.args.nodes.now) (asked_features_view c.args.choice.now) c.loop-turn._turn _ (map feature_step_view c.loop-turn.steps.items) c.loop-turn.invariant no_new within

pub loop-turn-preserved : goal.loop-turn-preserved
loop-turn-preserved c =
    c.in_ok-steps-2.ensures
    ∙ ap (λ xs. map (step_after (map feature_step_view xs)) (map feature_step_view xs)) c.deref-in-loop-turn.ensures.value
    ∙ ap (λ ss. map (step_after ss) ss) c.loop-turn.invariant
    ∙ next_marks (map feature_node_view c.args.nodes.now) (asked_features_view c.args.choice.now) c.loop-turn._turn
    ∙ ap (marks (map feature_node_view c.args.nodes.now) (asked_features_view c.args.choice.now)) (sym (add-one c.loop-turn._turn))
