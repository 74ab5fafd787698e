use Rattle.std.proofs.Common.{◌&&◌, rules, tests, sym, ◌∙◌}
use Rattle.std.proofs.lemmas.Iterator.{YieldsList-from_slice}
use Rattle.std.proofs.lemmas.Iterator.Search.{any_from_yields_List}
use Rattle.cargo_manifest.specs.Features.{is_text_among}
use Rattle.cargo_manifest.specs.Inner.{feature_node_view, feature_step_view}
use Rattle.cargo_manifest.proofs.Lists.{any_of_map}
use Rattle.cargo_manifest.proofs.enabled.is_enabled_by.Goals as goal

pub returns : goal.returns
returns c =
    any_from_yields_List (λ s. s.is_enabled && is_text_among (feature_node_view s.node.now).enables c.args.name.now) _ _ _ c.any.ensures.ran (YieldsList-from_slice c.args.steps.now cc) (λ x b q k. search (rules, tests))
    ∙ sym (any_of_map (λ s. s.is_enabled && is_text_among s.node.enables c.args.name.now) feature_step_view c.args.steps.now)
