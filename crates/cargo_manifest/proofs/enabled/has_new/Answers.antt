use Rattle.std.proofs.Common.{map, rules, tests, sym, ◌∙◌}
use Rattle.std.proofs.lemmas.Iterator.{YieldsList-from_slice}
use Rattle.std.proofs.lemmas.Iterator.Search.{any_from_yields_List}
use Rattle.cargo_manifest.specs.Inner.{is_new, feature_step_view}
use Rattle.cargo_manifest.proofs.Lists.{any_of_map}
use Rattle.cargo_manifest.proofs.enabled.has_new.Goals as goal

pub returns : goal.returns
returns c =
    any_from_yields_List (λ s. is_new (map feature_step_view c.args.steps.now) (feature_step_view s)) _ _ _ c.any.ensures.ran (YieldsList-from_slice c.args.steps.now cc) (λ x b q k. search (rules, tests))
    ∙ sym (any_of_map (is_new (map feature_step_view c.args.steps.now)) feature_step_view c.args.steps.now)
