use Rattle.std.proofs.Common.{bytes_eq, string_bytes, rules, tests, sym, ◌∙◌}
use Rattle.std.proofs.lemmas.Iterator.{YieldsList-from_slice}
use Rattle.std.proofs.lemmas.Iterator.Search.{any_from_yields_List}
use Rattle.cargo_manifest.specs.Views.{feature_view}
use Rattle.cargo_manifest.proofs.Lists.{any_of_map}
use Rattle.cargo_manifest.proofs.features.has_feature.Goals as goal

pub returns : goal.returns
returns c =
    any_from_yields_List (λ f. bytes_eq (string_bytes f.name) c.args.name.now) _ _ _ c.any.ensures.ran (YieldsList-from_slice c.args.features.now cc) (λ x b q k. search (rules, tests))
    ∙ sym (any_of_map (λ f. bytes_eq f.name c.args.name.now) feature_view c.args.features.now)
