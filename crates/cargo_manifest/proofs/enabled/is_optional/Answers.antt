use Rattle.std.proofs.Common.{◌&&◌, bytes_eq, string_bytes, rules, tests, sym, ◌∙◌}
use Rattle.std.proofs.lemmas.Iterator.{YieldsList-from_slice}
use Rattle.std.proofs.lemmas.Iterator.Search.{any_from_yields_List}
use Rattle.cargo_manifest.specs.Views.{dependency_view}
use Rattle.cargo_manifest.proofs.Lists.{any_of_map}
use Rattle.cargo_manifest.proofs.enabled.is_optional.Goals as goal

pub returns : goal.returns
returns c =
    any_from_yields_List (λ d. d.is_optional && bytes_eq (string_bytes d.key) c.args.key.now) _ _ _ c.any.ensures.ran (YieldsList-from_slice c.args.dependencies.now cc) (λ x b q k. search (rules, tests))
    ∙ sym (any_of_map (λ d. d.is_optional && bytes_eq d.key c.args.key.now) dependency_view c.args.dependencies.now)
