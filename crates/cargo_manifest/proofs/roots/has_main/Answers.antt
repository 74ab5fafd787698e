use Rattle.std.proofs.Common.{rules, tests, sym, ◌∙◌}
use Rattle.std.proofs.lemmas.Iterator.{YieldsList-from_slice}
use Rattle.std.proofs.lemmas.Iterator.Search.{any_from_yields_List}
use Rattle.cargo_manifest.specs.Views.{root_view}
use Rattle.cargo_manifest.specs.Roots.{is_main}
use Rattle.cargo_manifest.proofs.Lists.{any_of_map}
use Rattle.cargo_manifest.proofs.roots.has_main.Goals as goal

pub returns : goal.returns
returns c =
    any_from_yields_List (λ r. is_main c.args.package_name.now (root_view r)) _ _ _ c.any.ensures.ran (YieldsList-from_slice c.args.roots.now cc) (λ x b q k. search (rules, tests))
    ∙ sym (any_of_map (is_main c.args.package_name.now) root_view c.args.roots.now)
