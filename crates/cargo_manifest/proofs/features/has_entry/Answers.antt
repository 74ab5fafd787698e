use Rattle.std.proofs.Common.{rules, tests, sym, ◌∙◌}
use Rattle.std.proofs.lemmas.Iterator.{YieldsList-from_slice}
use Rattle.std.proofs.lemmas.Iterator.Search.{any_from_yields_List}
use Rattle.cargo_manifest.specs.Views.{feature_view, texts_view}
use Rattle.cargo_manifest.specs.Features.{is_text_among}
use Rattle.cargo_manifest.proofs.Lists.{any_of_map}
use Rattle.cargo_manifest.proofs.features.has_entry.Goals as goal

pub returns : goal.returns
returns c =
    any_from_yields_List (λ f. is_text_among (texts_view f.entries) c.args.entry.now) _ _ _ c.any.ensures.ran (YieldsList-from_slice c.args.features.now cc) (λ x b q k. search (rules, tests))
    ∙ sym (any_of_map (λ f. is_text_among f.entries c.args.entry.now) feature_view c.args.features.now)
