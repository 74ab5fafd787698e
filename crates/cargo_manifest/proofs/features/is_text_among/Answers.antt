use Rattle.std.proofs.Common.{bytes_eq, string_bytes, rules, tests, sym, ◌∙◌}
use Rattle.std.proofs.lemmas.Iterator.{YieldsList-from_slice}
use Rattle.std.proofs.lemmas.Iterator.Search.{any_from_yields_List}
use Rattle.cargo_manifest.proofs.Lists.{any_of_map}
use Rattle.cargo_manifest.proofs.features.is_text_among.Goals as goal

pub returns : goal.returns
returns c =
    any_from_yields_List (λ t. bytes_eq (string_bytes t) c.args.text.now) _ _ _ c.any.ensures.ran (YieldsList-from_slice c.args.texts.now.items cc) (λ x b q k. search (rules, tests))
    ∙ sym (any_of_map (λ t. bytes_eq t c.args.text.now) string_bytes c.args.texts.now.items)
