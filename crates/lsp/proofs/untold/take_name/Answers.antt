use Rattle.std.proofs.Common.{rules, ℕ, Bool, List, map, not, bytes_eq, string_bytes, ap, ◌∙◌}
use Rattle.std.proofs.lemmas.Fn.{filter_same}
use Rattle.source_listing.proofs.ChosenRows.{filter-seen}
use Rattle.lsp.proofs.untold.take_name.Goals as goal

pub returns : goal.returns
returns c =
    let test : List ℕ → Bool = λ name. not (bytes_eq name c.args.uri.now) in
    let kept = filter_same _ (λ name. test (string_bytes name)) _ (λ x b f k. search rules) _ _ c.retain.ensures.filtered in
    ap (map string_bytes) kept ∙ filter-seen string_bytes test c.args.names.now.items
