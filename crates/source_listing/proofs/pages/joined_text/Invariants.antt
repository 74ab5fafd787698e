use Rattle.std.proofs.Common.{◌≡◌, ◌++◌, ◌∷◌, [], map, take, string_bytes, flat_map}
use Rattle.source_listing.proofs.pages.joined_text.Given as goal

abbrev pub invariant-loop-line : goal.invariant-loop-line
invariant-loop-line l = string_bytes l.text ≡ string_bytes l.initial.text ++ flat_map (λ y. (10 ∷ []) ++ y) (map (λ x. x.now) (take l.line-index l.rest))
