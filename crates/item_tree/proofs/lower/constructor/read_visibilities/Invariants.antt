use Rattle.std.proofs.Common.{◌≡◌, ◌∷◌, ◌++◌, drop, map, option_copied}
use Rattle.item_tree.proofs.Common.{read_visibility}
use Rattle.item_tree.proofs.lower.constructor.read_visibilities.Given as goal

abbrev pub invariant-loop-field : goal.invariant-loop-field
invariant-loop-field l = l.all.items ++ map read_visibility (map (λ f. f.visibility) (drop l.field-index l.fields)) ≡ read_visibility (option_copied l.own) ∷ map read_visibility (map (λ f. f.visibility) l.fields)
