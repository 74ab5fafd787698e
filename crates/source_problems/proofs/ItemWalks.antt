-- All items of a file.
use Rattle.std.proofs.Common.{◌≡◌, List, [], ◌++◌, sym, ap, ◌∙◌, append-nil, append_assoc}
use Rattle.hir_input.specs.Syntax.{ItemView}
use Rattle.rust_items.specs.declared.source_file.ItemPlace.{ItemPlace}
use Rattle.source_problems.specs.declared.problem.SourceProblem.{SourceProblem}
use Rattle.source_problems.specs.Inner.{Walks}
use Rattle.source_problems.specs.Items.{placed_problems}

-- what is wrong with items, behind what is wrong with attributes
pub walked : (old attrs before after : List SourceProblem) (is : List ItemView) (places left : List ItemPlace) → before ≡ old ++ attrs → Walks is before places after left
    → after ≡ old ++ (attrs ++ placed_problems is places)
walked old attrs before after is places left e walks =
    sym (append-nil after) ∙ sym (walks []) ∙ ap (λ xs. before ++ placed_problems xs places) (append-nil is) ∙ ap (λ b. b ++ placed_problems is places) e
    ∙ append_assoc old attrs (placed_problems is places)
