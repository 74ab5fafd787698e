-- What the parts of `Use::expand` promise each other.
use Rattle.std.specs.Prelude.{ℕ, suc, ◌+◌, ◌≡◌, List, [], ◌∷◌, ◌++◌, length, Option, Some, None}
use Rattle.std.specs.List.{FoldsTo}
use Rattle.std.proofs.Common.{Bor}
use Rattle.hir_input.specs.Path.{Path}
use Rattle.hir_input.specs.declared.mod_path.PathKind.{PathKind}
use Rattle.hir_input.specs.declared.mod_path.PathKind.TheVariants.{Plain, Super}
use Rattle.item_tree.specs.Tree.{Branches, branch_nodes}
use Rattle.item_tree.specs.Imports.{super_count}

-- calls at a beginning of a list were made, and calls at the rest are still to come
pub record CallsLeft {F A : Type 0} (step : F → A → F → Type 0) (f : F) (xs : List A) (g : F) (ys : List A) : Type 0 where
  pub done : List A
  pub is_front : done ++ ys ≡ xs
  pub calls : FoldsTo step f done g

-- the path that stands before a use tree, as a chain of prefixes
abbrev pub chain_of : Option (Bor Path) → List Path
chain_of None = []
chain_of (Some p) = p.now ∷ []

-- how often `super` stands in it
abbrev pub supers_before : Option (Bor Path) → ℕ
supers_before None = 0
supers_before (Some p) = super_count p.now.kind

-- the kind of what a path means behind one of a kind with names
abbrev pub joined_kind : PathKind → List (List ℕ) → PathKind → Option PathKind
joined_kind front names Plain = Some front
joined_kind (Super above) [] (Super (suc more)) = Some (Super (above + suc more))
joined_kind front names kind = None

-- how many nodes trees have
abbrev pub branch_count : Branches → ℕ
branch_count ts = length (branch_nodes ts)
