-- The trees of a place under edits.
use Rattle.std.specs.Prelude.{ℕ, List, [], ◌∷◌, if◌then◌else◌, map, Option, Some}
use Rattle.hir_input.specs.Syntax.{SyntaxView}
use Rattle.item_tree.specs.CrateView.{CrateView}
use Rattle.item_tree.specs.Node.{nothing}
use Rattle.item_tree.specs.Code.Node.{unfolding_code}
use Rattle.item_tree.specs.Same.{same}
use Rattle.item_tree_db.specs.declared.rows.Row.{Row}
use Rattle.item_tree_db.specs.declared.place.Place.{Place}
use Rattle.item_tree_db.specs.State.{unfolding_of}

-- the empty tree
abbrev pub empty_row : ℕ → Row
empty_row n = record { tree = nothing; changed = n }

-- what a tree and its number become when the new tree comes with edit n
abbrev pub settled_row : ℕ → Row → Row → Row
settled_row n old new = if same unfolding_code old.tree new.tree then old else record { tree = new.tree; changed = n }

abbrev pub settle_all : ℕ → List Row → List Row → List Row
settle_all n [] news = []
settle_all n (old ∷ olds) [] = old ∷ olds
settle_all n (old ∷ olds) (new ∷ news) = settled_row n old new ∷ settle_all n olds news

-- all trees become empty with edit n
abbrev pub clear_all : ℕ → List Row → List Row
clear_all n = map (λ row. settled_row n row (empty_row n))

-- what edit n brings to a crate of a place with this present syntax
abbrev pub fresh_row : ℕ → List (List ℕ) → Place → Option CrateView → Option SyntaxView → Row
fresh_row n skipped place krate syntax = record { tree = unfolding_of skipped place krate syntax; changed = n }

-- what edit n brings to a crate when it sets this syntax of a place
abbrev pub brought : ℕ → List (List ℕ) → Place → SyntaxView → CrateView → Row
brought n skipped place syntax krate = fresh_row n skipped place (Some krate) (Some syntax)
