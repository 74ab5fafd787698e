-- Imports, where they stand.
use Rattle.std.specs.Prelude.{ℕ, List, [], Option, Some, None, option_map, flat_map}
use Rattle.hir_input.specs.declared.ids.FileAstId.{FileAstId}
use Rattle.item_tree.specs.Imports.{Import}
use Rattle.item_tree.specs.Node.{Forest, node_ast}
use Rattle.tree_walk.specs.Declarations.{Declared, declared_name, declared_imports, declarations}
use Rattle.tree_walk.specs.DeclarationView.{DeclarationView, view_of}
use Rattle.line_index.specs.declared.Units.{Units}
use Rattle.source_rows.specs.declared.finder.Spot.{Spot}
use Rattle.source_listing.specs.Uses.{FilePlaces, import_spot_in}

-- by columns of these units
abbrev pub spots_of_any : Units → List ℕ → FilePlaces → Option FileAstId → ℕ → Option Spot
spots_of_any units text places None index = None
spots_of_any units text places (Some id) index = import_spot_in units text places id index

-- what is told of imports, by what is told of each with the places of use trees by their numbers
module _ {A : Type 0} (each : (ℕ → Option Spot) → Import → List A) where
  -- of what is declared, which holds imports in a use alone
  abbrev pub of_declared : (ℕ → Option Spot) → Declared → List A
  of_declared spots (declared_name name) = []
  of_declared spots (declared_imports xs) = flat_map (each spots) xs

  -- of a declaration
  abbrev pub of_seen : Units → List ℕ → FilePlaces → DeclarationView → List A
  of_seen units text places d = of_declared (spots_of_any units text places (option_map node_ast d.node)) d.declared

  -- of the imports of all uses, in the order in which they are written
  abbrev pub of_uses : Units → List ℕ → FilePlaces → Forest → List A
  of_uses units text places f = flat_map (λ d. of_seen units text places (view_of d)) (declarations f)
