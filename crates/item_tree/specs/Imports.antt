-- The imports of a use tree.
use Rattle.std.specs.Prelude.{ℕ, zero, ◌+◌, ◌-◌, ◌^◌, max, Bool, true, false, List, [], ◌∷◌, ◌++◌, Option, Some, None, flat_map}
use Rattle.hir_input.specs.declared.mod_path.PathKind.{PathKind}
use Rattle.hir_input.specs.declared.mod_path.PathKind.TheVariants as path
use Rattle.hir_input.specs.Path.{Path}
use Rattle.hir_input.specs.Words.{words, read_words}
use Rattle.item_tree.specs.declared.use_tree.ImportAlias.{ImportAlias}
use Rattle.item_tree.specs.declared.use_tree.ImportKind.{ImportKind}
use Rattle.item_tree.specs.declared.use_tree.ImportKind.TheVariants.{Plain, Glob, TypeOnly}
use Rattle.item_tree.specs.Tree.{Tree, Branches, single, glob, prefixed, no_branches, branch_and, tree_count}

-- `self` alone
abbrev pub is_self_by : PathKind → List (List ℕ) → Bool
is_self_by (path.Super zero) [] = true
is_self_by kind names = false

abbrev pub is_self : Path → Bool
is_self p = is_self_by p.kind p.names

-- the path that the words of a chain of paths mean, all of them read at once
abbrev pub read_chain : List Path → Option Path
read_chain chain = read_words (flat_map words chain)

-- an import: the index of its leaf, its path, its kind and its alias
pub record Import : Type 0 where
  pub index : ℕ
  pub path : Path
  pub kind : ImportKind
  pub alias : Option ImportAlias

-- the import of a leaf, if its words mean a path
abbrev pub import_of : ℕ → ImportKind → Option ImportAlias → Option Path → List Import
import_of index kind alias None = []
import_of index kind alias (Some p) = record { index = index; path = p; kind = kind; alias = alias } ∷ []

-- what a path below prefixes means: `self` alone, where there are prefixes, stands for them
abbrev pub read_below : Bool → List Path → Path → Option Path
read_below true (q ∷ prefixes) p = read_chain (q ∷ prefixes)
read_below self prefixes p = read_chain (prefixes ++ p ∷ [])

-- and what is imported by it: then a type alone
abbrev pub kind_below : Bool → List Path → ImportKind
kind_below true (q ∷ prefixes) = TypeOnly
kind_below self prefixes = Plain

-- what a star means, with a path in front of it or none
abbrev pub read_star : List Path → Option Path → Option Path
read_star prefixes None = read_chain prefixes
read_star prefixes (Some p) = read_below (is_self p) prefixes p

-- the imports of a tree below prefixes, in the order of its leaves; its first node has this index
abbrev mutual
  pub imports_from : List Path → ℕ → Tree → List Import
  imports_from prefixes index (single p alias) = import_of index (kind_below (is_self p) prefixes) alias (read_below (is_self p) prefixes p)
  imports_from prefixes index (glob p) = import_of index Glob None (read_star prefixes p)
  imports_from prefixes index (prefixed None ts) = all_imports_from prefixes (index + 1) ts
  imports_from prefixes index (prefixed (Some p) ts) = all_imports_from (prefixes ++ p ∷ []) (index + 1) ts

  pub all_imports_from : List Path → ℕ → Branches → List Import
  all_imports_from prefixes index no_branches = []
  all_imports_from prefixes index (branch_and t ts) = imports_from prefixes index t ++ all_imports_from prefixes (index + tree_count t) ts

-- the imports of a use tree
abbrev pub imports : Tree → List Import
imports t = imports_from [] 0 t

-- ---- how often `super` stands

abbrev pub super_count : PathKind → ℕ
super_count (path.Super n) = n
super_count kind = 0

abbrev pub supers_in : Option Path → ℕ
supers_in None = 0
supers_in (Some p) = super_count p.kind

-- the most times that `super` stands in the paths from the root to a node, with n above the root
abbrev mutual
  pub most_supers : ℕ → Tree → ℕ
  most_supers n (single p alias) = n + super_count p.kind
  most_supers n (glob p) = n + supers_in p
  most_supers n (prefixed p ts) = max (n + supers_in p) (all_most_supers (n + supers_in p) ts)

  pub all_most_supers : ℕ → Branches → ℕ
  all_most_supers n no_branches = 0
  all_most_supers n (branch_and t ts) = max (most_supers n t) (all_most_supers n ts)

abbrev pub super_limit : ℕ
super_limit = 2 ^ 32 - 1
