-- Codes of aliases, of use trees and of uses.
use Rattle.std.specs.Prelude.{◌≡◌, ◌⊎◌, ℕ, List, [], ◌∷◌, Option, None, refl}
use Rattle.std.specs.Coded.{Coded, code_by, coded×, coded⊎, coded_list, coded_option, coded_ℕ}
use Rattle.std.proofs.Common.{inl, inr, ap}
use base.Stored.{coded_unit}
use Rattle.hir_input.specs.Path.{Path}
use Rattle.hir_input.specs.contracts.mod_path.PathKind as path_kind
use Rattle.hir_input.specs.declared.mod_path.PathKind.{PathKind}
use Rattle.item_tree.specs.declared.use_tree.ImportAlias.{ImportAlias}
use Rattle.item_tree.specs.contracts.use_tree.ImportAlias as import_alias
use Rattle.item_tree.specs.Tree.{Tree, single, glob, prefixed, Branches, no_branches, branch_and}
use Rattle.item_tree.specs.UseItem.{UseItem}

abbrev pub tree_path_code : Coded Path
tree_path_code =
    code_by (PathKind × List (List ℕ))
    (coded× path_kind.the_row.coded (coded_list (coded_list coded_ℕ)))
    (λ p. (p.kind, p.names))
    (λ p. record { kind = p.0; names = p.1 })
    (λ _. refl)

abbrev pub alias_code : Coded ImportAlias
alias_code = import_alias.the_row.coded

-- one step of trees written out: their end, or a node without those below it
abbrev pub TreeStep : Type 0
TreeStep = Unit {0} ⊎ ((Path × Option ImportAlias) ⊎ (Option Path ⊎ Option Path))

-- the steps of trees, before more of them
abbrev mutual
  pub write_tree : Tree → List TreeStep → List TreeStep
  write_tree (single p a) rest = inr (inl (p, a)) ∷ rest
  write_tree (glob p) rest = inr (inr (inl p)) ∷ rest
  write_tree (prefixed p ts) rest = inr (inr (inr p)) ∷ write ts rest

  pub write : Branches → List TreeStep → List TreeStep
  write no_branches rest = inl tt ∷ rest
  write (branch_and t ts) rest = write_tree t (write ts rest)

abbrev pub put : Tree → List Branches → List Branches
put t [] = []
put t (ts ∷ rest) = branch_and t ts ∷ rest

abbrev pub put_prefixed : Option Path → List Branches → List Branches
put_prefixed p [] = []
put_prefixed p (ts ∷ rest) = put (prefixed p ts) rest

abbrev pub take_step : TreeStep → List Branches → List Branches
take_step (inl _) rest = no_branches ∷ rest
take_step (inr (inl s)) rest = put (single s.0 s.1) rest
take_step (inr (inr (inl p))) rest = put (glob p) rest
take_step (inr (inr (inr p))) rest = put_prefixed p rest

-- the trees that the steps write
abbrev pub read : List TreeStep → List Branches
read [] = []
read (s ∷ ss) = take_step s (read ss)

mutual
  read-write_tree : (t : Tree) (ts : Branches) (rest : List TreeStep) (done : List Branches) → read rest ≡ ts ∷ done → read (write_tree t rest) ≡ branch_and t ts ∷ done
  read-write_tree (single p a) ts rest done e = Prim.rw e refl
  read-write_tree (glob p) ts rest done e = Prim.rw e refl
  read-write_tree (prefixed p inner) ts rest done e = Prim.rw (read-write inner rest, e) refl

  read-write : (ts : Branches) (rest : List TreeStep) → read (write ts rest) ≡ ts ∷ read rest
  read-write no_branches rest = refl
  read-write (branch_and t ts) rest = read-write_tree t ts (write ts rest) (read rest) (read-write ts rest)

abbrev pub first_branches : List Branches → Branches
first_branches [] = no_branches
first_branches (ts ∷ rest) = ts

pub first-read-write : (ts : Branches) → first_branches (read (write ts [])) ≡ ts
first-read-write ts = ap first_branches (read-write ts [])

abbrev pub branches_code : Coded Branches
branches_code =
    code_by (List TreeStep)
    (coded_list (coded⊎ coded_unit (coded⊎ (coded× tree_path_code (coded_option alias_code)) (coded⊎ (coded_option tree_path_code) (coded_option tree_path_code)))))
    (λ ts. write ts [])
    (λ ss. first_branches (read ss))
    first-read-write

-- a tree, and what stands where there is none
abbrev pub alone : Tree → Branches
alone t = branch_and t no_branches

abbrev pub head_tree : Branches → Tree
head_tree no_branches = glob None
head_tree (branch_and t ts) = t

abbrev pub tree_code : Coded Tree
tree_code = code_by Branches branches_code alone head_tree (λ _. refl)

abbrev pub use_item_code : Coded UseItem
use_item_code =
    code_by (ℕ × Tree)
    (coded× coded_ℕ tree_code)
    (λ u. (u.visibility, u.tree))
    (λ p. record { visibility = p.0; tree = p.1 })
    (λ _. refl)
