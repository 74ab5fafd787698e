-- What lowering gives, in the words of its clauses.
use Rattle.std.specs.Prelude.{ℕ, Bool, List, Option, Result, option_map, IfOk, IfSome}
use Rattle.std.specs.declared.alloc.Global.{Global}
use Rattle.std.specs.declared.vec.Vec.{Vec}
use Rattle.hir_input.specs.Bodies.{without_bodies}
use Rattle.hir_input.specs.Syntax.{SyntaxView}
use Rattle.item_tree.specs.declared.crate_data.CrateData.{CrateData}
use Rattle.item_tree.specs.declared.fault.LowerError.{LowerError}
use Rattle.item_tree.specs.declared.use_tree.UseTree.{UseTree}
use Rattle.item_tree.specs.CrateView.{crate_view}
use Rattle.item_tree.specs.Kept.{kept_syntax}
use Rattle.item_tree.specs.Node.{Unfolding}
use Rattle.item_tree.specs.Size.{FitsWith, IsTooLarge}
use Rattle.item_tree.specs.Tree.{Tree, tree_of}

-- what is kept of a syntax in a crate
abbrev pub kept_in : CrateData → Bool → List (List ℕ) → SyntaxView → Unfolding
kept_in krate is_root skipped syntax = kept_syntax is_root (crate_view krate) skipped syntax

-- and of the same without its body texts
abbrev pub kept_without_bodies : CrateData → Bool → List (List ℕ) → SyntaxView → Unfolding
kept_without_bodies krate is_root skipped syntax = kept_in krate is_root skipped (without_bodies syntax)

-- no size is passed by the syntax and by what is kept of it; the error names one that is passed, or out of memory
abbrev pub FitsIn : CrateData → Bool → List (List ℕ) → SyntaxView → Type 0
FitsIn krate is_root skipped syntax = FitsWith syntax (kept_in krate is_root skipped syntax)

-- the error names a size that a syntax of this crate passes
abbrev pub IsTooLargeIn : CrateData → Bool → List (List ℕ) → SyntaxView → LowerError → Type 0
IsTooLargeIn krate is_root skipped syntax e = IsTooLarge syntax (kept_in krate is_root skipped syntax) e

-- the tree of a lowered use tree, if one is kept
abbrev pub lowered_tree : Option (UseTree × Vec ℕ Global) → Option Tree
lowered_tree lowered = option_map (λ both. tree_of both.0) lowered

-- where a use tree is kept, its tree and its places are so
abbrev pub IfKept : Result (Option (UseTree × Vec ℕ Global)) LowerError → (Tree → List ℕ → Type 0) → Type 0
IfKept result P = IfOk result (λ lowered. IfSome lowered (λ both. P (tree_of both.0) both.1.items))
