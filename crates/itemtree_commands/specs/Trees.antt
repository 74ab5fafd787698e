-- What a Rust text's tree is.
use Rattle.std.specs.Prelude.{◌≡◌, ◌≢◌, ◌<◌, ◌≤◌, ◌^◌, ◌⊎◌, ℕ, Bool, true, false, Option, List, length, AllPairs, codes}
use Rattle.hir_input.specs.declared.edition.EditionYear.{EditionYear}
use Rattle.hir_input.specs.Name.{is_among}
use Rattle.item_tree.specs.declared.crate_data.CrateData.{CrateData}
use Rattle.item_tree.specs.declared.fault.LowerError.TheVariants.{OutOfMemory}
use Rattle.item_tree.specs.Lowered.{IsTooLargeIn, kept_in}
use Rattle.rust_metas.specs.declared.wanted.WantedMetas.{WantedMetas}
use Rattle.rust_metas.specs.declared.wanted.WantedMetas.TheVariants as wanted
use Rattle.rust_leaves.specs.declared.wanted.Wanted.{Wanted}
use Rattle.rust_items.specs.SourceFiles.{FileView, IsFileView}
use Rattle.source_rows.specs.Listed.{Closers}
use Rattle.source_rows.specs.ListedFiles.{IsListedFile, IsUnlisted}
use Rattle.source_rows.specs.declared.read_texts.ReadError.TheVariants as read
use Rattle.itemtree_commands.specs.declared.trees.SourceTree.{SourceTree}
use Rattle.itemtree_commands.specs.declared.trees.SourceError.{SourceError}
use Rattle.itemtree_commands.specs.declared.trees.SourceError.TheVariants.{TooLong, Lower}

-- what is kept of what was read, beside the places of items and use trees and the problems that were read
pub record IsTreeIn (krate : CrateData) (skipped : List (List ℕ)) (file : FileView) (t : SourceTree) : Type 0 where
  pub tree : t.tree ≡ kept_in krate false skipped file.syntax
  pub places : t.places.items ≡ file.places
  pub use_trees : t.use_trees.items ≡ file.use_trees
  pub problems : t.problems.items ≡ file.problems

-- the same of what is read of a text of an edition
pub record IsTreeOf (krate : CrateData) (skipped : List (List ℕ)) (edition : EditionYear) (text : List ℕ) (t : SourceTree) : Type 0 where
  pub file : FileView
  pub is_read : IsFileView edition text file
  pub is_tree : IsTreeIn krate skipped file t

-- and of what lists read of it
pub record IsListedTree (krate : CrateData) (skipped : List (List ℕ)) (edition : EditionYear) (text : List ℕ) (closers : Option Closers) (t : SourceTree) : Type 0 where
  pub file : FileView
  pub is_listed : IsListedFile edition text closers file
  pub is_tree : IsTreeIn krate skipped file t

-- no two items have one id
abbrev pub HasOwnIds : SourceTree → Type 0
HasOwnIds t = AllPairs (λ p q. p.id ≢ q.id) t.places.items

-- a text that is not read is too long, or memory runs out
abbrev pub IsTextUnread : List ℕ → SourceError → Type 0
IsTextUnread text TooLong = 2 ^ 32 < length text
IsTextUnread text (Lower e) = (length text ≤ 2 ^ 32) × (e ≡ OutOfMemory)

-- a text without a tree is too long, or what is read of it passes a size of the tree, or memory runs out
abbrev pub IsTreeRefused : CrateData → List (List ℕ) → EditionYear → List ℕ → SourceError → Type 0
IsTreeRefused krate skipped edition text TooLong = 2 ^ 32 < length text
IsTreeRefused krate skipped edition text (Lower e) =
    (length text ≤ 2 ^ 32) × ((e ≡ OutOfMemory) ⊎ ((file : FileView) × IsFileView edition text file × IsTooLargeIn krate false skipped file.syntax e))

-- the same for lists: the text or its mended one is too long, or what lists read passes a size, or memory runs out
abbrev pub IsListRefused : CrateData → List (List ℕ) → EditionYear → List ℕ → SourceError → Type 0
IsListRefused krate skipped edition text TooLong = IsUnlisted text read.TooLong
IsListRefused krate skipped edition text (Lower e) =
    (length text ≤ 2 ^ 32) × ((e ≡ OutOfMemory) ⊎ ((closers : Option Closers) × (file : FileView) × IsListedFile edition text closers file × IsTooLargeIn krate false skipped file.syntax e))

-- the metas that are wanted where documentation is skipped, or not
abbrev pub metas_under : Bool → WantedMetas
metas_under true = wanted.Undocumented
metas_under false = wanted.All

-- what is wanted of a text where these names are skipped: no body texts, and documentation unless it is skipped
abbrev pub wanted_under : List (List ℕ) → Wanted
wanted_under skipped = record { bodies = false; metas = metas_under (is_among skipped (codes "doc")) }
