-- What is listed of rows is what is listed of the whole tree.
use Rattle.std.proofs.Common.{◌≡◌, ◌∙◌, ℕ, Bool, List, Option, ap}
use Rattle.tree_walk.specs.Rows.{RowView, rows}
use Rattle.source_listing.specs.Uses.{FilePlaces}
use Rattle.source_rows.specs.Listed.{Closers, MemberReading}
use Rattle.source_listing.specs.Lines.{Source}
use Rattle.source_rows.specs.ListedFiles.{HasTextOf, closers_in}
use Rattle.itemtree_commands.specs.Answers.{HasListed, all_places, reading_in}
use Rattle.itemtree_commands.specs.Inner.{HasListedRows, reading_by}
use Rattle.itemtree_commands.specs.declared.Options.{Options}
use Rattle.itemtree_commands.specs.declared.listed.ListedTree.{ListedTree}
use Rattle.itemtree_commands.specs.declared.trees.SourceTree.{SourceTree}
use Rattle.itemtree_commands.proofs.ListedTrees.{same_reading}
use Rattle.itemtree_commands.proofs.RowTrees.{same_listed}

-- the same of what a command writes
pub listed_of_rows : (o : Options) (has_members : Bool) (s : Source) (x : ListedTree) (out : List ℕ) (list : MemberReading → FilePlaces → List RowView → List ℕ) → HasTextOf s.text x.mended → HasListedRows o.krate o.skipped.items o.edition.year s.text x
    → out ≡ list (reading_by o has_members s.text x.mended) (all_places x.source) (rows x.source.tree)
    → (c : Option Closers) × (t : SourceTree) × HasListed o s.text c t × (out ≡ list (reading_in o has_members s c) (all_places t) (rows t.tree))
listed_of_rows o has_members s x out list text tree is =
    let read = ap (λ r. list r (all_places x.source) (rows x.source.tree)) (same_reading o has_members s x.mended text) in
    let whole = same_listed tree (list (reading_in o has_members s (closers_in x.mended))) in
    (closers_in x.mended, tree.whole, tree.is_listed, is ∙ read ∙ whole)
