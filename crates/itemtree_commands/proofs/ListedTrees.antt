-- The trees that lists tell of texts.
use Rattle.std.proofs.Common.{◌≡◌, ℕ, List, Option, Some, None, Bool, inl, inr, refl, ap, ◌∙◌}
use Rattle.itemtree_commands.proofs.Common.{EditionYear, CrateData, Lower, wanted_under}
use Rattle.rust_items.specs.SourceFiles.{FileView}
use Rattle.source_rows.specs.declared.mended_file.MendedFile.{MendedFile}
use Rattle.source_listing.specs.Lines.{Source}
use Rattle.source_rows.specs.ListedFiles.{HasTextOf, closers_in}
use Rattle.itemtree_commands.specs.declared.Options.{Options}
use Rattle.itemtree_commands.specs.declared.listed.ListedTree.{ListedTree}
use Rattle.itemtree_commands.specs.declared.trees.SourceError.{SourceError}
use Rattle.itemtree_commands.specs.declared.trees.SourceError.TheVariants.{TooLong}
use Rattle.itemtree_commands.specs.Answers.{cfgs_if, reading_in}
use Rattle.itemtree_commands.specs.Inner.{IsClippedRefused, IsClippedTree, reading_by}
use Rattle.itemtree_commands.specs.Trees.{IsListRefused, IsListedTree}
use Rattle.itemtree_commands.proofs.BareTrees.{large_whole, tree_whole}

module _ (krate : CrateData) (skipped : List (List ℕ)) (edition : EditionYear) (text : List ℕ) where
  -- the tree of what is wanted of what lists read is that which lists tell
  pub tree_listed : (x : ListedTree) → IsClippedTree (wanted_under skipped) krate skipped edition text x → IsListedTree krate skipped edition text (closers_in x.mended) x.source
  tree_listed x b = let read = b.is_clipped.is_read in
      record {
        file = b.is_clipped.read;
        is_listed = read;
        is_tree = tree_whole krate skipped b.is_clipped.read b.file _ _ (ap (λ (f : FileView). f.syntax) read.told ∙ read.is_read.syntax) b.is_clipped.clipped x.source b.is_tree;
      }

  -- and where there is none of that, there is none of this
  pub refused_listed : (e : SourceError) → IsClippedRefused (wanted_under skipped) krate skipped edition text e → IsListRefused krate skipped edition text e
  refused_listed TooLong h = h
  refused_listed (Lower e) (short, inl memory) = (short, inl memory)
  refused_listed (Lower e) (short, inr (closers, file, b, large)) =
      (short, inr (closers, b.read, b.is_read, large_whole krate skipped b.read file _ _ (ap (λ (f : FileView). f.syntax) b.is_read.told ∙ b.is_read.is_read.syntax) b.clipped e large))

-- what headers and members are read of
pub same_reading : (o : Options) (has_members : Bool) (s : Source) (m : Option MendedFile) → HasTextOf s.text m → reading_by o has_members s.text m ≡ reading_in o has_members s (closers_in m)
same_reading o has_members s None h = refl
same_reading o has_members s (Some m) h = ap (λ (z : List ℕ). record { text = z; closers = closers_in (Some m); edition = o.edition.year; options = cfgs_if o has_members }) h.0
