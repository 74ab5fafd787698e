-- Refusals.
use Rattle.std.proofs.Common.{◌≡◌, ◌≤◌, ◌^◌, ℕ, false, List, Option, length, inl, inr, refl}
use Rattle.itemtree_commands.proofs.Common.{EditionYear, CrateData, Lower, IsTooLargeIn, IsTreeRefused, IsTextUnread, syntax_view}
use Rattle.item_tree.specs.declared.fault.LowerError.{LowerError}
use Rattle.rust_leaves.specs.declared.wanted.Wanted.{Wanted}
use Rattle.rust_items.specs.declared.source_file.SourceFile.{SourceFile}
use Rattle.rust_items.specs.SourceFiles.{file_view}
use Rattle.source_rows.specs.Listed.{Closers}
use Rattle.source_rows.specs.declared.read_texts.ReadError.{ReadError}
use Rattle.source_rows.specs.declared.read_texts.ReadError.TheVariants as read
use Rattle.source_rows.specs.ListedFiles.{IsListedClipped, IsUnlisted, IsUnreadText}
use Rattle.itemtree_commands.specs.Inner.{IsClippedRefused, error_told}
use Rattle.itemtree_commands.specs.declared.trees.SourceError.{SourceError}
use Rattle.itemtree_commands.specs.declared.trees.SourceError.TheVariants.{TooLong}
use Rattle.item_tree.specs.declared.fault.LowerError.TheVariants.{OutOfMemory}
use Rattle.itemtree_commands.specs.declared.Options.{Options}
use Rattle.itemtree_commands.specs.Answers.{HasNoList}

-- memory runs out
pub no_memory : (krate : CrateData) (skipped : List (List ℕ)) (edition : EditionYear) (text : List ℕ) → length text ≤ 2 ^ 32 → IsTreeRefused krate skipped edition text (Lower OutOfMemory)
no_memory krate skipped edition text short = (short, inl refl)

-- the same of a text that is only read
pub no_memory_to_read : (text : List ℕ) → length text ≤ 2 ^ 32 → IsTextUnread text (Lower OutOfMemory)
no_memory_to_read text short = (short, refl)

-- a text is not read
pub unread_told : (text : List ℕ) (e : ReadError) → IsUnreadText text e → IsTextUnread text (error_told e)
unread_told text read.TooLong h = h
unread_told text read.OutOfMemory h = (h, refl)

-- nor for a list
pub unlisted_told : (w : Wanted) (krate : CrateData) (skipped : List (List ℕ)) (edition : EditionYear) (text : List ℕ) (e : ReadError) → IsUnlisted text e → IsClippedRefused w krate skipped edition text (error_told e)
unlisted_told w krate skipped edition text read.TooLong h = h
unlisted_told w krate skipped edition text read.OutOfMemory h = (h, inl refl)

-- memory ran out only where the text is short
pub refused_short : (w : Wanted) (krate : CrateData) (skipped : List (List ℕ)) (edition : EditionYear) (text : List ℕ) (e : SourceError) → IsClippedRefused w krate skipped edition text e → e ≡ Lower OutOfMemory → length text ≤ 2 ^ 32
refused_short w krate skipped edition text TooLong h is = absurd cc
refused_short w krate skipped edition text (Lower e) h is = h.0

-- memory runs out behind what is read for a list
pub clipped_no_memory : (w : Wanted) (krate : CrateData) (skipped : List (List ℕ)) (edition : EditionYear) (text : List ℕ) → length text ≤ 2 ^ 32 → IsClippedRefused w krate skipped edition text (Lower OutOfMemory)
clipped_no_memory w krate skipped edition text short = (short, inl refl)

-- what is read passes a size
pub large_told : (w : Wanted) (krate : CrateData) (skipped : List (List ℕ)) (edition : EditionYear) (text : List ℕ) (closers : Option Closers) (file : SourceFile) (e : LowerError) → length text ≤ 2 ^ 32 → IsListedClipped w edition text closers (file_view file)
    → IsTooLargeIn krate false skipped (syntax_view file.syntax) e → IsClippedRefused w krate skipped edition text (Lower e)
large_told w krate skipped edition text closers file e short read large = (short, inr (closers, file_view file, read, large))

-- memory runs out behind it
pub no_list : (o : Options) (text : List ℕ) → length text ≤ 2 ^ 32 → HasNoList o text (Lower OutOfMemory)
no_list o text short = (short, inl refl)
