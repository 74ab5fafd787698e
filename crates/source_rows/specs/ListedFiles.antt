-- What lists read of a text.
use Rattle.std.specs.Prelude.{◌≡◌, ◌≢◌, ◌<◌, ◌≤◌, ◌^◌, ◌⊎◌, ℕ, Option, Some, None, IfSome, option_map, List, [], ◌∷◌, length, map, string_bytes, AllPairs}
use Rattle.hir_input.specs.declared.edition.EditionYear.{EditionYear}
use Rattle.rust_leaves.specs.declared.wanted.Wanted.{Wanted}
use Rattle.rust_mended.specs.declared.edit.Edit.{Edit}
use Rattle.rust_mended.specs.Texts.{edits, mended_text, puts}
use Rattle.rust_items.specs.declared.log.Problem.{Problem}
use Rattle.rust_items.specs.declared.source_file.ItemPlace.{ItemPlace}
use Rattle.rust_items.specs.declared.source_file.SourceFile.{SourceFile}
use Rattle.rust_items.specs.SourceFiles.{FileView, IsFileView, bare_file, clipped_file}
use Rattle.source_rows.specs.Listed.{Closers, told_place, told_item}
use Rattle.source_rows.specs.ListedViews.{closers_view}
use Rattle.source_rows.specs.declared.mended_file.MendedFile.{MendedFile}
use Rattle.source_rows.specs.declared.read_texts.ReadError.{ReadError}
use Rattle.source_rows.specs.declared.read_texts.ReadError.TheVariants.{TooLong, OutOfMemory}

-- where closers are put in the mended text of a text, if it is another, and these items stand in that
abbrev pub closers_by : List ItemPlace → List Edit → List ℕ → Option Closers
closers_by items [] at = None
closers_by items (e ∷ es) at = Some (record { puts = at; items = items })

abbrev pub closers_of : List ℕ → List ItemPlace → Option Closers
closers_of text items = closers_by items (edits text) (puts text)

-- the same of a text of which the reader tells these problems; where it tells none, the text is not mended
abbrev pub listed_closers : List ℕ → List Problem → List ItemPlace → Option Closers
listed_closers text [] items = None
listed_closers text (p ∷ ps) items = closers_of text items

-- the text that is read for lists, by where closers were put in it
abbrev pub listed_text : List ℕ → Option Closers → List ℕ
listed_text text None = text
listed_text text (Some c) = mended_text text

-- what was read of that text, with the places of the text itself, and these problems
abbrev pub told_file : Option Closers → List Problem → FileView → FileView
told_file closers problems file = record { syntax = file.syntax; places = map (told_item closers) file.places; use_trees = map (told_place closers) file.use_trees; problems = problems }

-- What lists read of a text: where its reader tells problems, what is read of its mended text. Places and problems are those of the text itself; where closers were put, the places in the mended text are kept beside them.
pub record IsListedFile (edition : EditionYear) (text : List ℕ) (closers : Option Closers) (file : FileView) : Type 0 where
  pub own : FileView
  pub is_own : IsFileView edition text own
  pub read : FileView
  pub is_mended : closers ≡ listed_closers text own.problems read.places
  pub is_read : IsFileView edition (listed_text text closers) read
  pub told : file ≡ told_file closers own.problems read

-- the same with what is wanted of it
pub record IsListedClipped (w : Wanted) (edition : EditionYear) (text : List ℕ) (closers : Option Closers) (file : FileView) : Type 0 where
  pub read : FileView
  pub is_read : IsListedFile edition text closers read
  pub clipped : file ≡ clipped_file w read

-- the same without the texts of bodies
pub record IsListedBare (edition : EditionYear) (text : List ℕ) (closers : Option Closers) (file : FileView) : Type 0 where
  pub read : FileView
  pub is_read : IsListedFile edition text closers read
  pub bare : file ≡ bare_file read

-- ---- the code's

-- where closers were put, by the mended text if that was read
abbrev pub closers_in : Option MendedFile → Option Closers
closers_in mended = option_map closers_view mended

-- the mended text, if that was read, is that of a text, with what was done to it
abbrev pub HasTextOf : List ℕ → Option MendedFile → Type 0
HasTextOf text mended = IfSome mended (λ m. (string_bytes m.mended.text ≡ mended_text text) × (m.mended.edits.items ≡ edits text))

-- no two items have one id
abbrev pub HasFileIds : SourceFile → Type 0
HasFileIds file = AllPairs (λ p q. p.id ≢ q.id) file.places.items

-- a text that is not read is too long, or memory runs out
abbrev pub IsUnreadText : List ℕ → ReadError → Type 0
IsUnreadText text TooLong = 2 ^ 32 < length text
IsUnreadText text OutOfMemory = length text ≤ 2 ^ 32

-- the same where it is read for lists: it is too long, or its mended text is
abbrev pub IsUnlisted : List ℕ → ReadError → Type 0
IsUnlisted text TooLong = (2 ^ 32 < length text) ⊎ (2 ^ 32 < length (mended_text text))
IsUnlisted text OutOfMemory = length text ≤ 2 ^ 32
