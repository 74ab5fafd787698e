-- Source files.
use Rattle.std.specs.Prelude.{◌≡◌, ℕ, true, List, [], ◌∷◌, map}
use Rattle.hir_input.specs.declared.edition.EditionYear.{EditionYear}
use Rattle.hir_input.specs.declared.ids.FileAstId.{FileAstId}
use Rattle.hir_input.specs.Bodies.{without_bodies}
use Rattle.hir_input.specs.Syntax.{ItemView, ItemViews, SyntaxView, source_file, items_from, syntax_view}
use Rattle.rust_cursor.specs.Tokens.{Tokens, tokens_of}
use Rattle.rust_metas.specs.Attributes.{inner_attributes}
use Rattle.rust_metas.specs.Docs.{kept_metas}
use Rattle.rust_ids.specs.Ids.{AreIds}
use Rattle.rust_leaves.specs.declared.wanted.Wanted.{Wanted}
use Rattle.rust_leaves.specs.Clipped.{clipped_list}
use Rattle.rust_items.specs.declared.log.ItemSpan.{ItemSpan}
use Rattle.rust_items.specs.declared.log.Problem.{Problem}
use Rattle.rust_items.specs.declared.log.ProblemKind.TheVariants as problem
use Rattle.rust_items.specs.declared.source_file.ItemPlace.{ItemPlace}
use Rattle.rust_items.specs.declared.source_file.SourceFile.{SourceFile}
use Rattle.rust_items.specs.Found.{Found, nothing_found, and_problem_at}
use Rattle.rust_items.specs.Ids.{with_ids}
use Rattle.rust_items.specs.Items.{items}
use Rattle.rust_items.specs.LineEnds.{with_feeds, place_in, moved_span, moved_problem}

-- ids with the places of their items
abbrev pub places : List FileAstId → List ItemSpan → List ItemPlace
places [] spans = []
places (id ∷ ids) [] = []
places (id ∷ ids) (s ∷ spans) = record { id = id; range = s.range; name = s.name; body = s.body } ∷ places ids spans

-- the text of an edition behind its inner attributes
abbrev pub behind_attributes : EditionYear → List ℕ → Tokens
behind_attributes edition text = (inner_attributes (tokens_of edition text)).1

-- the items of a text without their ids, what is found beside them, and what is left
abbrev pub read_of : EditionYear → List ℕ → List ItemView × (Found × Tokens)
read_of edition text = items true 128 nothing_found (behind_attributes edition text)

-- What is found in a text. That a token is not ended is told of the last one alone; an open `'` ends with its line and is not told.
unfoldable pub found_in : EditionYear → List ℕ → Found
found_in edition text = and_problem_at problem.Unterminated (read_of edition text).1.1.unended (read_of edition text).1.0

-- the items of a text, without their ids
unfoldable pub items_in : EditionYear → List ℕ → ItemViews
items_in edition text = items_from (read_of edition text).0

-- what is read of a text, as plain data
pub record FileView : Type 0 where
  pub syntax : SyntaxView
  pub places : List ItemPlace
  pub use_trees : List ℕ
  pub problems : List Problem

abbrev pub file_view : SourceFile → FileView
file_view file = record { syntax = syntax_view file.syntax; places = file.places.items; use_trees = file.use_trees.items; problems = file.problems.items }

-- what is read of a text without returns, with the places that these have in another
pub record IsFile (edition : EditionYear) (text : List ℕ) (place : ℕ → ℕ) (file : FileView) : Type 0 where
  -- each item has its id
  pub ids : List FileAstId
  pub are_ids : AreIds (found_in edition text).rows ids
  pub syntax : file.syntax ≡ source_file (inner_attributes (tokens_of edition text)).0 (with_ids (items_in edition text) ids).0
  pub places : file.places ≡ places ids (map (moved_span place) (found_in edition text).spans)
  pub use_trees : file.use_trees ≡ map place (found_in edition text).use_trees
  pub problems : file.problems ≡ map (moved_problem place) (found_in edition text).problems

-- what is read of a text of an edition, as plain data
abbrev pub IsFileView : EditionYear → List ℕ → FileView → Type 0
IsFileView edition text file = IsFile edition (with_feeds text) (place_in text) file

-- what is read of a text of an edition
abbrev pub IsSourceFile : EditionYear → List ℕ → SourceFile → Type 0
IsSourceFile edition text file = IsFileView edition text (file_view file)

-- ---- with what is wanted

-- what was read, without the texts of bodies
abbrev pub bare_file : FileView → FileView
bare_file file = record { syntax = without_bodies file.syntax; places = file.places; use_trees = file.use_trees; problems = file.problems }

-- the syntax of a file, with what is wanted of it (no other is read of a text)
abbrev pub clipped_syntax : Wanted → SyntaxView → SyntaxView
clipped_syntax w (source_file attrs is) = source_file (kept_metas w.metas attrs) (clipped_list w is)
clipped_syntax w s = s

-- what was read, with what is wanted of it
abbrev pub clipped_file : Wanted → FileView → FileView
clipped_file w file = record { syntax = clipped_syntax w file.syntax; places = file.places; use_trees = file.use_trees; problems = file.problems }

-- what is read of a text without returns, with what is wanted of it
pub record IsClipped (w : Wanted) (edition : EditionYear) (text : List ℕ) (place : ℕ → ℕ) (file : FileView) : Type 0 where
  pub read : FileView
  pub is_read : IsFile edition text place read
  pub clipped : file ≡ clipped_file w read

-- what is read of a text of an edition, with what is wanted of it
abbrev pub IsClippedFile : Wanted → EditionYear → List ℕ → FileView → Type 0
IsClippedFile w edition text file = IsClipped w edition (with_feeds text) (place_in text) file
