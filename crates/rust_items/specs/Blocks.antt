-- Blocks: statements one after another, and what stands last.
use Rattle.std.specs.Prelude.{◌≡◌, ℕ, zero, suc, Bool, true, not, ◌==◌, ◌&&◌, ◌||◌, if◌then◌else◌, Option, Some, None, List, [], ◌∷◌, ◌++◌, map, codes, bytes_eq}
use Rattle.hir_input.specs.declared.edition.EditionYear.{EditionYear}
use Rattle.hir_input.specs.declared.ids.AstIdKind.TheVariants as kind
use Rattle.hir_input.specs.declared.ids.FileAstId.{FileAstId}
use Rattle.hir_input.specs.Attr.{MetaView}
use Rattle.hir_input.specs.Syntax.{CallView, ItemView, StmtView, item_stmt, call_stmt, other_stmt, TailView, no_tail, call_tail, other_tail, block_expr, block_view}
use Rattle.rust_cursor.specs.Tokens.{Tokens, tokens_of}
use Rattle.rust_cursor.specs.Reader.{Reader}
use Rattle.rust_cursor.specs.Words.{symbol, word, at, eat, is_at_end, bumped}
use Rattle.rust_cursor.specs.Elements.{most_tokens, progress_from}
use Rattle.rust_ids.specs.Ids.{AreIds}
use Rattle.rust_paths.specs.declared.names.TextRange.{TextRange}
use Rattle.rust_metas.specs.Attributes.{outer_attributes, inner_attributes}
use Rattle.rust_leaves.specs.Fronts.{front_behind}
use Rattle.rust_leaves.specs.Statements.{CallRead, is_item, statement, statement_call}
use Rattle.rust_items.specs.declared.blocks.SourceBlock.{SourceBlock}
use Rattle.rust_items.specs.declared.log.ProblemKind.TheVariants as problem
use Rattle.rust_items.specs.Found.{Found, Finder, nothing_found, and_problem, and_problem_at}
use Rattle.rust_items.specs.Ids.{each_with_ids, first_numbers, item_with_ids, numbered_call}
use Rattle.rust_items.specs.Items.{and_item, is_list_end, behind_front}
use Rattle.rust_items.specs.LineEnds.{with_feeds, place_in, moved_span, moved_problem}
use Rattle.rust_items.specs.SourceFiles.{places}

-- ---- what is read

-- a part of a block: a statement, an expression that stands last, or nothing of either
pub data PartView : Type 0 where
  no_part : PartView
  stmt_part : StmtView → PartView
  tail_part : TailView → PartView

-- the statements, and what stands last
pub record BodyRead : Type 0 where
  pub stmts : List StmtView
  pub tail : TailView

abbrev pub empty_body : BodyRead
empty_body = record { stmts = []; tail = no_tail }

abbrev pub and_part : BodyRead → PartView → BodyRead
and_part b no_part = b
and_part b (stmt_part s) = record { stmts = b.stmts ++ s ∷ []; tail = b.tail }
and_part b (tail_part t) = record { stmts = b.stmts; tail = t }

-- ---- one part

-- an item, in no module
abbrev pub item_part : Option ItemView → PartView
item_part None = no_part
item_part (Some i) = stmt_part (item_stmt i)

abbrev pub item_found : Option ItemView × (Found × Tokens) → PartView × (Found × Tokens)
item_found r = (item_part r.0, r.1)

-- a statement that is neither an item nor a macro call, or such an expression where it stands last
abbrev pub other_part : Bool → PartView
other_part is_last = if is_last then tail_part other_tail else stmt_part other_stmt

-- An expression stands last where the block ends behind it, and no semicolon ended it; a `let` does not.
unfoldable pub other_read : Bool → Reader PartView
other_read is_top ts =
    (other_part (not (bytes_eq (word ts) (codes "let")) && (not (statement ts).0 && is_list_end is_top (statement ts).1)), (statement ts).1)

abbrev pub other_found : Bool → Finder PartView
other_found is_top f ts = ((other_read is_top ts).0, (f, (other_read is_top ts).1))

-- a macro call gets an id as an item does
abbrev pub and_named_call : ℕ → ℕ → Option TextRange → List ℕ → Found → Found
and_named_call start end body name f = and_item 0 start end body kind.MacroCall name None true f

abbrev pub and_call : ℕ → ℕ → CallRead → Found → Found
and_call start end c f = and_named_call start end c.body c.name f

abbrev pub stmt_of_call : ℕ → ℕ → CallRead → Found → PartView × Found
stmt_of_call start end c f = (stmt_part (call_stmt c.call), and_call start end c f)

abbrev pub tail_of_call : ℕ → ℕ → CallRead → Found → PartView × Found
tail_of_call start end c f = (tail_part (call_tail c.call), and_call start end c f)

-- behind the braces of a macro call: it is an operand
abbrev pub is_operand : Tokens → Bool
is_operand ts = symbol ts == 46 || symbol ts == 63

-- A macro call: a statement with a semicolon or in braces, last where the block ends behind it, and else a part of an expression.
unfoldable pub call_found : Bool → ℕ → CallRead → Finder PartView
call_found is_top start c f ts =
    if symbol ts == 59 then (stmt_part (call_stmt c.call), (and_call start ts.past c f, bumped ts))
    else (if is_list_end is_top ts then (tail_part (call_tail c.call), (and_call start ts.past c f, ts))
    else (if c.is_braced && not (is_operand ts) then (stmt_part (call_stmt c.call), (and_call start ts.past c f, ts)) else other_found is_top f ts))

abbrev pub called_found : Bool → ℕ → Option CallRead → Finder PartView
called_found is_top start None f ts = other_found is_top f ts
called_found is_top start (Some c) f ts = call_found is_top start c f ts

abbrev pub taken_call : Bool → ℕ → List MetaView → Finder PartView
taken_call is_top start attrs f ts = called_found is_top start (statement_call attrs ts).0 f (statement_call attrs ts).1

abbrev pub taken_item : ℕ → List MetaView → Finder PartView
taken_item start attrs f ts = item_found (behind_front 128 (front_behind start attrs ts).0 f (front_behind start attrs ts).1)

-- Behind the attributes: an item, a macro call, or another statement. Attributes of no statement are passed over.
unfoldable pub part_behind_attributes : Bool → ℕ → List MetaView → Finder PartView
part_behind_attributes is_top start attrs f ts =
    if is_at_end ts then (no_part, (f, ts))
    else (if is_item ts then taken_item start attrs f ts else taken_call is_top start attrs f ts)

-- Statement: a part of a block. A semicolon alone is none.
unfoldable pub part : Bool → Finder PartView
part is_top f ts =
    if is_at_end ts then (no_part, (and_problem problem.Unmatched (at ts) f, bumped ts))
    else (if symbol ts == 59 then (no_part, (f, bumped ts))
    else part_behind_attributes is_top (at ts) (outer_attributes ts).0 f (outer_attributes ts).1)

-- ---- all parts

-- what turns give one after another, at most so many; a turn that takes nothing passes over a token
abbrev pub parts_from : Bool → ℕ → BodyRead → Finder BodyRead
parts_from is_top zero done f ts = (done, (f, ts))
parts_from is_top (suc n) done f ts =
    if is_list_end is_top ts then (done, (f, ts))
    else parts_from is_top n (and_part done (part is_top f ts).0) (part is_top f ts).1.0 (progress_from ts.past (part is_top f ts).1.1)

abbrev pub parts : Bool → Finder BodyRead
parts is_top f ts = parts_from is_top most_tokens empty_body f ts

-- ---- ids

abbrev pub call_with_id : CallView → List FileAstId → CallView × List FileAstId
call_with_id c ids = (numbered_call (first_numbers ids).0 c, (first_numbers ids).1)

abbrev pub stmt_with_ids : StmtView → List FileAstId → StmtView × List FileAstId
stmt_with_ids (item_stmt i) ids = (item_stmt (item_with_ids i ids).0, (item_with_ids i ids).1)
stmt_with_ids (call_stmt c) ids = (call_stmt (call_with_id c ids).0, (call_with_id c ids).1)
stmt_with_ids other_stmt ids = (other_stmt, ids)

-- the statements with their ids, which are given in preorder, and the ids that are left
abbrev pub stmts_with_ids : List StmtView → List FileAstId → List StmtView × List FileAstId
stmts_with_ids = each_with_ids stmt_with_ids

abbrev pub tail_with_id : TailView → List FileAstId → TailView
tail_with_id (call_tail c) ids = call_tail (call_with_id c ids).0
tail_with_id t ids = t

-- ---- a text

-- a block that begins with no brace goes up to the end of the text
abbrev pub is_bare : EditionYear → List ℕ → Bool
is_bare edition text = not (eat 123 (tokens_of edition text)).0

-- the inner attributes of a block, and what is behind them
abbrev pub attributes_of : EditionYear → List ℕ → List MetaView × Tokens
attributes_of edition text = inner_attributes (eat 123 (tokens_of edition text)).1

-- the parts of a block, what is found beside them, and what is left
abbrev pub block_body : EditionYear → List ℕ → BodyRead × (Found × Tokens)
block_body edition text = parts (is_bare edition text) nothing_found (attributes_of edition text).1

-- What is found in a block, as in a file: that a token is not ended is told of the text's last one alone.
unfoldable pub found_of : EditionYear → List ℕ → Found
found_of edition text = and_problem_at problem.Unterminated (block_body edition text).1.1.unended (block_body edition text).1.0

-- what is read of a block without returns, with the places that these have in another
pub record IsBlockOf (edition : EditionYear) (text : List ℕ) (place : ℕ → ℕ) (read : SourceBlock) : Type 0 where
  -- each item and each macro call has its id
  pub ids : List FileAstId
  pub are_ids : AreIds (found_of edition text).rows ids
  pub value : block_view read.block ≡ (let stmts = stmts_with_ids (block_body edition text).0.stmts ids in
      block_expr (attributes_of edition text).0 stmts.0 (tail_with_id (block_body edition text).0.tail stmts.1))
  pub places : read.places.items ≡ places ids (map (moved_span place) (found_of edition text).spans)
  pub problems : read.problems.items ≡ map (moved_problem place) (found_of edition text).problems

-- what is read of a block of an edition
abbrev pub IsBlockRead : EditionYear → List ℕ → SourceBlock → Type 0
IsBlockRead edition text read = IsBlockOf edition (with_feeds text) (place_in text) read
