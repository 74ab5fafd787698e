-- Statements: what begins one, how far it goes, and the macro calls in the place of one.
use Rattle.std.specs.Prelude.{ℕ, zero, suc, ◌+◌, ◌-◌, nat_lt, Bool, true, false, not, ◌==◌, ◌&&◌, ◌||◌, if◌then◌else◌, Option, Some, None, is_some, List, [], ◌∷◌, codes, bytes_eq}
use Rattle.std.specs.List.{list_any}
use Rattle.hir_input.specs.declared.ids.SyntaxContext.TheVariants as context
use Rattle.hir_input.specs.declared.edition.EditionYear.TheVariants as year
use Rattle.hir_input.specs.declared.expand_to.ExpandTo.TheVariants as expand_to
use Rattle.hir_input.specs.declared.ast.PathNode.{PathNode}
use Rattle.hir_input.specs.Attr.{MetaView}
use Rattle.hir_input.specs.Syntax.{CallView}
use Rattle.rust_lexer.specs.declared.kind.TokenKind.{TokenKind}
use Rattle.rust_lexer.specs.declared.kind.TokenKind.TheVariants as kinds
use Rattle.rust_cursor.specs.Tokens.{Tokens}
use Rattle.rust_cursor.specs.Reader.{Reader}
use Rattle.rust_cursor.specs.Words.{symbol, word, kind, bumped, is_at_end, is_at_identifier, is_pair}
use Rattle.rust_cursor.specs.Angles.{is_lone_for}
use Rattle.rust_cursor.specs.Brackets.{behind_tree}
use Rattle.rust_cursor.specs.Elements.{most_tokens}
use Rattle.rust_cursor.specs.Extents.{begins_item, tree_body}
use Rattle.rust_paths.specs.Paths.{path}
use Rattle.rust_paths.specs.declared.names.TextRange.{TextRange}
use Rattle.rust_leaves.specs.declared.head.Head.{Head}
use Rattle.rust_leaves.specs.declared.head.Head.TheVariants as heads
use Rattle.rust_leaves.specs.declared.statements.Scan.{Scan}
use Rattle.rust_leaves.specs.declared.statements.Scan.TheVariants as scans
use Rattle.rust_leaves.specs.declared.statements.Step.{Step}
use Rattle.rust_leaves.specs.declared.statements.Step.TheVariants as steps
use Rattle.rust_leaves.specs.Heads.{modifier, head, is_called}
use Rattle.rust_leaves.specs.Leaves.{range_to}
use Rattle.rust_leaves.specs.Texts.{bare_name, last_text}
use Rattle.rust_leaves.specs.Kinds.{node, some_read}
use Rattle.rust_cursor.specs.Grammar.{reads}
use Rattle.rust_cursor.specs.Looks.{sees}

-- ---- items

abbrev pub is_other : Head → Bool
is_other heads.Other = true
is_other _ = false

-- what stands behind `const` or `static` in front of a closure; `async` may be a name
abbrev pub leads_closure : Tokens → Bool
leads_closure ts = bytes_eq (word ts) (codes "move") || (bytes_eq (word ts) (codes "async") && not (symbol (bumped ts) == 58))

-- `const` and `static`: of an item where a name follows, `_` or `mut`; else of a block or a closure
unfoldable pub names_value : Tokens → Bool
names_value behind = is_at_identifier behind && not (leads_closure behind)

-- the words of an item come next; a closure may begin with `use`, too
unfoldable pub is_item_head : Tokens → Bool
is_item_head ts =
    if is_other (reads head ts).0 then false
    else (if bytes_eq (word ts) (codes "const") || bytes_eq (word ts) (codes "static") then names_value (bumped ts)
    else (if bytes_eq (word ts) (codes "use") then not (symbol (bumped ts) == 124) else true))

-- an item comes next, behind its attributes, and no expression
unfoldable pub is_item : Tokens → Bool
is_item ts = if bytes_eq (word ts) (codes "pub") || sees modifier ts then true else is_item_head ts

-- ---- where a statement ends

-- a word in front of a block that is an expression with it
unfoldable pub is_block_word : List ℕ → Bool
is_block_word w =
    list_any (bytes_eq w) (codes "async" ∷ codes "const" ∷ codes "gen" ∷ codes "loop" ∷ codes "move" ∷ codes "try" ∷ codes "unsafe" ∷ [])

-- a word of an expression that ends with a block, beside `for`
unfoldable pub is_control_word : List ℕ → Bool
is_control_word w = list_any (bytes_eq w) (codes "if" ∷ codes "match" ∷ codes "while" ∷ [])

abbrev pub is_label_kind : Option TokenKind → Bool
is_label_kind (Some kinds.Lifetime) = true
is_label_kind (Some kinds.RawLifetime) = true
is_label_kind _ = false

-- behind a label and its colon
unfoldable pub behind_label : Tokens → Tokens
behind_label ts = if is_label_kind (kind ts) then bumped (bumped ts) else ts

unfoldable pub behind_block_word : Tokens → Tokens
behind_block_word ts = if is_block_word (word ts) then bumped ts else ts

-- behind a label, and behind at most three words in front of a block, as in `async gen move { .. }`
unfoldable pub block_start : Tokens → Tokens
block_start ts = behind_block_word (behind_block_word (behind_block_word (behind_label ts)))

-- an expression that ends with its block comes next, behind these
abbrev pub is_block_at : Tokens → Bool
is_block_at ts = symbol ts == 123 || (is_control_word (word ts) || is_lone_for ts)

-- a mark with which no operand ends: behind an operator, a comma or a label
unfoldable pub is_open_mark : ℕ → Bool
is_open_mark c = list_any (λ mark. c == mark) (codes "!%&*+,-/:<=^|")

-- a block behind this token stands inside what comes before the statement's own block, as in `if let x = { .. } { .. }`
unfoldable pub leads_inside : Tokens → Bool
leads_inside ts = is_block_word (word ts) || is_open_mark (symbol ts)

-- one more block is to come before the statement's own; no more than so many are counted
abbrev pub one_more_block : ℕ → ℕ
one_more_block blocks = if nat_lt blocks 255 then blocks + 1 else blocks

-- The same behind a token of what comes before its own block, which is the last of so many: each word of an expression that ends with a block
-- asks for one. A pattern stands behind `let`, and behind a `for` that is not one of `for<'a>`.
unfoldable pub header_behind : ℕ → Tokens → Scan
header_behind blocks ts =
    if bytes_eq (word ts) (codes "let") then scans.Let blocks
    else (if is_lone_for ts then scans.For (one_more_block blocks)
    else (if is_control_word (word ts) then scans.Inside (one_more_block blocks)
    else (if leads_inside ts then scans.Inside blocks else scans.Header blocks)))

-- how a statement goes on behind a token or a bracket of it that is not its own block; a pattern goes up to `=`, or to `in`
unfoldable pub scan_behind : Scan → Tokens → Scan
scan_behind scans.Plain ts = scans.Plain
scan_behind (scans.Header blocks) ts = header_behind blocks ts
scan_behind (scans.Inside blocks) ts = header_behind blocks ts
scan_behind (scans.Let blocks) ts = if symbol ts == 61 then scans.Inside blocks else scans.Let blocks
scan_behind (scans.For blocks) ts = if bytes_eq (word ts) (codes "in") then scans.Inside blocks else scans.For blocks

-- behind a block that is one of so many: before the last more comes; behind it nothing, or it is an operand of `.` or `?`
abbrev pub step_behind_block : ℕ → Tokens → Step
step_behind_block blocks ts =
    if nat_lt 1 blocks then steps.On (scans.Header (blocks - 1))
    else (if symbol ts == 46 || symbol ts == 63 then steps.On scans.Plain else steps.Stop)

-- behind `else`: a block, or `if`
abbrev pub behind_else : ℕ → Reader Step
behind_else blocks ts = if bytes_eq (word ts) (codes "if") then (steps.On (scans.Inside blocks), bumped ts) else (steps.On (scans.Header blocks), ts)

-- how it goes on behind a block: with `else` there is another in place of it
unfoldable pub behind_own_block : ℕ → Reader Step
behind_own_block blocks ts = if bytes_eq (word ts) (codes "else") then behind_else blocks (bumped ts) else (step_behind_block blocks ts, ts)

-- `.use` of an expression
abbrev pub is_use_of : Tokens → Bool
is_use_of ts = symbol ts == 46 && bytes_eq (word (bumped ts)) (codes "use")

-- a token of a statement, or what stands in brackets
unfoldable pub plain_step : Scan → Reader Step
plain_step s ts = (steps.On (scan_behind s ts), if is_use_of ts then bumped (bumped ts) else behind_tree ts)

-- the same; the `=` of `..=` ends no pattern
unfoldable pub part_step : Scan → Reader Step
part_step (scans.Let blocks) ts = if is_pair 46 61 ts then (steps.On (scans.Let blocks), bumped (bumped ts)) else plain_step (scans.Let blocks) ts
part_step (scans.Header blocks) ts = if symbol ts == 123 then behind_own_block blocks (behind_tree ts) else plain_step (scans.Header blocks) ts
part_step s ts = plain_step s ts

-- A step of a statement: it ends with a semicolon, and before a bracket that closes or a word that can begin an item only.
unfoldable pub statement_step : Scan → Reader Step
statement_step s ts =
    if is_at_end ts || begins_item ts then (steps.Stop, ts)
    else (if symbol ts == 59 then (steps.End, bumped ts) else part_step s ts)

-- whether a semicolon ended it, and what is left
abbrev pub by_step : Step → (Scan → Reader Bool) → Reader Bool
by_step steps.Stop more ts = (false, ts)
by_step steps.End more ts = (true, ts)
by_step (steps.On s) more ts = more s ts

abbrev pub statement_from : ℕ → Scan → Reader Bool
statement_from zero s ts = (false, ts)
statement_from (suc n) s ts = by_step (statement_step s ts).0 (statement_from n) (statement_step s ts).1

abbrev pub statement_up_to : Scan → Reader Bool
statement_up_to s = statement_from most_tokens s

-- A `let`, or another statement that is neither an item nor a macro call alone. Whether a semicolon ended it.
unfoldable pub statement : Reader Bool
statement ts = if is_block_at (block_start ts) then statement_up_to (scans.Header 0) (block_start ts) else statement_up_to scans.Plain ts

-- ---- macro calls

-- a macro call, the name that is hashed, whether its bracket is a brace, and where its braces stand
pub record CallRead : Type 0 where
  pub call : CallView
  pub name : List ℕ
  pub is_braced : Bool
  pub body : Option TextRange

abbrev pub call_tree : List MetaView → Option PathNode → List ℕ → Reader CallRead
call_tree attrs p name ts =
    let c : CallView = record { node = node attrs (tree_body ts).0.text; path = p; expand_to = expand_to.Statements; ctxt = context.Root year.E2024 } in
    (record { call = c; name = name; is_braced = symbol ts == 123; body = range_to (tree_body ts).1.past (tree_body ts).0.block }, (tree_body ts).1)

-- MacroInvocation, up to its bracket, if one is written
unfoldable pub statement_call : List MetaView → Reader (Option CallRead)
statement_call attrs ts =
    if is_some (reads path ts).0 && sees is_called (reads path ts).1
    then some_read (call_tree attrs (reads path ts).0 (bare_name (last_text (reads path ts).1.past ts)) (bumped (reads path ts).1))
    else (None, ts)
