-- The texts of what is taken: what stands in brackets, and what is left of an item.
use Rattle.std.specs.Prelude.{◌≡◌, ◌≤◌, ◌+◌, ℕ, ◌==◌, Bool, true, false, not, ◌&&◌, ◌||◌, if◌then◌else◌, Option, Some, None, List, [], ◌∷◌, ◌++◌, length, string_bytes, codes, bytes_eq}
use Rattle.std.specs.List.{list_any}
use Rattle.hir_input.specs.declared.edition.EditionYear.{EditionYear}
use Rattle.rust_lexer.specs.Piece.{Piece}
use Rattle.rust_cursor.specs.declared.cursor.nest.Before.{Before}
use Rattle.rust_cursor.specs.declared.cursor.nest.Before.TheVariants as befores
use Rattle.rust_cursor.specs.declared.cursor.nest.Nest.{Nest}
use Rattle.rust_cursor.specs.declared.cursor.texts.Excerpt.{Excerpt}
use Rattle.rust_cursor.specs.declared.cursor.texts.Extent.{Extent}
use Rattle.rust_cursor.specs.declared.cursor.texts.Extent.TheVariants as extents
use Rattle.rust_cursor.specs.Tokens.{Tokens}
use Rattle.rust_cursor.specs.Reader.{Reader, ◌>>=◌, pure}
use Rattle.rust_cursor.specs.Words.{symbol, word, kind, text, is_empty, is_at_identifier, is_at_doc, is_glued, is_pair, bumped}
use Rattle.rust_cursor.specs.Nests.{opens_other, closes_other, is_literal_kind, flat_behind, is_flat, is_mark, is_star, is_whole, nest_behind}

-- ---- what begins an item

-- a word that can begin an item only, whatever stands behind it
abbrev pub is_item_word : List ℕ → Bool
is_item_word w =
    bytes_eq w (codes "pub") || (bytes_eq w (codes "mod") || (bytes_eq w (codes "struct") || (bytes_eq w (codes "enum") || bytes_eq w (codes "trait"))))

-- behind `use`: a use tree begins, with a word, `::`, `*` or `{`; so it does in no closure `use ||`, bound `use<'a>` or value `x.use`
abbrev pub follows_use : Tokens → Bool
follows_use ts = is_at_identifier ts || (symbol ts == 58 || (symbol ts == 42 || symbol ts == 123))

-- behind `static`: a name, or `mut`; `move`, `use` and `async` go on with a closure
abbrev pub follows_static : Tokens → Bool
follows_static ts = is_at_identifier ts && not (bytes_eq (word ts) (codes "move") || (bytes_eq (word ts) (codes "use") || bytes_eq (word ts) (codes "async")))

-- behind `union`: a name; a value, a type or a pattern goes on with one of these words
abbrev pub follows_union : Tokens → Bool
follows_union ts =
    is_at_identifier ts && not (list_any (bytes_eq (word ts)) (codes "as" ∷ codes "else" ∷ codes "for" ∷ codes "if" ∷ codes "in" ∷ codes "where" ∷ []))

-- behind `extern`: a crate, or the braces of a block, with its ABI in front or without
abbrev pub follows_extern : Tokens → Bool
follows_extern ts = bytes_eq (word ts) (codes "crate") || (symbol ts == 123 || (is_literal_kind (kind ts) && symbol (bumped ts) == 123))

-- behind `macro_rules`: a `!`, and the name of the macro
abbrev pub follows_macro_rules : Tokens → Bool
follows_macro_rules ts = symbol ts == 33 && is_at_identifier (bumped ts)

-- A word comes next that can begin an item only: here an item ends that was not ended.
unfoldable pub begins_item : Tokens → Bool
begins_item ts =
    if is_item_word (word ts) then true
    else (if bytes_eq (word ts) (codes "use") then follows_use (bumped ts)
    else (if bytes_eq (word ts) (codes "static") then follows_static (bumped ts)
    else (if bytes_eq (word ts) (codes "fn") || (bytes_eq (word ts) (codes "type") || bytes_eq (word ts) (codes "macro")) then is_at_identifier (bumped ts)
    else (if bytes_eq (word ts) (codes "union") then follows_union (bumped ts)
    else (if bytes_eq (word ts) (codes "macro_rules") then follows_macro_rules (bumped ts)
    else (if bytes_eq (word ts) (codes "extern") then follows_extern (bumped ts) else false))))))

-- behind `const`: a function, or a name or `_` with a colon
abbrev pub follows_const : Tokens → Bool
follows_const ts =
    if bytes_eq (word ts) (codes "fn") then is_at_identifier (bumped ts)
    else is_at_identifier ts && (symbol (bumped ts) == 58 && not (is_pair 58 58 (bumped ts)))

-- `impl`, `unsafe impl` or `const`, which stand in types and values too
unfoldable pub begins_impl_or_const : Tokens → Bool
begins_impl_or_const ts =
    if bytes_eq (word ts) (codes "impl") then true
    else (if bytes_eq (word ts) (codes "unsafe") then bytes_eq (word (bumped ts)) (codes "impl")
    else (if bytes_eq (word ts) (codes "const") then follows_const (bumped ts) else false))

-- an attribute, or one of these
abbrev pub begins_with_attribute : Tokens → Bool
begins_with_attribute ts = if symbol ts == 35 then symbol (bumped ts) == 91 else begins_impl_or_const ts

-- an item begins behind what can end a type or a value; an attribute may also stand behind a `>` that compares
abbrev pub begins_behind : Before → Tokens → Bool
begins_behind befores.End ts = begins_with_attribute ts
begins_behind befores.Block ts = begins_with_attribute ts
begins_behind befores.Angle ts = begins_impl_or_const ts
begins_behind _ ts = false

-- The same in a bracket that is no brace, where a field may be `pub`.
unfoldable pub begins_within : Tokens → Bool
begins_within ts =
    if bytes_eq (word ts) (codes "pub") then false
    else (if bytes_eq (word ts) (codes "use") then is_at_identifier (bumped ts) else begins_item ts)

-- documentation of an item comes next: in angle brackets it may be that of a parameter
abbrev pub documents_item : Nest → Tokens → Bool
documents_item nest ts = is_at_doc ts && nest.angles == 0

-- a constant with a name comes next, in no angle brackets, where it would be a parameter, and behind no `*`, where it would be that of a pointer
abbrev pub begins_const : Nest → Tokens → Bool
begins_const nest ts = bytes_eq (word ts) (codes "const") && (nest.angles == 0 && (not (is_star nest.before) && follows_const (bumped ts)))

-- An item begins, in no brace.
abbrev pub begins : Nest → Tokens → Bool
begins nest ts =
    if nest.others == 0 then begins_item ts || (begins_behind nest.before ts || (documents_item nest ts || begins_const nest ts)) else nest.free == 0 && begins_within ts

-- ---- how far it goes

-- nothing more is taken from here on, in no brace
abbrev pub stops_outside : Extent → Nest → Tokens → Bool
stops_outside extents.Tree nest ts = not (nest.others == 0) && symbol ts == 125
stops_outside extents.Group nest ts = not (nest.others == 0) && symbol ts == 125
stops_outside extents.Value nest ts = symbol ts == 125 || begins nest ts
stops_outside extents.Item nest ts = symbol ts == 125 || begins nest ts
stops_outside extents.Macro nest ts = symbol ts == 125 || begins nest ts

unfoldable pub stops : Extent → Nest → Tokens → Bool
stops e nest ts = if is_empty ts then true else (if nest.braces == 0 then stops_outside e nest ts else false)

-- behind a block in angle brackets: what it stands in goes on
abbrev pub goes_on : Tokens → Bool
goes_on ts = symbol ts == 62 || symbol ts == 44

-- The next token is the last, if no bracket but so many angle brackets are open behind it; the braces of a macro call end no item.
abbrev pub ends_flat : Extent → Bool → ℕ → Tokens → Bool
ends_flat extents.Tree is_call angles ts = true
ends_flat extents.Group is_call angles ts = true
ends_flat extents.Value is_call angles ts = symbol ts == 59
ends_flat extents.Item is_call angles ts = symbol ts == 59 || (symbol ts == 125 && (not is_call && (angles == 0 || not (goes_on (bumped ts)))))
ends_flat extents.Macro is_call angles ts = symbol ts == 59 || symbol ts == 125

unfoldable pub ends : Extent → Bool → Nest → Tokens → Bool
ends e is_call behind ts = if is_flat behind then ends_flat e is_call behind.angles ts else false

-- the braces that were opened last in no other, if there are some
abbrev pub opened_behind : Option Tokens → Nest → Tokens → Option Tokens
opened_behind opened nest ts = if nest.braces == 0 && symbol ts == 123 then Some ts else opened

-- those that the last token closes
abbrev pub block_at : Option Tokens → Tokens → Option Tokens
block_at opened ts = if symbol ts == 125 then opened else None

-- ---- the text

abbrev pub is_opening_byte : ℕ → Bool
is_opening_byte c = opens_other c || c == 123

abbrev pub is_closing_byte : ℕ → Bool
is_closing_byte c = closes_other c || c == 125

-- a symbol that is no bracket
abbrev pub is_mark_symbol : ℕ → Bool
is_mark_symbol c = not (c == 0) && (not (is_opening_byte c) && not (is_closing_byte c))

-- Nothing stands between the next token and one of this symbol before it: directly inside brackets, between a word and a bracket that
-- opens behind it, before commas, beside colons, and between other marks that are written side by side. So layout does not count.
unfoldable pub is_joined : ℕ → Tokens → Bool
is_joined last ts =
    if is_mark_symbol last && is_mark_symbol (symbol ts) then is_glued ts
    else is_opening_byte last || (is_closing_byte (symbol ts) || ((last == 0 && is_opening_byte (symbol ts)) || (last == 58 || (symbol ts == 44 || symbol ts == 58))))

-- Whether a blank stands before the next token where one of this symbol stands before it.
unfoldable pub has_blank : Extent → ℕ → Tokens → Bool
has_blank extents.Tree last ts = not (is_joined last ts)
has_blank extents.Group last ts = true
has_blank extents.Value last ts = true
has_blank extents.Item last ts = true
has_blank extents.Macro last ts = true

-- a text with that of the next token behind it, where the one before has this symbol; documentation is left out
unfoldable pub more : Extent → ℕ → List ℕ → Tokens → List ℕ
more e last done ts =
    if is_at_doc ts then done
    else (if not (length done == 0) && has_blank e last ts then done ++ 32 ∷ text ts else done ++ text ts)

-- A text, whether it ends with its end and its brackets are closed, and what is left from the `{` on of the braces that it ends with.
pub record ExcerptRead : Type 0 where
  pub text : List ℕ
  pub is_ended : Bool
  pub block : Option Tokens

abbrev pub excerpt : List ℕ → Bool → Option Tokens → ExcerptRead
excerpt text is_ended block = record { text = text; is_ended = is_ended; block = block }

-- an excerpt as plain data
abbrev pub excerpt_view : Excerpt → ExcerptRead
excerpt_view e = excerpt (string_bytes e.text) e.is_ended e.block

-- goes on from here, at most as many times as a token is in this list
abbrev pub taking_from : Extent → List ℕ → ℕ → Option Tokens → Nest → Tokens → List Piece → ExcerptRead × Tokens
taking_from e done last opened nest ts [] = (excerpt done false None, ts)
taking_from e done last opened nest ts (_ ∷ more_left) =
    if stops e nest ts then (excerpt done false None, ts)
    else (if ends e (is_mark nest.before) (nest_behind nest ts) ts
    then (excerpt (more e last done ts) (is_whole (nest_behind nest ts)) (block_at (opened_behind opened nest ts) ts), bumped ts)
    else taking_from e (more e last done ts) (symbol ts) (opened_behind opened nest ts) (nest_behind nest ts) (bumped ts) more_left)

-- goes on taking where this stands, behind a text and braces that were opened
unfoldable pub taking : Extent → List ℕ → ℕ → Option Tokens → Nest → Reader ExcerptRead
taking e done last opened nest ts = taking_from e done last opened nest ts ts.left

-- a text where it is kept, and else none
abbrev pub kept_text : Bool → List ℕ → List ℕ
kept_text keeps text = if keeps then text else []

-- the same reading, without its text unless that is kept
abbrev pub clipped_excerpt : Bool → ExcerptRead × Tokens → ExcerptRead × Tokens
clipped_excerpt keeps read = (excerpt (kept_text keeps read.0.text) read.0.is_ended read.0.block, read.1)

-- what is taken of these tokens behind a place where no text is kept
abbrev pub taking_on : ℕ → List Piece → Nest → Extent → Option Tokens → Option ℕ → EditionYear → ExcerptRead × Tokens
taking_on past left nest e opened u y =
    clipped_excerpt false (taking e [] 0 opened nest (record { past = past; left = left; unended = u; edition = y }))

-- Where no text is kept, taking goes on from the second place, in these braces, as from the first.
pub record LeadsOn (past : ℕ) (left : List Piece) (nest : Nest) (past' : ℕ) (left' : List Piece) (nest' : Nest) : Type 0 where
  pub same : (e : Extent) (opened : Option Tokens) (u : Option ℕ) (y : EditionYear) → taking_on past' left' nest' e opened u y ≡ taking_on past left nest e opened u y
  pub fewer : length left' ≤ length left
  pub braces : nest'.braces + length left' ≤ nest.braces + length left
  pub inner : nest'.inner + length left' ≤ nest.inner + length left
  pub others : nest'.others ≡ nest.others
  pub angles : nest'.angles ≡ nest.angles

-- where what comes first stands behind this
unfoldable pub excerpt_behind : Before → Extent → Reader ExcerptRead
excerpt_behind before e ts = taking e [] 0 None (flat_behind before) ts

abbrev pub text_taken : Extent → Reader (List ℕ)
text_taken e = do
  read ← excerpt_behind befores.End e
  pure read.text

-- the text of a token, or of what stands in brackets with these
abbrev pub tree_text : Reader (List ℕ)
tree_text = text_taken extents.Tree

-- the same with a blank between each two tokens, and whether the brackets are closed
abbrev pub tree_body : Reader ExcerptRead
tree_body = excerpt_behind befores.End extents.Group

-- What is left of an item that ends with a semicolon, as `type`, `static` and `const`, and whether it ends so.
abbrev pub value_rest : Reader ExcerptRead
value_rest = excerpt_behind befores.End extents.Value

-- what is left of an item that ends with a semicolon or a block, and whether it ends so
abbrev pub item_rest : Reader ExcerptRead
item_rest = excerpt_behind befores.End extents.Item

-- the same behind the word `impl`, where nothing has ended: a type may begin with `!` or `impl`
abbrev pub impl_rest : Reader ExcerptRead
impl_rest = excerpt_behind befores.Other extents.Item

-- what is left of a macro with parameters, which ends so too: in their brackets any tokens may stand
abbrev pub macro_rest : Reader ExcerptRead
macro_rest = excerpt_behind befores.Mark extents.Macro
