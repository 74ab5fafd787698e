-- An item that goes on up to the end of a text, and the item that begins behind it.
use Rattle.std.specs.Prelude.{◌≡◌, ◌<◌, ℕ, zero, suc, ◌==◌, Bool, true, false, not, ◌&&◌, ◌||◌, List, [], ◌∷◌, ◌++◌, length, map, codes, bytes_eq}
use Rattle.hir_input.specs.declared.ast.PlainKind.TheVariants as plain_kind
use Rattle.hir_input.specs.declared.edition.EditionYear.{EditionYear}
use Rattle.hir_input.specs.Syntax.{ItemView}
use Rattle.rust_lexer.specs.declared.kind.DocStyle.TheVariants.{Inner}
use Rattle.rust_lexer.specs.Alone.{moved_piece}
use Rattle.rust_lexer.specs.Piece.{Piece}
use Rattle.rust_lexer.specs.Symbol.{symbol_of}
use Rattle.rust_lexer.specs.Tokens.{is_nil, tokens}
use Rattle.rust_cursor.specs.Elements.{most_tokens}
use Rattle.rust_cursor.specs.declared.cursor.nest.Before.{Before}
use Rattle.rust_cursor.specs.declared.cursor.nest.Before.TheVariants as befores
use Rattle.rust_cursor.specs.declared.cursor.nest.Nest.{Nest}
use Rattle.rust_cursor.specs.Extents.{begins, is_item_word}
use Rattle.rust_cursor.specs.Nests.{count_behind, flat_behind, nest_behind}
use Rattle.rust_cursor.specs.Tokens.{Tokens, end_of, tokens_of}
use Rattle.rust_cursor.specs.Words.{bumped, documents, eat_word, is_at_end, is_empty, symbol, word_by}
use Rattle.rust_paths.specs.UseTrees.{use_tree}
use Rattle.rust_metas.specs.Attributes.{is_behind}
use Rattle.rust_leaves.specs.declared.head.Head.{Head}
use Rattle.rust_leaves.specs.declared.head.Head.TheVariants as heads
use Rattle.rust_leaves.specs.Fronts.{front}
use Rattle.rust_leaves.specs.Kinds.{mut_word}
use Rattle.rust_leaves.specs.Leaves.{written_name, named_or, written_rename}
use Rattle.rust_items.specs.Found.{Found, and_all}
use Rattle.rust_items.specs.SourceFiles.{found_in, read_of}
use Rattle.rust_edits.specs.ItemJoins.Joined.{EndsWhole, BeginsAnew, found_on}
use Rattle.rust_cursor.specs.Looks.{sees}

-- ---- tokens of an item behind its name

-- a word with which an item may begin
abbrev pub is_first : List ℕ → Bool
is_first w =
    is_item_word w || (bytes_eq w (codes "use") || (bytes_eq w (codes "static") || (bytes_eq w (codes "fn") || (bytes_eq w (codes "type") || (bytes_eq w (codes "macro")
    || (bytes_eq w (codes "union") || (bytes_eq w (codes "macro_rules") || bytes_eq w (codes "extern"))))))))

-- one with which an item may begin in no bracket
abbrev pub is_first_outside : List ℕ → Bool
is_first_outside w = bytes_eq w (codes "impl") || (bytes_eq w (codes "unsafe") || bytes_eq w (codes "const"))

-- `#`, `;` and braces
abbrev pub is_border : ℕ → Bool
is_border c = c == 35 || (c == 59 || (c == 123 || c == 125))

-- in so many brackets no item begins or ends with this token, whatever stands behind it
abbrev pub is_inner : ℕ → Piece → Bool
is_inner depth t =
    not (documents t.kind) && (not (is_border (symbol_of t)) && (not (is_first (word_by t.kind t.text)) && not (depth == 0 && is_first_outside (word_by t.kind t.text))))

-- nor with any of these
abbrev pub are_inner : ℕ → List Piece → Bool
are_inner depth [] = true
are_inner depth (t ∷ ts) = is_inner depth t && are_inner (count_behind depth (symbol_of t)) ts

-- ---- an item of which the end is not written

-- what is left behind its name, or behind its use tree
abbrev pub behind_name : Head → Tokens → Tokens
behind_name heads.Use ts = (use_tree ts).1
behind_name heads.ExternCrate ts = (written_rename (named_or (codes "self") ts).1).1
behind_name heads.Impl ts = ts
behind_name heads.Const ts = (eat_word (codes "_") (written_name ts).1).1
behind_name (heads.Plain k) ts = (written_name (mut_word k ts).1).1
behind_name _ ts = (written_name ts).1

-- it goes on to the end of the text with these tokens
abbrev pub reaches_end : Head → List Piece → Bool
reaches_end heads.Use ts = is_nil ts
reaches_end heads.ExternCrate ts = is_nil ts
reaches_end heads.Module ts = is_nil ts
reaches_end heads.Impl ts = are_inner 0 ts
reaches_end heads.Struct ts = are_inner 0 ts
reaches_end heads.Const ts = are_inner 0 ts
reaches_end (heads.Plain plain_kind.MacroDef) ts = false
reaches_end (heads.Plain k) ts = are_inner 0 ts
reaches_end _ ts = false

-- behind `impl` a type begins, and behind a name it may have ended
abbrev pub before_rest : Head → Before
before_rest heads.Impl = befores.Other
before_rest _ = befores.End

-- where what is left behind so many tokens is
abbrev pub nest_through : ℕ → Nest → Tokens → Nest
nest_through zero nest ts = nest
nest_through (suc n) nest ts = nest_through n (nest_behind nest ts) (bumped ts)

-- the place behind the last of these tokens, or this one
abbrev pub end_behind : ℕ → List Piece → ℕ
end_behind past [] = past
end_behind past (t ∷ ts) = end_behind (end_of t) ts

-- A text is such an item, of which the end is not written, in front of another text.
pub record IsOpenItem (edition : EditionYear) (text y : List ℕ) : Type 0 where
  -- no token reaches from the first into the second, and the first ends with a token
  pub parted : tokens (text ++ y) ≡ tokens text ++ map (moved_piece (length text)) (tokens y)
  pub ends : end_behind 0 (tokens_of edition text).left ≡ length text
  -- an item begins, with these words and a name; behind them it goes on with these tokens
  pub outer : sees (is_behind Inner) (tokens_of edition (text ++ y)) ≡ true
  pub item : is_at_end (tokens_of edition (text ++ y)) ≡ false
  pub head : Head
  pub is_head : (front (tokens_of edition (text ++ y))).0.head ≡ head
  pub rest : List Piece
  pub left : (behind_name head (front (tokens_of edition (text ++ y))).1).left ≡ rest ++ map (moved_piece (length text)) (tokens_of edition y).left
  pub reaches : reaches_end head rest ≡ true
  -- there the next one begins
  pub some : is_empty (tokens_of edition y) ≡ false
  pub begins : begins (nest_through (length rest) (flat_behind (before_rest head)) (behind_name head (front (tokens_of edition (text ++ y))).1)) (tokens_of edition y) ≡ true
  pub outer_behind : sees (is_behind Inner) (tokens_of edition y) ≡ true
  pub plain : (symbol (tokens_of edition y) == 59 || symbol (tokens_of edition y) == 123) ≡ false

-- What is read of a text ends with what is read of another, which stands so much further on.
pub record ReadsOn (edition : EditionYear) (text : List ℕ) (d : ℕ) (y : List ℕ) : Type 0 where
  pub first : List ItemView
  pub items : (read_of edition text).0 ≡ first ++ (read_of edition y).0
  pub before : Found
  pub found : found_in edition text ≡ and_all (found_on d (found_in edition y)) before

-- In front of a text stands nothing, or a text that ends with a whole item, and then items without their ends, one after the other.
pub data StandsBefore (edition : EditionYear) : List ℕ → List ℕ → Type 0 where
  nothing_before : (y : List ℕ) → StandsBefore edition [] y
  whole_before : (p y : List ℕ) → EndsWhole true 128 edition p → BeginsAnew edition y → StandsBefore edition p y
  open_before : (p x y : List ℕ) → StandsBefore edition p (x ++ y) → IsOpenItem edition x y → StandsBefore edition (p ++ x) y

-- So an item ends before the next one, which is read as alone.
abbrev pub OpenItemsEnd : Type 0
OpenItemsEnd = (edition : EditionYear) (p y : List ℕ) → StandsBefore edition p y → length (p ++ y) < most_tokens → ReadsOn edition (p ++ y) (length p) y
