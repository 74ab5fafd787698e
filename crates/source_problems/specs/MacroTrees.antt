-- The token trees of macro calls and attributes.
use Rattle.std.specs.Prelude.{ℕ, suc, ◌-◌, ◌==◌, Bool, true, false, ◌||◌, nat_lt, if◌then◌else◌, List, [], ◌∷◌, bytes_eq, codes}
use Rattle.std.specs.List.{list_any}
use Rattle.rust_lexer.specs.Piece.{Piece}
use Rattle.rust_lexer.specs.Symbol.{symbol_of}
use Rattle.rust_lexer.specs.Tokens.{is_significant}
use Rattle.rust_cursor.specs.Words.{identifies, is_open, is_close}
use Rattle.source_problems.specs.declared.macro_trees.Around.{Around}
use Rattle.source_problems.specs.declared.macro_trees.Before.{Before}
use Rattle.source_problems.specs.declared.macro_trees.Before.TheVariants as before

-- a `!` behind one of these words stands before a value
unfoldable pub is_negating : List ℕ → Bool
is_negating w =
    list_any (bytes_eq w) (codes "break" ∷ codes "const" ∷ codes "if" ∷ codes "in" ∷ codes "match" ∷ codes "mut" ∷ codes "return"
    ∷ codes "while" ∷ codes "yield" ∷ [])

-- behind a name: `name` may be a macro's, and `name! other` still is a call
abbrev pub after_name : Before → List ℕ → Before
after_name before.Mark name = before.Mark
after_name _ name = if is_negating name then before.Other else before.Name

-- behind `!`
abbrev pub after_mark : Before → Before
after_mark before.Name = before.Mark
after_mark before.Hash = before.Hash
after_mark _ = before.Other

abbrev pub after_sign : Before → ℕ → Before
after_sign b symbol = if symbol == 33 then after_mark b else (if symbol == 35 then before.Hash else before.Other)

-- behind a token that counts
abbrev pub after_piece : Before → Piece → Before
after_piece b t = if identifies t.kind then after_name b t.text else after_sign b (symbol_of t)

-- a bracket behind `name!`, `name! other`, `#` or `#!` begins a token tree
abbrev pub opens_tree : Before → Bool
opens_tree before.Mark = true
opens_tree before.Hash = true
opens_tree _ = false

-- of so many brackets of a token tree, how many are open behind a token
abbrev pub depth_after : Before → ℕ → Piece → ℕ
depth_after b depth t =
    if is_open t then (if nat_lt 0 depth || opens_tree b then suc depth else depth) else (if is_close t then depth - 1 else depth)

-- where what stands behind a token is; white space and comments change nothing
abbrev pub around_after : Around → Piece → Around
around_after a t = if is_significant t then record { before = after_piece a.before t; depth = depth_after a.before a.depth t } else a

-- at the beginning of a text
abbrev pub outside : Around
outside = record { before = before.Other; depth = 0 }
