-- Brackets that match: the last that was opened is closed first, by its own.
use Rattle.std.specs.Prelude.{ℕ, ◌==◌, ◌||◌, Bool, if◌then◌else◌, Option, Some, None, List, [], ◌∷◌}
use Rattle.rust_lexer.specs.Piece.{Piece}
use Rattle.rust_lexer.specs.Symbol.{symbol_of}
use Rattle.rust_cursor.specs.Tokens.{Tokens}
use Rattle.rust_cursor.specs.Words.{symbol, is_at_open, bumped}

-- the symbol that closes what this one opens, or 0
abbrev pub closer : ℕ → ℕ
closer c = if c == 40 then 41 else (if c == 91 then 93 else (if c == 123 then 125 else 0))

abbrev pub is_closer : ℕ → Bool
is_closer c = c == 41 || (c == 93 || c == 125)

-- what has to be closed behind this symbol, the last first
abbrev pub owed_closers : ℕ → List ℕ → List ℕ
owed_closers c due = if closer c == 0 then due else closer c ∷ due

-- what is behind the bracket that closes the first of those that are open, if all that is opened before is closed by its own
abbrev pub behind_matching : List ℕ → List Piece → Option (List Piece)
behind_matching [] ts = Some ts
behind_matching (c ∷ due) [] = None
behind_matching (c ∷ due) (t ∷ ts) =
    if is_closer (symbol_of t) then (if symbol_of t == c then behind_matching due ts else None)
    else behind_matching (owed_closers (symbol_of t) (c ∷ due)) ts

-- what is behind the next token, or behind the bracket that matches it
abbrev pub behind_match : Tokens → Option (List Piece)
behind_match ts = if is_at_open ts then behind_matching (closer (symbol ts) ∷ []) (bumped ts).left else Some (bumped ts).left
