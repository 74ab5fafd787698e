-- The tokens of a text that count, without those that stand in some parts of it.
use Rattle.std.specs.Prelude.{ℕ, Bool, true, false, not, ◌&&◌, ◌||◌, nat_le, ◌==◌, if◌then◌else◌, List, [], ◌∷◌, ◌++◌}
use Rattle.rust_lexer.specs.Piece.{Piece}
use Rattle.rust_lexer.specs.Symbol.{symbol_of}
use Rattle.rust_lexer.specs.Tokens.{tokens, is_significant}
use Rattle.source_rows.specs.Comments.{is_documentation}
use Rattle.source_changes.specs.declared.kept.Hole.{Hole}
use Rattle.source_changes.specs.DocAttributes.{docs_as_comments}

-- a token counts that is neither white space nor a comment; documentation counts where that is asked
abbrev pub counts : Bool → Piece → Bool
counts has_docs t = is_significant t && (has_docs || not (is_documentation t.kind))

-- those of some parts, in order, that do not end before a place
abbrev pub not_over : ℕ → List Hole → List Hole
not_over place [] = []
not_over place (h ∷ hs) = if nat_le h.end place then not_over place hs else h ∷ hs

-- the first of them has begun
abbrev pub is_begun : ℕ → List Hole → Bool
is_begun place [] = false
is_begun place (h ∷ hs) = nat_le h.start place

-- a line ends here
abbrev pub ends_line : List ℕ → Bool
ends_line [] = true
ends_line (b ∷ z) = b == 10

-- a text without carriage returns at the ends of lines: rustc reads it alike
abbrev pub without_returns : List ℕ → List ℕ
without_returns [] = []
without_returns (b ∷ z) = if b == 13 && ends_line z then without_returns z else b ∷ without_returns z

-- what can stand before a `=` with which it is one mark: one of `= ! < + - * / % ^ & | .`
abbrev pub stands_before_equals : ℕ → Bool
stands_before_equals c =
    c == 61 || (c == 33 || (c == 60 || (c == 43 || (c == 45 || (c == 42 || (c == 47 || (c == 37 || (c == 94 || (c == 38 || (c == 124 || c == 46))))))))))

-- A symbol directly behind another is one mark with it, as in `=>`, `->`, `::`, `..` and `+=`. What generics, references and closures may end
-- or begin with is written apart or not: `>>`, `>=`, `<<`, `<-`, `&&` and `||` are two marks each.
abbrev pub is_one_mark : ℕ → ℕ → Bool
is_one_mark before c =
    if c == 62 then before == 61 || before == 45
    else (if c == 61 then stands_before_equals before else (c == 58 || c == 46) && c == before)

-- what tells a token behind one of this symbol: its text, and in front of that a 1 if both are one mark, else a 0
abbrev pub token_text : ℕ → Piece → List ℕ
token_text before t = (if is_one_mark before (symbol_of t) then 1 else 0) ∷ without_returns t.text

-- that of a token that counts, unless it stands in the first of some parts that do not end before it
abbrev pub text_if_kept : Bool → List Hole → ℕ → Piece → List (List ℕ)
text_if_kept has_docs holes before t = if counts has_docs t && not (is_begun t.at holes) then token_text before t ∷ [] else []

-- what tells the tokens that count and stand in none of these parts, which come in order; behind a token of this symbol
abbrev pub kept_tokens : Bool → List Hole → ℕ → List Piece → List (List ℕ)
kept_tokens has_docs holes before [] = []
kept_tokens has_docs holes before (t ∷ ts) = text_if_kept has_docs (not_over t.at holes) before t ++ kept_tokens has_docs (not_over t.at holes) (symbol_of t) ts

-- the same of a text, in which attributes that document count as comments that do
abbrev pub skeleton : Bool → List Hole → List ℕ → List (List ℕ)
skeleton has_docs holes text = kept_tokens has_docs holes 0 (docs_as_comments has_docs 0 (tokens text))
