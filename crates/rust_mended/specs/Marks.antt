-- The marks of a text: its brackets, and the tokens with which an item may begin, each with the indentation of its line.
use Rattle.std.specs.Prelude.{ℕ, ◌+◌, ◌-◌, ◌^◌, ◌==◌, Bool, true, false, ◌&&◌, ◌||◌, if◌then◌else◌, min, List, [], ◌∷◌, length, Option, Some, None}
use Rattle.rust_lexer.specs.declared.kind.DocStyle.TheVariants as style
use Rattle.rust_lexer.specs.declared.kind.TokenKind.{TokenKind}
use Rattle.rust_lexer.specs.declared.kind.TokenKind.TheVariants as kind
use Rattle.rust_lexer.specs.Piece.{Piece}
use Rattle.rust_lexer.specs.Symbol.{symbol_of}
use Rattle.rust_lexer.specs.Tokens.{tokens}
use Rattle.rust_mended.specs.declared.bracket.Bracket.{Bracket}
use Rattle.rust_mended.specs.declared.bracket.Bracket.TheVariants as bracket
use Rattle.rust_mended.specs.declared.line.Line.{Line}
use Rattle.rust_mended.specs.declared.mark.Mark.{Mark}
use Rattle.rust_mended.specs.declared.mark.MarkKind.{MarkKind}
use Rattle.rust_mended.specs.declared.mark.MarkKind.TheVariants as mark

-- ---- lines

-- before anything of a text
abbrev pub text_begin : Line
text_begin = record { indent = 0; is_first = true; behind = 0 }

-- behind a blank of an indentation: a tab counts four
abbrev pub wider_indent : ℕ → ℕ → ℕ
wider_indent b n = min (n + (if b == 9 then 4 else 1)) (2 ^ 64 - 1)

-- behind a byte of white space
abbrev pub blank_behind : Line → ℕ → Line
blank_behind l b =
    if b == 10 then record { indent = 0; is_first = true; behind = l.behind }
    else (if l.is_first then record { indent = wider_indent b l.indent; is_first = true; behind = l.behind } else l)

-- behind white space
abbrev pub blanks_behind : Line → List ℕ → Line
blanks_behind l [] = l
blanks_behind l (b ∷ z) = blanks_behind (blank_behind l b) z

-- white space, a comment, or what may stand in front of a text alone: what ends before the next token ends before these
abbrev pub is_between : TokenKind → Bool
is_between kind.Whitespace = true
is_between (kind.LineComment _) = true
is_between (kind.BlockComment _) = true
is_between kind.ByteOrderMark = true
is_between kind.Shebang = true
is_between kind.Frontmatter = true
is_between _ = false

-- where the next token stands on its line behind a token, by its kind
abbrev pub line_by : TokenKind → Line → List ℕ → Line
line_by kind.Whitespace l z = blanks_behind l z
line_by kind.ByteOrderMark l z = l
line_by _ l z = record { indent = l.indent; is_first = false; behind = l.behind }

-- the place behind the last token that is no comment
abbrev pub place_behind : Line → Piece → ℕ
place_behind l t = if is_between t.kind then l.behind else t.at + length t.text

abbrev pub with_behind : ℕ → Line → Line
with_behind at l = record { indent = l.indent; is_first = l.is_first; behind = at }

-- behind a token
abbrev pub line_behind : Line → Piece → Line
line_behind l t = with_behind (place_behind l t) (line_by t.kind l t.text)

-- ---- marks

-- the kind of a bracket of this symbol
abbrev pub bracket_of : ℕ → Bracket
bracket_of c = if c == 123 || c == 125 then bracket.Brace else (if c == 40 || c == 41 then bracket.Round else bracket.Square)

-- a word, the documentation of what follows, or a `#`
abbrev pub may_begin_item : TokenKind → ℕ → Bool
may_begin_item kind.Ident c = true
may_begin_item kind.RawIdent c = true
may_begin_item (kind.LineComment (Some style.Outer)) c = true
may_begin_item (kind.BlockComment (Some style.Outer)) c = true
may_begin_item kind.Punct c = c == 35
may_begin_item _ c = false

abbrev pub is_opening_symbol : ℕ → Bool
is_opening_symbol c = c == 123 || c == 40 || c == 91

abbrev pub is_closing_symbol : ℕ → Bool
is_closing_symbol c = c == 125 || c == 41 || c == 93

-- what a token of this symbol is, and whether it may begin an item
abbrev pub mark_kind : ℕ → Bool → Option MarkKind
mark_kind c may =
    if is_opening_symbol c then Some (mark.Open (bracket_of c))
    else (if is_closing_symbol c then Some (mark.Close (bracket_of c)) else (if may then Some mark.Item else None))

-- what a token is that stands so on its line
abbrev pub mark_kind_of : Line → Piece → Option MarkKind
mark_kind_of l t = mark_kind (symbol_of t) (l.is_first && may_begin_item t.kind (symbol_of t))

abbrev pub mark_of : MarkKind → Line → Piece → Mark
mark_of k l t = record { kind = k; at = t.at; behind = l.behind; indent = l.indent; begins_line = l.is_first }

abbrev pub and_marks : Option MarkKind → Line → Piece → List Mark → List Mark
and_marks None l t ms = ms
and_marks (Some k) l t ms = mark_of k l t ∷ ms

-- the marks of these tokens
abbrev pub marks_from : Line → List Piece → List Mark
marks_from l [] = []
marks_from l (t ∷ ts) = and_marks (mark_kind_of l t) l t (marks_from (line_behind l t) ts)

-- the line behind these tokens
abbrev pub line_behind_all : Line → List Piece → Line
line_behind_all l [] = l
line_behind_all l (t ∷ ts) = line_behind_all (line_behind l t) ts

-- the marks of a text
abbrev pub marks : List ℕ → List Mark
marks text = marks_from text_begin (tokens text)

-- the place behind its last token that is no comment
abbrev pub last_end : List ℕ → ℕ
last_end text = (line_behind_all text_begin (tokens text)).behind
