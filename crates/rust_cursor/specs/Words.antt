-- What comes next, and what takes it.
use Rattle.std.specs.Prelude.{ℕ, ◌%◌, Bool, true, false, ◌==◌, ◌&&◌, nat_lt, length, slice_index, if◌then◌else◌, Option, Some, None, List, [], ◌∷◌, bytes_eq}
use Rattle.std.specs.Int.{bit_at}
use Rattle.rust_lexer.specs.declared.kind.TokenKind.{TokenKind}
use Rattle.rust_lexer.specs.declared.kind.TokenKind.TheVariants as kinds
use Rattle.rust_lexer.specs.Piece.{Piece}
use Rattle.rust_lexer.specs.Symbol.{symbol_of}
use Rattle.rust_cursor.specs.Tokens.{Tokens, end_of}
use Rattle.rust_cursor.specs.Reader.{Reader}

abbrev pub opens : TokenKind → Bool
opens kinds.OpenDelim = true
opens _ = false

abbrev pub closes : TokenKind → Bool
closes kinds.CloseDelim = true
closes _ = false

-- a name or a keyword is a word, a raw identifier is none
abbrev pub word_by : TokenKind → List ℕ → List ℕ
word_by kinds.Ident text = text
word_by _ text = []

-- a name or a keyword, raw or not
abbrev pub identifies : TokenKind → Bool
identifies kinds.Ident = true
identifies kinds.RawIdent = true
identifies _ = false

-- a comment that documents what stands beside it (the others are not among the tokens)
abbrev pub documents : TokenKind → Bool
documents (kinds.LineComment _) = true
documents (kinds.BlockComment _) = true
documents _ = false

abbrev pub is_open : Piece → Bool
is_open t = opens t.kind

abbrev pub is_close : Piece → Bool
is_close t = closes t.kind

-- what a view shows of the first token, or this where none is left
abbrev pub by_first : {A : Type 0} → A → (Piece → A) → List Piece → A
by_first default view [] = default
by_first default view (t ∷ ts) = view t

-- the bracket or the punctuation that comes next, or 0
unfoldable pub symbol : Tokens → ℕ
symbol ts = by_first 0 symbol_of ts.left

-- the keyword or the name that comes next, or an empty text
unfoldable pub word : Tokens → List ℕ
word ts = by_first [] (λ t. word_by t.kind t.text) ts.left

-- the kind of the next token
unfoldable pub kind : Tokens → Option TokenKind
kind ts = by_first None (λ t. Some t.kind) ts.left

-- the text of the next token
unfoldable pub text : Tokens → List ℕ
text ts = by_first [] (λ t. t.text) ts.left

-- the place of what comes next
unfoldable pub at : Tokens → ℕ
at ts = by_first ts.past (λ t. t.at) ts.left

-- nothing is left
unfoldable pub is_empty : Tokens → Bool
is_empty ts = by_first true (λ _. false) ts.left

-- an opening bracket comes next
unfoldable pub is_at_open : Tokens → Bool
is_at_open ts = by_first false is_open ts.left

-- a bracket that closes comes next, or nothing
unfoldable pub is_at_end : Tokens → Bool
is_at_end ts = by_first true is_close ts.left

-- an identifier comes next
unfoldable pub is_at_identifier : Tokens → Bool
is_at_identifier ts = by_first false (λ t. identifies t.kind) ts.left

-- documentation comes next
unfoldable pub is_at_doc : Tokens → Bool
is_at_doc ts = by_first false (λ t. documents t.kind) ts.left

-- those behind the first
abbrev pub rest : List Piece → List Piece
rest [] = []
rest (t ∷ ts) = ts

-- what is left behind the next token
unfoldable pub bumped : Tokens → Tokens
bumped ts = record { past = by_first ts.past end_of ts.left; left = rest ts.left; unended = ts.unended; edition = ts.edition }

abbrev pub bump : Reader (Unit {0})
bump ts = (tt, bumped ts)

-- the next token is taken where the test says so, and the test is told
abbrev pub taken_if : Bool → Reader Bool
taken_if test ts = (test, if test then bumped ts else ts)

-- whether this punctuation comes next, which is then behind
unfoldable pub eat : ℕ → Reader Bool
eat c ts = taken_if (symbol ts == c) ts

-- the same of a word
unfoldable pub eat_word : List ℕ → Reader Bool
eat_word w ts = taken_if (bytes_eq (word ts) w) ts

-- nothing stands between the last token that was taken and the next
unfoldable pub is_glued : Tokens → Bool
is_glued ts = at ts == ts.past

-- two symbols come next with nothing between them, as in `::`, `->` and `=>`
unfoldable pub is_pair : ℕ → ℕ → Tokens → Bool
is_pair a b ts = symbol ts == a && (is_glued (bumped ts) && symbol (bumped ts) == b)

-- the same of two that stand side by side
unfoldable pub eat_pair : ℕ → ℕ → Reader Bool
eat_pair a b ts = (is_pair a b ts, if is_pair a b ts then bumped (bumped ts) else ts)

-- `::`
abbrev pub eat_colons : Reader Bool
eat_colons = eat_pair 58 58

-- the bits of a number for each byte, by its last five bits, are lengths: this byte has that of a word
abbrev pub has_length : List ℕ → ℕ → List ℕ → Bool
has_length lengths byte w = nat_lt (length w) 16 && bit_at (slice_index lengths (byte % 32)) (length w) == 1
