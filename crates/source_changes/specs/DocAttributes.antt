-- Attributes that document, as `#[doc = ".."]`: their tokens count where documentation comments do.
use Rattle.std.specs.Prelude.{ℕ, zero, suc, ◌-◌, ◌==◌, Bool, true, false, not, ◌&&◌, ◌||◌, if◌then◌else◌, Option, Some, None, List, [], ◌∷◌, codes, bytes_eq, length, slice_index, is_some}
use Rattle.rust_lexer.specs.declared.kind.DocStyle.TheVariants.{Outer}
use Rattle.rust_lexer.specs.declared.kind.LiteralKind.TheVariants as literals
use Rattle.rust_lexer.specs.declared.kind.TokenKind.{TokenKind}
use Rattle.rust_lexer.specs.declared.kind.TokenKind.TheVariants as kinds
use Rattle.rust_lexer.specs.Piece.{Piece}
use Rattle.rust_lexer.specs.Symbol.{symbol_of}
use Rattle.rust_lexer.specs.Tokens.{is_significant}

-- ---- what such an attribute is made of

-- a token is this symbol
abbrev pub is_symbol : ℕ → Piece → Bool
is_symbol c t = symbol_of t == c

-- a token of this kind and text is the name `doc`, which may be raw
abbrev pub names_doc : TokenKind → List ℕ → Bool
names_doc kinds.Ident text = bytes_eq text (codes "doc")
names_doc kinds.RawIdent text = bytes_eq text (codes "r#doc")
names_doc _ text = false

abbrev pub is_doc_name : Piece → Bool
is_doc_name t = names_doc t.kind t.text

-- a string, which may be raw
abbrev pub is_string_kind : TokenKind → Bool
is_string_kind (kinds.Literal literals.Str) = true
is_string_kind (kinds.Literal literals.RawStr) = true
is_string_kind _ = false

-- a `"` or a `#` is the last byte
abbrev pub ends_bare : List ℕ → Bool
ends_bare text = slice_index text (length text - 1) == 34 || slice_index text (length text - 1) == 35

-- a string without a suffix
abbrev pub is_bare_string : Piece → Bool
is_bare_string t = is_string_kind t.kind && ends_bare t.text

-- `[doc = ".."]`
abbrev pub doc_list : List (Piece → Bool)
doc_list = is_symbol 91 ∷ is_doc_name ∷ is_symbol 61 ∷ is_bare_string ∷ is_symbol 93 ∷ []

-- `![doc = ".."]`
abbrev pub inner_doc_list : List (Piece → Bool)
inner_doc_list = is_symbol 33 ∷ doc_list

-- ---- the tokens of such attributes

-- what is left behind tokens that pass these tests in turn, with blanks before each; nothing where the next ones do not
abbrev pub behind_tests : List (Piece → Bool) → List Piece → Option (List Piece)
behind_tests [] ts = Some ts
behind_tests (p ∷ ps) [] = None
behind_tests (p ∷ ps) (t ∷ ts) = if is_significant t then (if p t then behind_tests ps ts else None) else behind_tests (p ∷ ps) ts

-- how many tokens but blanks are left of an attribute behind its `#`, if it documents, else 0
abbrev pub doc_length : List Piece → ℕ
doc_length ts = if is_some (behind_tests doc_list ts) then 5 else (if is_some (behind_tests inner_doc_list ts) then 6 else 0)

-- the same behind a token, which may be no `#`; where documentation counts none is looked for
abbrev pub doc_left : Bool → Piece → List Piece → ℕ
doc_left has_docs t ts = if has_docs || not (is_symbol 35 t) then 0 else doc_length ts

-- a token as documentation
abbrev pub as_comment : Piece → Piece
as_comment t = record { kind = kinds.LineComment (Some Outer); text = t.text; at = t.at }

-- the same if so many are left of an attribute
abbrev pub comment_if : ℕ → Piece → Piece
comment_if zero t = t
comment_if (suc left) t = as_comment t

-- Tokens, those of attributes that document as documentation, unless that counts. The number tells how many but blanks are left of one.
abbrev pub docs_as_comments : Bool → ℕ → List Piece → List Piece
docs_as_comments has_docs left [] = []
docs_as_comments has_docs zero (t ∷ ts) = comment_if (doc_left has_docs t ts) t ∷ docs_as_comments has_docs (doc_left has_docs t ts) ts
docs_as_comments has_docs (suc left) (t ∷ ts) = as_comment t ∷ docs_as_comments has_docs (if is_significant t then left else suc left) ts
