-- Names.
use Rattle.std.specs.Prelude.{◌≡◌, refl, ℕ, ◌-◌, ◌/◌, Bool, true, false, ◌==◌, ◌&&◌, length, slice_index, if◌then◌else◌, Option, Some, None, is_some, List, [], ◌∷◌, codes, bytes_eq}
use Rattle.std.specs.List.{list_any}
use Rattle.hir_input.specs.declared.edition.EditionYear.{EditionYear}
use Rattle.hir_input.specs.declared.edition.EditionYear.TheVariants as year
use Rattle.hir_input.specs.Name.{name_in}
use Rattle.rust_lexer.specs.declared.kind.TokenKind.{TokenKind}
use Rattle.rust_lexer.specs.declared.kind.TokenKind.TheVariants as kinds
use Rattle.rust_cursor.specs.Tokens.{Tokens}
use Rattle.rust_cursor.specs.Reader.{Reader}
use Rattle.rust_cursor.specs.Words.{kind, text, at, has_length}
use Rattle.rust_cursor.specs.Looks.{Lookahead, token_is, stays_short}
use Rattle.rust_cursor.specs.Grammar.{by_identifier, outside, Grammar, takes_identifier, reads}
use Rattle.rust_paths.specs.declared.names.TheConstants.{KEYWORD_FIRST, KEYWORD_LAST, KEYWORD_MIDDLE}

-- ---- keywords

-- the keywords of every edition, strict or reserved, but for those that a path may hold
abbrev pub keywords : List (List ℕ)
keywords =
    codes "abstract" ∷ codes "as" ∷ codes "become" ∷ codes "box" ∷ codes "break" ∷ codes "const" ∷ codes "continue" ∷ codes "do" ∷ codes "else"
    ∷ codes "enum" ∷ codes "extern" ∷ codes "false" ∷ codes "final" ∷ codes "fn" ∷ codes "for" ∷ codes "if" ∷ codes "impl" ∷ codes "in" ∷ codes "let"
    ∷ codes "loop" ∷ codes "macro" ∷ codes "match" ∷ codes "mod" ∷ codes "move" ∷ codes "mut" ∷ codes "override" ∷ codes "priv" ∷ codes "pub"
    ∷ codes "ref" ∷ codes "return" ∷ codes "static" ∷ codes "struct" ∷ codes "trait" ∷ codes "true" ∷ codes "type" ∷ codes "typeof" ∷ codes "unsafe"
    ∷ codes "unsized" ∷ codes "use" ∷ codes "virtual" ∷ codes "where" ∷ codes "while" ∷ codes "yield" ∷ []

-- those that became keywords with the edition 2018
abbrev pub keywords_since_2018 : List (List ℕ)
keywords_since_2018 = codes "async" ∷ codes "await" ∷ codes "dyn" ∷ codes "try" ∷ []

-- and with 2024
abbrev pub keywords_since_2024 : List (List ℕ)
keywords_since_2024 = codes "gen" ∷ []

abbrev pub is_since_2018 : EditionYear → Bool
is_since_2018 year.E2015 = false
is_since_2018 _ = true

abbrev pub is_since_2024 : EditionYear → Bool
is_since_2024 year.E2024 = true
is_since_2024 _ = false

-- a keyword of the edition, but for those that a path may hold
unfoldable pub is_keyword : EditionYear → List ℕ → Bool
is_keyword edition word =
    if list_any (bytes_eq word) keywords then true
    else (if list_any (bytes_eq word) keywords_since_2018 then is_since_2018 edition
    else (if list_any (bytes_eq word) keywords_since_2024 then is_since_2024 edition else false))

-- A word may be a keyword in some edition, by its length and three of its bytes. It is a quick test: most names fail it, and no keyword does.
abbrev pub may_be_keyword : List ℕ → Bool
may_be_keyword w = has_length KEYWORD_FIRST (slice_index w 0) w && has_length KEYWORD_MIDDLE (slice_index w (length w / 2)) w
    && has_length KEYWORD_LAST (slice_index w (length w - 1)) w

-- the keywords that a path may hold
abbrev pub path_keywords : List (List ℕ)
path_keywords = codes "crate" ∷ codes "self" ∷ codes "super" ∷ codes "Self" ∷ []

-- a keyword that a path may hold
unfoldable pub is_path_keyword : List ℕ → Bool
is_path_keyword word = list_any (bytes_eq word) path_keywords

abbrev pub is_underscore : List ℕ → Bool
is_underscore word = bytes_eq word (codes "_")

-- ---- names

-- NON_KEYWORD_IDENTIFIER
unfoldable pub plain_name : EditionYear → List ℕ → Option (List ℕ)
plain_name edition word =
    if is_keyword edition word then None
    else (if is_path_keyword word then None else (if is_underscore word then None else Some word))

-- what stands behind `r#`
abbrev pub behind_hash : List ℕ → Option (List ℕ)
behind_hash (r ∷ hash ∷ word) = if r == 114 then (if hash == 35 then Some word else None) else None
behind_hash _ = None

-- a word that may stand behind `r#`: any but `crate`, `self`, `super`, `Self` and `_`
abbrev pub unless_path_keyword : Option (List ℕ) → Option (List ℕ)
unless_path_keyword None = None
unless_path_keyword (Some word) = if is_path_keyword word then None else (if is_underscore word then None else Some word)

-- RAW_IDENTIFIER
unfoldable pub raw_name : List ℕ → Option (List ℕ)
raw_name text = unless_path_keyword (behind_hash text)

-- IDENTIFIER: the name that a token of this kind and text is
abbrev pub name_text : EditionYear → Option TokenKind → List ℕ → Option (List ℕ)
name_text edition (Some kinds.Ident) text = plain_name edition text
name_text edition (Some kinds.RawIdent) text = raw_name text
name_text edition _ text = None

-- a name of the edition comes next
unfoldable pub has_name : Lookahead
has_name = token_is (λ y k z. is_some (name_text y k z))

pub name_short : stays_short has_name ≡ true
unfolding has_name
name_short = refl

-- each identifier is a name
abbrev pub as_name : Option (List ℕ) → Option (List ℕ)
as_name None = None
as_name (Some text) = name_in text

-- the name that an identifier is
abbrev pub identifier_name : EditionYear → Bool → List ℕ → Option (List ℕ)
identifier_name edition false text = as_name (plain_name edition text)
identifier_name edition true text = as_name (raw_name text)

-- the name that comes next
unfoldable pub next_name : Tokens → Option (List ℕ)
next_name ts = by_identifier identifier_name ts.edition (kind ts) (text ts)

-- A name, if one comes next. What is none is left.
unfoldable pub name : Grammar outside (Option (List ℕ))
name = takes_identifier identifier_name

-- a name, and where its token begins and ends
pub record Placed : Type 0 where
  pub name : List ℕ
  pub start : ℕ
  pub end : ℕ

abbrev pub placed_if : ℕ → Option (List ℕ) → ℕ → Option Placed
placed_if start None end = None
placed_if start (Some name) end = Some (record { name = name; start = start; end = end })

-- a name with its range, if one comes next
unfoldable pub placed_name : Reader (Option Placed)
placed_name ts = (placed_if (at ts) (reads name ts).0 (reads name ts).1.past, (reads name ts).1)
