-- The tokens of a text.
use Rattle.std.specs.Prelude.{ℕ, zero, suc, ◌≡◌, ◌<◌, ◌+◌, ◌++◌, All, ◌-◌, ◌==◌, Bool, true, false, not, ◌&&◌, if◌then◌else◌, List, [], ◌∷◌, take, drop, length, slice_index, Option, Some, None, flat_map}
use Rattle.rust_lexer.specs.declared.bytes.Class.TheVariants as class
use Rattle.rust_lexer.specs.declared.cut.Cut.{Cut}
use Rattle.rust_lexer.specs.declared.kind.TokenKind.{TokenKind}
use Rattle.rust_lexer.specs.declared.kind.TokenKind.TheVariants as kind
use Rattle.rust_lexer.specs.declared.lexer.Front.{Front}
use Rattle.rust_lexer.specs.declared.lexer.Front.TheVariants as front
use Rattle.rust_lexer.specs.Bytes.{run_length}
use Rattle.rust_lexer.specs.Frontmatter.{frontmatter}
use Rattle.rust_lexer.specs.Cut.{cut, first_cut}
use Rattle.rust_lexer.specs.Piece.{Piece}
use Rattle.rust_lexer.specs.Symbol.{symbol_of}

-- how many bytes belong to it behind the first: with the bytes that continue its last character
abbrev pub whole_length : Cut → List ℕ → ℕ
whole_length c z = c.len + run_length class.Continuation (drop c.len z)

-- the token that is cut off a text of the byte b and z, at this place
abbrev pub piece : Cut → ℕ → ℕ → List ℕ → Piece
piece c at b z = record { kind = c.kind; text = b ∷ take (whole_length c z) z; at = at }

-- The tokens of a text that begins at this place. The first number counts the bytes that are left of one.
abbrev pub tokens_from : ℕ → ℕ → List ℕ → List Piece
tokens_from left at [] = []
tokens_from (suc left) at (b ∷ z) = tokens_from left (suc at) z
tokens_from zero at (b ∷ z) = piece (first_cut b z) at b z ∷ tokens_from (whole_length (first_cut b z) z) (suc at) z

-- white space, and the comments that document nothing
abbrev pub is_blank : TokenKind → Bool
is_blank kind.Whitespace = true
is_blank (kind.LineComment None) = true
is_blank (kind.BlockComment None) = true
is_blank _ = false

-- the next of these that is not blank is a `[`
abbrev pub is_bracket_next : List Piece → Bool
is_bracket_next [] = false
is_bracket_next (t ∷ ts) = if is_blank t.kind then is_bracket_next ts else symbol_of t == 91

-- behind a `#`, a `!` and no inner attribute
abbrev pub is_shebang_next : List Piece → Bool
is_shebang_next [] = false
is_shebang_next (t ∷ ts) = symbol_of t == 33 && not (is_bracket_next ts)

-- SHEBANG: `#!`, but not an inner attribute
abbrev pub is_shebang : List Piece → Bool
is_shebang [] = false
is_shebang (t ∷ ts) = symbol_of t == 35 && is_shebang_next ts

-- the tokens of a text with so many bytes of frontmatter in front, or with none
abbrev pub matter_by : Option ℕ → ℕ → List ℕ → List Piece
matter_by None at z = tokens_from 0 at z
matter_by (Some n) at [] = []
matter_by (Some n) at (b ∷ z) = let c = cut kind.Frontmatter (n - 1) in piece c at b z ∷ tokens_from (whole_length c z) (suc at) z

-- the tokens of a text with frontmatter or none in front
abbrev pub matter_from : ℕ → List ℕ → List Piece
matter_from at z = matter_by (frontmatter 0 z) at z

-- the tokens of a text with a shebang line in front
abbrev pub shebang_from : ℕ → List ℕ → List Piece
shebang_from at [] = []
shebang_from at (b ∷ z) =
    let c = cut kind.Shebang (run_length class.Line z) in
    let t = piece c at b z in t ∷ matter_from (at + length t.text) (drop (whole_length c z) z)

-- the tokens of a text with a shebang line or none in front
abbrev pub lines_from : ℕ → List ℕ → List Piece
lines_from at z = if is_shebang (tokens_from 0 at z) then shebang_from at z else matter_from at z

-- the tokens of a text with a byte order mark in front
abbrev pub mark_from : ℕ → List ℕ → List Piece
mark_from at [] = []
mark_from at (b ∷ z) =
    let c = cut kind.ByteOrderMark 2 in
    let t = piece c at b z in t ∷ lines_from (at + length t.text) (drop (whole_length c z) z)

-- EF BB BF
abbrev pub has_mark : List ℕ → Bool
has_mark z = slice_index z 0 == 239 && slice_index z 1 == 187 && slice_index z 2 == 191

-- the tokens of a text, by what may stand in front of it
abbrev pub pieces : Front → ℕ → List ℕ → List Piece
pieces front.Mark at z = if has_mark z then mark_from at z else lines_from at z
pieces front.Line at z = lines_from at z
pieces front.Matter at z = matter_from at z
pieces front.Token at z = tokens_from 0 at z

-- the tokens of a text
unfoldable pub tokens : List ℕ → List Piece
tokens z = pieces front.Mark 0 z

-- neither white space nor a comment, but for one that documents something, nor what may stand in front of a text alone
abbrev pub is_significant_kind : TokenKind → Bool
is_significant_kind kind.ByteOrderMark = false
is_significant_kind kind.Shebang = false
is_significant_kind kind.Frontmatter = false
is_significant_kind k = not (is_blank k)

-- a token is neither white space nor a comment without documentation
abbrev pub is_significant : Piece → Bool
is_significant t = is_significant_kind t.kind

-- the texts of tokens, one behind the other
abbrev pub text_of : List Piece → List ℕ
text_of ts = flat_map (λ t. t.text) ts

-- each begins where the one before it ends, and the first at this place
abbrev pub AreInPlace : ℕ → List Piece → Type 0
AreInPlace at [] = Unit {0}
AreInPlace at (t ∷ ts) = (t.at ≡ at) × AreInPlace (at + length t.text) ts

-- no token is left
abbrev pub is_nil : List Piece → Bool
is_nil [] = true
is_nil (t ∷ ts) = false

-- the same tokens, which begin before a place, are passed of two lists
abbrev pub ArePassed : ℕ → List Piece → List Piece → List Piece → List Piece → Type 0
ArePassed place olds news olds' news' = (front : List Piece) × (olds ≡ front ++ news) × (olds' ≡ front ++ news') × All (λ t. t.at < place) front
