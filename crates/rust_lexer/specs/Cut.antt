-- The token at the front of a text, by its first byte and the bytes behind that.
use Rattle.std.specs.Prelude.{ℕ, suc, ◌+◌, Bool, not, ◌&&◌, ◌||◌, ◌==◌, nat_le, false, if◌then◌else◌, List, drop, slice_index, Option, Some, None}
use Rattle.std.specs.Char.{is_ascii_digit}
use Rattle.rust_lexer.specs.declared.bytes.Class.TheVariants as class
use Rattle.rust_lexer.specs.declared.cut.Cut.{Cut}
use Rattle.rust_lexer.specs.declared.kind.LiteralKind.{LiteralKind}
use Rattle.rust_lexer.specs.declared.kind.LiteralKind.TheVariants as literals
use Rattle.rust_lexer.specs.declared.kind.TokenKind.{TokenKind}
use Rattle.rust_lexer.specs.declared.kind.TokenKind.TheVariants as kind
use Rattle.rust_lexer.specs.declared.quoted.Extent.{Extent}
use Rattle.rust_lexer.specs.Bytes.{is_start, is_white, is_word, is_word_start, run_length}
use Rattle.rust_lexer.specs.Comment.{block, block_style, line_style}
use Rattle.rust_lexer.specs.Number.{number}
use Rattle.rust_lexer.specs.Quoted.{character, is_one_char, raw_string, string}

-- a kind, and how many of the bytes behind the first belong to the token
abbrev pub cut : TokenKind → ℕ → Cut
cut k n = record { kind = k; len = n }

-- SUFFIX: an identifier directly behind a literal
abbrev pub suffix_len : List ℕ → ℕ
suffix_len z = if is_word_start z then run_length class.Word z else 0

-- a literal of so many bytes, with its suffix
abbrev pub with_suffix : LiteralKind → ℕ → List ℕ → Cut
with_suffix k n z = cut (kind.Literal k) (n + suffix_len (drop n z))

-- a quoted literal, which has a suffix where it is closed
abbrev pub quoted_literal : LiteralKind → Extent → List ℕ → Cut
quoted_literal k extent z = if extent.is_closed then with_suffix k extent.len z else cut (kind.Literal k) extent.len

-- IDENTIFIER_OR_KEYWORD
abbrev pub plain_word : List ℕ → Cut
plain_word z = cut kind.Ident (run_length class.Word z)

-- a raw literal, or else a word
abbrev pub raw_or : LiteralKind → Cut → List ℕ → Option Extent → Cut
raw_or k other z None = other
raw_or k other z (Some extent) = quoted_literal k extent z

-- RAW_IDENTIFIER
abbrev pub raw_identifier : List ℕ → Cut
raw_identifier z =
    if slice_index z 0 == 35 && is_word_start (drop 1 z) then cut kind.RawIdent (suc (run_length class.Word (drop 1 z))) else plain_word z

-- behind a `b` or a `c`, the raw literal of an `r`, or else a word
abbrev pub prefixed_raw : LiteralKind → List ℕ → Cut
prefixed_raw k z = if slice_index z 0 == 114 then raw_or k (plain_word z) z (raw_string 1 (drop 1 z)) else plain_word z

-- what begins with `r`: RAW_STRING_LITERAL, RAW_IDENTIFIER or a word
abbrev pub r_word : List ℕ → Cut
r_word z = raw_or literals.RawStr (raw_identifier z) z (raw_string 0 z)

-- what begins with `b`: BYTE_LITERAL, BYTE_STRING_LITERAL, RAW_BYTE_STRING_LITERAL or a word
abbrev pub b_word : List ℕ → Cut
b_word z =
    if slice_index z 0 == 34 then quoted_literal literals.ByteStr (string false 1 (drop 1 z)) z
    else (if slice_index z 0 == 39 then quoted_literal literals.Byte (character 1 (drop 1 z)) z
    else prefixed_raw literals.RawByteStr z)

-- what begins with `c`: C_STRING_LITERAL, RAW_C_STRING_LITERAL or a word
abbrev pub c_word : List ℕ → Cut
c_word z =
    if slice_index z 0 == 34 then quoted_literal literals.CStr (string false 1 (drop 1 z)) z
    else prefixed_raw literals.RawCStr z

abbrev pub cut_word : ℕ → List ℕ → Cut
cut_word b z = if b == 114 then r_word z else (if b == 98 then b_word z else (if b == 99 then c_word z else plain_word z))

-- comments, and the `/` alone
abbrev pub slash : List ℕ → Cut
slash z =
    if slice_index z 0 == 47 then cut (kind.LineComment (line_style (drop 1 z))) (suc (run_length class.Line (drop 1 z)))
    else (if slice_index z 0 == 42 then cut (kind.BlockComment (block_style (drop 1 z))) (block false 0 1 (drop 1 z)).len
    else cut kind.Punct 0)

abbrev pub is_raw_lifetime : List ℕ → Bool
is_raw_lifetime z = slice_index z 0 == 114 && slice_index z 1 == 35 && is_word_start (drop 2 z)

-- RAW_LIFETIME and LIFETIME_OR_LABEL, or a word between two `'`
abbrev pub lifetime : List ℕ → Cut
lifetime z =
    let n = run_length class.Word z in
    if is_raw_lifetime z then cut kind.RawLifetime (2 + run_length class.Word (drop 2 z))
    else (if slice_index z n == 39 then cut (kind.Literal literals.Char) (suc n) else cut kind.Lifetime n)

-- what begins with a `'`
abbrev pub apostrophe : List ℕ → Cut
apostrophe z =
    if is_word z && not (is_one_char z) then lifetime z else quoted_literal literals.Char (character 0 z) z

-- `!`, `#` to `&`, `*` to `/`, `:` to `@`, `^`, `|` and `~`
abbrev pub is_punctuation : ℕ → Bool
is_punctuation b =
    b == 33 || (nat_le 35 b && nat_le b 38) || (nat_le 42 b && nat_le b 47) || (nat_le 58 b && nat_le b 64)
    || b == 94 || b == 124 || b == 126

-- a token of one byte
abbrev pub symbol_kind : ℕ → TokenKind
symbol_kind b =
    if b == 40 || b == 91 || b == 123 then kind.OpenDelim
    else (if b == 41 || b == 93 || b == 125 then kind.CloseDelim
    else (if is_punctuation b then kind.Punct else kind.Unknown))

-- Cuts off the token that begins with this byte, before these.
unfoldable pub first_cut : ℕ → List ℕ → Cut
first_cut b z =
    if is_white b z then cut kind.Whitespace (run_length class.White z)
    else (if is_ascii_digit b then (let n = number b z in with_suffix n.kind n.len z)
    else (if is_start b z then cut_word b z
    else (if b == 47 then slash z
    else (if b == 34 then quoted_literal literals.Str (string false 0 z) z
    else (if b == 39 then apostrophe z else cut (symbol_kind b) 0)))))
