-- Literals and documentation comments. Their spans count from a place in the text, the anchor.
use Rattle.std.specs.Prelude.{◌≡◌, refl, true, ℕ, Bool, ◌==◌, ◌-◌, ◌&&◌, min, if◌then◌else◌, Option, Some, None, List, length, take, drop, slice_index, codes}
use Rattle.hir_input.specs.declared.edition.EditionYear.TheVariants.{E2024}
use Rattle.hir_input.specs.declared.ids.SyntaxContext.{SyntaxContext}
use Rattle.hir_input.specs.declared.ids.SyntaxContext.TheVariants.{Root}
use Rattle.hir_input.specs.declared.span.Span.{Span}
use Rattle.hir_input.specs.Literal.{LiteralView}
use Rattle.rust_lexer.specs.declared.kind.DocStyle.{DocStyle}
use Rattle.rust_lexer.specs.declared.kind.LiteralKind.{LiteralKind}
use Rattle.rust_lexer.specs.declared.kind.LiteralKind.TheVariants as literals
use Rattle.rust_lexer.specs.declared.kind.TokenKind.{TokenKind}
use Rattle.rust_lexer.specs.declared.kind.TokenKind.TheVariants as kinds
use Rattle.rust_cursor.specs.Nests.{is_literal_kind}
use Rattle.rust_cursor.specs.Tokens.{Tokens}
use Rattle.rust_cursor.specs.Reader.{Reader}
use Rattle.rust_cursor.specs.Words.{kind, text, at, bumped}
use Rattle.rust_cursor.specs.Looks.{Lookahead, at_end, either_seen, kind_is, may_skip, symbol_is, then_seen, word_is}
use Rattle.rust_cursor.specs.Anchored.{Anchored, gives_from, spans}
use Rattle.rust_metas.specs.Strings.{as_text, and_text, unescaped_bytes, raw_string_bytes, quoted_text}

-- where all that is written in a text comes from
abbrev pub root : SyntaxContext
root = Root E2024

-- a place that is too far is the last that a span can tell
abbrev pub place : ℕ → ℕ
place at = min at 4294967295

-- from here to there
abbrev pub span_between : ℕ → ℕ → Span
span_between start end = record { start = place start; end = place end; ctxt = root }

-- the same, counted from the anchor
abbrev pub span_from : ℕ → ℕ → ℕ → Span
span_from anchor start end = span_between (start - anchor) (end - anchor)

-- ---- literals

-- the string of a literal of this kind and text, if it is a string or a raw string without a suffix
abbrev pub string_of : LiteralKind → List ℕ → Option (List ℕ)
string_of literals.Str z = and_text (unescaped_bytes 0 (drop 1 z))
string_of literals.RawStr z = and_text (raw_string_bytes (drop 1 z))
string_of _ z = None

abbrev pub string_by : Option TokenKind → List ℕ → Option (List ℕ)
string_by (Some (kinds.Literal k)) z = string_of k z
string_by _ z = None

-- `true` and `false`
unfoldable pub is_truth : Lookahead
is_truth = either_seen (word_is (codes "true")) (word_is (codes "false"))

-- LiteralExpression
unfoldable pub is_literal : Lookahead
is_literal = either_seen (kind_is is_literal_kind) is_truth

-- a comma comes next, a bracket that closes, or nothing
unfoldable pub is_ended : Lookahead
is_ended = either_seen at_end (symbol_is 44)

pub ended_skipped : may_skip is_ended 0 ≡ true
unfolding is_ended
ended_skipped = refl

-- the literal that a token of this kind and text is
abbrev pub literal_by : Option TokenKind → List ℕ → Span → LiteralView
literal_by k z span = record { rendered = z; string = string_by k z; span = span }

-- the literal that comes next
unfoldable pub next_literal : ℕ → Tokens → LiteralView
next_literal anchor ts = literal_by (kind ts) (text ts) (span_from anchor (at ts) (bumped ts).past)

pub literal_skipped : may_skip (then_seen is_literal 1 is_ended) 1 ≡ true
unfolding is_literal is_truth is_ended
literal_skipped = refl

-- a literal, if one comes next and nothing stands behind it: any other expression is none
unfoldable pub value : Anchored (Option LiteralView)
value = spans (then_seen is_literal 1 is_ended) literal_skipped (λ y k z start end. Some (literal_by k z (span_between start end))) (gives_from None)

-- ---- documentation comments

abbrev pub style_by : Option TokenKind → Option DocStyle
style_by (Some (kinds.LineComment style)) = style
style_by (Some (kinds.BlockComment style)) = style
style_by _ = None

-- a line without the carriage return at its end
abbrev pub without_return : List ℕ → List ℕ
without_return z = if slice_index z (length z - 1) == 13 then take (length z - 1) z else z

-- a block without its `*/`
abbrev pub without_end : List ℕ → List ℕ
without_end z = if slice_index z (length z - 2) == 42 && slice_index z (length z - 1) == 47 then take (length z - 2) z else z

-- the text of a comment behind its mark of three bytes
abbrev pub comment_text : Option TokenKind → List ℕ → List ℕ
comment_text (Some (kinds.LineComment _)) z = without_return (drop 3 z)
comment_text _ z = without_end (drop 3 z)

abbrev pub literal_from : Option (List ℕ) → Option (List ℕ) → Span → Option LiteralView
literal_from (Some rendered) (Some string) span = Some (record { rendered = rendered; string = Some string; span = span })
literal_from _ _ span = None

-- a text as the literal of a string
unfoldable pub string_literal : List ℕ → Span → Option LiteralView
string_literal z span = literal_from (as_text (quoted_text z)) (as_text z) span

-- what the documentation comment that comes next says
unfoldable pub documentation : ℕ → Reader (Option LiteralView)
documentation anchor ts = (string_literal (comment_text (kind ts) (text ts)) (span_from anchor (at ts) (bumped ts).past), bumped ts)
