-- Attributes. The spans of their literals count from the attribute that they stand in.
use Rattle.std.specs.Prelude.{◌≡◌, refl, ℕ, Bool, true, false, Option, Some, List}
use Rattle.hir_input.specs.Attr.{MetaView, key_value_meta}
use Rattle.rust_lexer.specs.declared.kind.DocStyle.{DocStyle}
use Rattle.rust_lexer.specs.declared.kind.DocStyle.TheVariants.{Outer, Inner}
use Rattle.rust_cursor.specs.Tokens.{Tokens}
use Rattle.rust_cursor.specs.Reader.{Reader, ◌>>=◌, pure, look, pass}
use Rattle.rust_cursor.specs.Words.{at}
use Rattle.rust_cursor.specs.Elements.{most_tokens, turns, one}
use Rattle.rust_cursor.specs.Looks.{Lookahead, at_item, either_seen, kind_is, may_skip, not_seen, past_from, sees, stays_short, symbol_is, then_seen}
use Rattle.rust_cursor.specs.Grammar.{Grammar, and_then, gives, inside, on_seen, passes_closed, reads, takes_any}
use Rattle.rust_cursor.specs.Anchored.{Anchored, gives_from, reads_from, spans, then_from, unplaced}
use Rattle.rust_metas.specs.Literals.{root, comment_text, span_between, string_literal, style_by}
use Rattle.rust_metas.specs.Metas.{doc_path, meta}

-- metas and conditions stand in one another as far as this
abbrev pub deepest_level : ℕ
deepest_level = 128

abbrev pub is_style : DocStyle → Option DocStyle → Bool
is_style Outer (Some Outer) = true
is_style Inner (Some Inner) = true
is_style _ _ = false

-- a documentation comment of this style comes next
unfoldable pub is_doc : DocStyle → Lookahead
is_doc style = kind_is (λ k. is_style style (style_by k))

pub doc_skipped : (style : DocStyle) → may_skip (is_doc style) 1 ≡ true
unfolding is_doc
doc_skipped Outer = refl
doc_skipped Inner = refl

-- `#[` comes next, or `#![`
unfoldable pub is_attribute : DocStyle → Lookahead
is_attribute Outer = then_seen (symbol_is 35) 1 (symbol_is 91)
is_attribute Inner = then_seen (symbol_is 35) 1 (then_seen (symbol_is 33) 1 (symbol_is 91))

-- no attribute of this style comes next
unfoldable pub is_behind : DocStyle → Lookahead
is_behind style = not_seen (either_seen (is_doc style) (is_attribute style))

pub behind_short : (style : DocStyle) → stays_short (is_behind style) ≡ true
unfolding is_behind is_doc is_attribute
behind_short Outer = refl
behind_short Inner = refl

-- where a word comes next that can begin an item only, the bracket is not closed
abbrev pub bracket_end : Grammar inside (Unit {0})
bracket_end = on_seen at_item 0 refl (gives tt) (passes_closed 91)

-- A meta in its bracket; what stands behind it there is passed over.
unfoldable pub bracketed_meta : Anchored MetaView
bracketed_meta =
    then_from (unplaced takes_any) (λ _. then_from (meta deepest_level) (λ m. then_from (unplaced bracket_end) (λ _. gives_from m)))

-- `#`, or `#!`
abbrev pub mark : DocStyle → Grammar inside (Unit {0})
mark Outer = takes_any
mark Inner = and_then takes_any (λ _. takes_any)

abbrev pub past_mark : DocStyle → Tokens → Tokens
past_mark style ts = (reads (mark style) ts).1

-- OuterAttribute or InnerAttribute; a documentation comment is `doc = ".."`
unfoldable pub one_attribute : DocStyle → Anchored MetaView
one_attribute style =
    spans (is_doc style) (doc_skipped style) (λ y k z start end. key_value_meta (Some doc_path) (string_literal (comment_text k z) (span_between start end)) root)
    (then_from (unplaced (mark style)) (λ _. bracketed_meta))

-- behind inner documentation
unfoldable pub behind_docs : Tokens → Tokens
behind_docs ts = past_from (sees (is_doc Inner)) most_tokens ts

-- Inner documentation behind an outer attribute is passed over: what the attribute stands before comes behind it.
abbrev pub behind_attribute : DocStyle → Tokens → Tokens
behind_attribute Outer ts = behind_docs ts
behind_attribute Inner ts = ts

-- spans count from its first byte
unfoldable pub attribute : DocStyle → Reader MetaView
attribute style = do
  start ← look at
  m ← reads_from start (one_attribute style)
  _ ← pass (behind_attribute style)
  pure m

-- the attributes of this style that come next
unfoldable pub attributes : DocStyle → Reader (List MetaView)
attributes style = turns (sees (is_behind style)) (one (attribute style))

-- the outer attributes that come next
unfoldable pub outer_attributes : Reader (List MetaView)
outer_attributes = attributes Outer

-- the inner attributes that come next
unfoldable pub inner_attributes : Reader (List MetaView)
inner_attributes = attributes Inner
