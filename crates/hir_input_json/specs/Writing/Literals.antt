-- The data of a syntax context and of a literal.
use Rattle.std.specs.Prelude.{ℕ, ◌^◌, ◌==◌, List, Bool, false, codes, if◌then◌else◌, Option, Some, None}
use Rattle.serde_json.specs.Data.{Data, string, array, object, no_items, item, no_members, member}
use Rattle.hir_input.specs.declared.edition.EditionYear.{EditionYear}
use Rattle.hir_input.specs.declared.edition.EditionYear.TheVariants.{E2015, E2018, E2021, E2024}
use Rattle.hir_input.specs.declared.ids.SyntaxContext.{SyntaxContext}
use Rattle.hir_input.specs.declared.ids.SyntaxContext.TheVariants.{Root, Expanded}
use Rattle.hir_input.specs.declared.span.Span.{Span}
use Rattle.hir_input.specs.Literal.{LiteralView}
use Rattle.hir_input_json.specs.Writing.Parts.{text_or_null, whole_data, ◌>>=◌}

-- a context
abbrev pub context_data : SyntaxContext → Option Data
context_data (Root E2015) = Some (string (codes "ROOT2015"))
context_data (Root E2018) = Some (string (codes "ROOT2018"))
context_data (Root E2021) = Some (string (codes "ROOT2021"))
context_data (Root E2024) = Some (string (codes "ROOT2024"))
context_data (Expanded n) = whole_data (2 ^ 32) n

-- a year's number
abbrev pub year_number : EditionYear → ℕ
year_number E2015 = 2015
year_number E2018 = 2018
year_number E2021 = 2021
year_number E2024 = 2024

-- whether two contexts are one
abbrev pub is_same_context : SyntaxContext → SyntaxContext → Bool
is_same_context (Root a) (Root b) = year_number a == year_number b
is_same_context (Expanded n) (Expanded m) = n == m
is_same_context (Root a) (Expanded m) = false
is_same_context (Expanded n) (Root b) = false

-- a span, by where it starts and ends
abbrev pub span_data : Span → Option Data
span_data s = do
  start ← whole_data (2 ^ 32) s.start
  end ← whole_data (2 ^ 32) s.end
  Some (array (item start (item end no_items)))

abbrev pub literal_object : List ℕ → (place text : Data) → Data
literal_object rendered place text = object (member (codes "rendered") (string rendered) (member (codes "span") place (member (codes "string") text no_members)))

-- a literal of a meta in this context, in which its span is read again
abbrev pub literal_data : SyntaxContext → LiteralView → Option Data
literal_data ctxt l =
    if is_same_context ctxt l.span.ctxt then (do
      place ← span_data l.span
      Some (literal_object l.rendered place (text_or_null l.string)))
    else None
