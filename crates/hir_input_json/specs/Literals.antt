-- The reading of a syntax context, of a span and of a literal.
use Rattle.std.specs.Prelude.{ℕ, ◌^◌, List, [], codes, decimal}
use Rattle.serde_json.specs.Data.{Data, Items, no_items, item}
use Rattle.serde_json.specs.Find.{as_str}
use Rattle.hir_input.specs.declared.edition.EditionYear.TheVariants.{E2015, E2018, E2021, E2024}
use Rattle.hir_input.specs.declared.ids.SyntaxContext.{SyntaxContext}
use Rattle.hir_input.specs.declared.ids.SyntaxContext.TheVariants.{Root, Expanded}
use Rattle.hir_input.specs.declared.span.Span.{Span}
use Rattle.hir_input.specs.Literal.{LiteralView}
use Rattle.hir_input_json.specs.Reading.{Reading, right, wrong, reading_map, under, ◌>>=◌}
use Rattle.hir_input_json.specs.Forms.{required_at, optional_at, maybe_at, by_form, on_word, whole_form, text_form, object_members, array_items}

-- the words for the roots of the editions
abbrev pub root_word : List ℕ → Reading SyntaxContext
root_word word =
    on_word word (codes "ROOT2015") (right (Root E2015))
    (on_word word (codes "ROOT2018") (right (Root E2018))
    (on_word word (codes "ROOT2021") (right (Root E2021))
    (on_word word (codes "ROOT2024") (right (Root E2024))
    (wrong []))))

-- a context: a word for a root, or the number of an expansion
abbrev pub context : Data → Reading SyntaxContext
context d = by_form (as_str d) root_word (reading_map Expanded (whole_form (2 ^ 32) d))

-- the latest root where it is absent
abbrev pub context_at : Data → Reading SyntaxContext
context_at = optional_at (Root E2024) (codes "ctxt") context

-- in this context, from one number up to another
abbrev pub literal_span : SyntaxContext → (start end : ℕ) → Span
literal_span ctxt start end = record { start = start; end = end; ctxt = ctxt }

-- a list of just the two numbers
abbrev pub span_in : SyntaxContext → Items → Reading Span
span_in ctxt no_items = wrong []
span_in ctxt (item a no_items) = wrong []
span_in ctxt (item a (item b no_items)) = do
  start ← under (decimal 0) (whole_form (2 ^ 32) a)
  end ← under (decimal 1) (whole_form (2 ^ 32) b)
  right (literal_span ctxt start end)
span_in ctxt (item a (item b (item c ds))) = wrong []

-- a span in this context
abbrev pub span : SyntaxContext → Data → Reading Span
span ctxt d = do
  ds ← array_items d
  span_in ctxt ds

-- a literal, whose span is in this context: empty at 0 where it is absent
abbrev pub literal : SyntaxContext → Data → Reading LiteralView
literal ctxt d = do
  _ ← object_members d
  rendered ← required_at (codes "rendered") text_form d
  string ← maybe_at (codes "string") text_form d
  place ← optional_at (literal_span ctxt 0 0) (codes "span") (span ctxt) d
  right (record { rendered = rendered; string = string; span = place })
