-- A context and a literal that are written are read again.
use Rattle.std.proofs.Common.{◌≡◌, ◌^◌, ◌==◌, ℕ, Bool, true, false, IfSome, Option, None, if◌then◌else◌, refl, ap, arith}
use Rattle.std.proofs.lemmas.Bool.Decides.{nat_tests}
use Rattle.serde_json.specs.Data.{Data, number, unsigned}
use Rattle.hir_input.specs.declared.edition.EditionYear.{EditionYear}
use Rattle.hir_input.specs.declared.edition.EditionYear.TheVariants.{E2015, E2018, E2021, E2024}
use Rattle.hir_input_json.proofs.Writing.Common.{SyntaxContext, LiteralView, field, whole_form, context, literal, span, context_data, is_same_context, literal_data, span_data, year_number, whole_data, Holds}
use Rattle.hir_input.specs.declared.ids.SyntaxContext.TheVariants.{Root, Expanded}
use Rattle.hir_input.specs.declared.span.Span.{Span}
use Rattle.hir_input_json.proofs.Writing.WrittenParts.{bind, below_law, text_law, whole_law}

pub context_law : (c : SyntaxContext) → IfSome (context_data c) (Holds context c)
context_law (Root E2015) = record { there = refl; reads = refl; exact = refl }
context_law (Root year) = record { there = refl; reads = refl; exact = refl }
context_law (Expanded n) = below_law (2 ^ 32) n (λ m. number (unsigned m)) (Holds context (Expanded n)) (λ e. record { there = refl; reads = rw e refl; exact = refl })

same_year : (a b : EditionYear) → (year_number a == year_number b) ≡ true → a ≡ b
same_year E2015 E2015 h = refl
same_year E2018 E2018 h = refl
same_year E2021 E2021 h = refl
same_year E2024 E2024 h = refl
same_year a b h = absurd cc

same_number : (n m : ℕ) → (n == m) ≡ true → n ≡ m
same_number n m h = grind (arith, nat_tests)

same_context : (a b : SyntaxContext) → is_same_context a b ≡ true → a ≡ b
same_context (Root a) (Root b) h = ap Root (same_year a b h)
same_context (Expanded n) (Expanded m) h = ap Expanded (same_number n m h)
same_context a b h = absurd cc

span_law : (ctxt : SyntaxContext) (s : Span) → ctxt ≡ s.ctxt → IfSome (span_data s) (Holds (span ctxt) s)
span_law ctxt s is =
    bind (whole_data (2 ^ 32) s.start) _ (Holds (whole_form (2 ^ 32)) s.start) (Holds (span ctxt) s) (whole_law (2 ^ 32) s.start) (λ a h.
    bind (whole_data (2 ^ 32) s.end) _ (Holds (whole_form (2 ^ 32)) s.end) (Holds (span ctxt) s) (whole_law (2 ^ 32) s.end) (λ b k.
    record { there = refl; reads = rw (h.reads, k.reads, is) refl; exact = rw (h.exact, k.exact) refl }))

literal_by : (b : Bool) (ctxt : SyntaxContext) (l : LiteralView) (Q : Data → Type 0) (o : Option Data) → (b ≡ true → IfSome o Q) → IfSome (if b then o else None) Q
literal_by true ctxt l Q o k = k refl
literal_by false ctxt l Q o k = tt

pub literal_law : (ctxt : SyntaxContext) (l : LiteralView) → IfSome (literal_data ctxt l) (Holds (literal ctxt) l)
unfolding field
literal_law ctxt l = literal_by (is_same_context ctxt l.span.ctxt) ctxt l (Holds (literal ctxt) l) _ (λ e.
    bind (span_data l.span) _ (Holds (span ctxt) l.span) (Holds (literal ctxt) l) (span_law ctxt l.span (same_context ctxt l.span.ctxt e)) (λ d h.
    let text = text_law l.string in
    record { there = refl; reads = rw (text.reads, h.there, h.reads) refl; exact = rw (h.exact, text.exact) refl }))
