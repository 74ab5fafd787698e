-- `==` at attributes, and at what they and metas are made of, decides whether the two are one.
use Rattle.std.proofs.Common.{Bool, None, Some, refl, ap, rules}
use Rattle.hir_input.proofs.Common.{option_eq, pointwise_decides, Decides-and, Decides-like, DecidesEq, DecidesEqOf}
use lib.Pointwise.{bytes_decides}
use Rattle.hir_input.specs.declared.ast.PathNode.TheVariants.{Readable, Unreadable}
use Rattle.hir_input.specs.declared.attr.AttrInput.TheVariants.{Literal, TokenTree}
use Rattle.hir_input.specs.contracts.edition.EditionYearPartialEq.TheImpl as years
use Rattle.hir_input.specs.contracts.edition.EditionPartialEq.TheImpl as editions
use Rattle.hir_input.specs.contracts.ids.SyntaxContextPartialEq.TheImpl as contexts
use Rattle.hir_input.specs.contracts.span.SpanPartialEq.TheImpl as spans
use Rattle.hir_input.specs.contracts.ast.PathNodePartialEq.TheImpl as nodes
use Rattle.hir_input.specs.contracts.attr.LiteralPartialEq.TheImpl as literals
use Rattle.hir_input.specs.contracts.attr.AttrInputPartialEq.TheImpl as inputs
use Rattle.hir_input.specs.contracts.attr.AttrPartialEq.TheImpl as attrs
use Rattle.hir_input.specs.Edition.{edition_view}
use Rattle.hir_input.proofs.PathEq.{path_decides}

pub option_decides : {T : Type 0} (E : T → T → Bool) → DecidesEq E → DecidesEq (option_eq E)
option_decides E d None None = (λ h. refl, λ e. refl)
option_decides E d (Some a) (Some b) = Decides-like _ (ap Some) (λ e. cc) (d a b)
option_decides E d o p = (λ h. cc, λ e. cc)

year_decides : DecidesEq years.ghosts.eq
year_decides a b = search rules

pub edition_decides : DecidesEqOf edition_view editions.ghosts.eq
edition_decides a b =
    Decides-like _
    (λ e i. (e.0 i, e.1 i))
    (λ e. (ap (λ x. x.0) e, ap (λ x. x.1) e))
    (Decides-and _ _ (year_decides a.year b.year) (pointwise_decides bytes_decides a.reserved.items b.reserved.items))

pub context_decides : DecidesEq contexts.ghosts.eq
context_decides a b = search rules

span_decides : DecidesEq spans.ghosts.eq
span_decides a b = search rules

pub path_node_decides : DecidesEq nodes.ghosts.eq
path_node_decides (Readable p) (Readable q) = Decides-like _ (ap Readable) (λ e. cc) (path_decides p q)
path_node_decides Unreadable Unreadable = (λ h. refl, λ e. refl)
path_node_decides a b = (λ h. cc, λ e. cc)

pub literal_decides : DecidesEq literals.ghosts.eq
literal_decides a b =
    Decides-like _
    (λ e i. record { rendered = e.0 i; string = e.1.0 i; span = e.1.1 i })
    (λ e. (ap (λ l. l.rendered) e, (ap (λ l. l.string) e, ap (λ l. l.span) e)))
    (Decides-and _ _ (bytes_decides a.rendered b.rendered) (Decides-and _ _ (option_decides _ bytes_decides a.string b.string) (span_decides a.span b.span)))

pub input_decides : DecidesEq inputs.ghosts.eq
input_decides (Literal l) (Literal m) = Decides-like _ (ap Literal) (λ e. cc) (literal_decides l m)
input_decides (TokenTree t) (TokenTree u) = Decides-like _ (ap TokenTree) (λ e. cc) (bytes_decides t u)
input_decides a b = (λ h. cc, λ e. cc)

pub attr_decides : DecidesEq attrs.ghosts.eq
attr_decides a b =
    Decides-like _
    (λ e i. record { path = e.0 i; input = e.1.0 i; ctxt = e.1.1 i })
    (λ e. (ap (λ x. x.path) e, (ap (λ x. x.input) e, ap (λ x. x.ctxt) e)))
    (Decides-and _ _ (path_decides a.path b.path) (Decides-and _ _ (option_decides _ input_decides a.input b.input) (context_decides a.ctxt b.ctxt)))
