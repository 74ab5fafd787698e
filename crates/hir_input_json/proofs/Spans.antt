-- A span is of just two numbers.
use Rattle.std.proofs.Common.{◌≡◌, ◌<◌, List, [], ◌∷◌, length, refl, arith}
use Rattle.serde_json.specs.View.{items_view}
use Rattle.serde_json.specs.declared.value.Value.{Value}
use Rattle.hir_input.specs.declared.ids.SyntaxContext.{SyntaxContext}
use Rattle.hir_input_json.proofs.Common.{wrong, span_in}

pub span_of_fewer : (ctxt : SyntaxContext) (vs : List Value) → length vs < 2 → span_in ctxt (items_view vs) ≡ wrong []
span_of_fewer ctxt [] h = refl
span_of_fewer ctxt (a ∷ []) h = refl
span_of_fewer ctxt (a ∷ (b ∷ vs)) h = absurd (omega (arith, h))

pub span_of_more : (ctxt : SyntaxContext) (vs : List Value) → 2 < length vs → span_in ctxt (items_view vs) ≡ wrong []
span_of_more ctxt [] h = absurd (omega (arith, h))
span_of_more ctxt (a ∷ []) h = absurd (omega (arith, h))
span_of_more ctxt (a ∷ (b ∷ [])) h = absurd (omega (arith, h))
span_of_more ctxt (a ∷ (b ∷ (c ∷ vs))) h = refl
