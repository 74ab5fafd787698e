-- A range has just two ends.
use Rattle.std.proofs.Common.{◌≡◌, ◌<◌, List, [], ◌∷◌, length, refl, arith}
use Rattle.serde_json.specs.View.{items_view}
use Rattle.serde_json.specs.declared.value.Value.{Value}
use Rattle.source_session.proofs.Common.{wrong, range_in}

pub range_of_fewer : (vs : List Value) → length vs < 2 → range_in (items_view vs) ≡ wrong []
range_of_fewer [] h = refl
range_of_fewer (a ∷ []) h = refl
range_of_fewer (a ∷ (b ∷ vs)) h = absurd (omega (arith, h))

pub range_of_more : (vs : List Value) → 2 < length vs → range_in (items_view vs) ≡ wrong []
range_of_more [] h = absurd (omega (arith, h))
range_of_more (a ∷ []) h = absurd (omega (arith, h))
range_of_more (a ∷ (b ∷ [])) h = absurd (omega (arith, h))
range_of_more (a ∷ (b ∷ (c ∷ vs))) h = refl
