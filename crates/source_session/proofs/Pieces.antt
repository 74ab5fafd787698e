-- Parts of texts.
use Rattle.std.proofs.Common.{◌≡◌, ℕ, ◌<◌, ◌≤◌, List, [], Bor, length, map, get_or, refl, ap, sym, ◌∙◌, option_map}
use Rattle.source_session.proofs.Common.{unwrap_or, length-map}
use Rattle.std.proofs.lemmas.Option.{slice_get-map, slice_get_past, slice_get_read}
use Rattle.source_session.specs.Parts.{part_at}

-- what is lent of a place is the part there
pub part_found : (ps : List (Bor (List ℕ))) (at : ℕ) (p : Bor (List ℕ)) → at < length ps → p ≡ get_or ps at p → p.now ≡ part_at (map (λ q. q.now) ps) at
part_found ps at p within is = sym (ap (λ o. unwrap_or o []) (slice_get-map (λ q. q.now) ps at ∙ ap (option_map (λ q. q.now)) (slice_get_read ps (length ps) at p refl within is)))

-- past all parts there is none
pub part_past : (ps : List (Bor (List ℕ))) (at : ℕ) → length ps ≤ at → [] ≡ part_at (map (λ q. q.now) ps) at
part_past ps at past = sym (ap (λ o. unwrap_or o []) (slice_get-map (λ q. q.now) ps at ∙ ap (option_map (λ q. q.now)) (slice_get_past ps at past)))

pub same_count : (ps : List (Bor (List ℕ))) → length (map (λ p. p.now) ps) ≡ length ps
same_count ps = length-map ps (λ p. p.now)
