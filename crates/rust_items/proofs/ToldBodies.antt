-- Which braces are a body is told by the places of what was read.
use Rattle.std.proofs.Common.{◌≡◌, ◌<◌, ◌≤◌, ◌==◌, ◌||◌, ℕ, Option, Some, None, List, [], ◌∷◌, length, refl, ap, ◌∙◌, map, arith, nat_lt, option_map}
use Rattle.rust_items.proofs.Common.{nat_tests, EditionYear, FileAstId, when, TextRange, ItemSpan, with_feeds, place_in, moved_range, moved_span, FileView, places, found_in, IsFileView, begins_at, has_body, has_body_at}
use Rattle.rust_items.proofs.LineEnds.{place_rises_in}
use Rattle.rust_items.proofs.ItemsInText.{IsMaybeIn, AreIn, spans_in, as_many}

apart_tests : (m n m' n' : ℕ) → m < n → m' < n' → (m' == n') ≡ (m == n)
apart_tests m n m' n' h h' = grind (arith, nat_tests)

apart_back : (m n m' n' : ℕ) → n < m → n' < m' → (m' == n') ≡ (m == n)
apart_back m n m' n' h h' = grind (arith, nat_tests)

level : (m n m' n' : ℕ) → m ≡ n → m' ≡ n' → (m' == n') ≡ (m == n)
level m n m' n' h h' = grind (arith, nat_tests)

module _ (place : ℕ → ℕ) (end : ℕ) (rises : (m n : ℕ) → m < n → n ≤ end → place m < place n) (at : ℕ) (low : at ≤ end) where
  -- places that differ differ in the text
  same_test : (n : ℕ) → n ≤ end → (place n == place at) ≡ (n == at)
  same_test n h =
      when (nat_lt n at)
      (λ e. let less : n < at = grind (arith, nat_tests) in apart_tests n at (place n) (place at) less (rises n at less low))
      (λ e. when (nat_lt at n)
      (λ f. let more : at < n = grind (arith, nat_tests) in apart_back n at (place n) (place at) more (rises at n more h))
      (λ f. let same : n ≡ at = grind (arith, nat_tests) in level n at (place n) (place at) same (ap place same)))

  body_told : (body : Option TextRange) → IsMaybeIn end body → begins_at (place at) (option_map (moved_range place) body) ≡ begins_at at body
  body_told None h = refl
  body_told (Some r) h = same_test r.start h.0

  places_told : (ids : List FileAstId) (spans : List ItemSpan) → length ids ≡ length spans → AreIn end spans → has_body_at (place at) (places ids (map (moved_span place) spans)) ≡ has_body at spans
  places_told [] [] e h = refl
  places_told (id ∷ ids) (s ∷ ss) e h =
      ap (λ t. t || has_body_at (place at) (places ids (map (moved_span place) ss))) (body_told s.body h.0.1.1) ∙ ap (λ t. begins_at at s.body || t) (places_told ids ss (omega arith) h.1)
  places_told _ _ e h = absurd (omega arith)

pub file_told : (edition : EditionYear) (old : List ℕ) (read : FileView) (f : IsFileView edition old read) (at : ℕ) → at ≤ length (with_feeds old)
    → has_body_at (place_in old at) read.places ≡ has_body at (found_in edition (with_feeds old)).spans
file_told edition old read f at low =
    let x = with_feeds old in
    ap (has_body_at (place_in old at)) f.places
    ∙ places_told (place_in old) (length x) (place_rises_in old) at low f.ids (found_in edition x).spans (as_many edition x (place_in old) read f) (spans_in edition x)
