-- Holes that move with a text in which something was typed.
use Rattle.std.proofs.Common.{◌≡◌, ◌≤◌, ◌<◌, ◌+◌, ◌-◌, ℕ, suc, zero, List, [], ◌∷◌, refl, ap, ◌∙◌, subst, arith, map}
use Rattle.std.specs.List.{Contains}
use Rattle.std.proofs.lemmas.Bool.{le-leb, lt-leb}
use Rattle.source_changes.specs.declared.kept.Hole.{Hole}
use Rattle.rust_edits.specs.Typing.Moved.{place_after_edit}
use Rattle.source_changes.specs.Typing.{moved_hole}
use Rattle.source_changes.proofs.LeftOutParts.{EndBy, holes_about, moved_on}
use Rattle.source_changes.proofs.HoleOrder.{AreRising, rising_le}

-- holes of two texts: those before the braces, the braces, and those behind them
pub record HolesBeside (n c c' : ℕ) (olds news : List Hole) : Type 0 where
  pub before : List Hole
  pub behind : List Hole
  pub end : EndBy (suc n) before
  pub old : olds ≡ holes_about n c before behind
  pub new : news ≡ holes_about n c' before behind

-- a place up to the `{`
pub stays : (n c c' k : ℕ) → k ≤ n → place_after_edit n c c' k ≡ k
stays n c c' k le = rw (le-leb k n le) refl

-- and one behind it
pub moves : (n c c' k : ℕ) → n < k → place_after_edit n c c' k ≡ c' + (k - c)
moves n c c' k le = rw (lt-leb k n le) refl

module _ (n c c' : ℕ) (some : n < c) where
  abbrev mv : List Hole → List Hole
  mv hs = map (moved_hole (place_after_edit n c c')) hs

  abbrev one : ℕ → Hole
  one close = record { start = suc n; end = close }

  hole_stays : (h : Hole) → 0 < h.start → h.start ≤ suc n → h.end ≤ n → moved_hole (place_after_edit n c c') h ≡ h
  hole_stays h some from to =
      let starts : suc (place_after_edit n c c' (h.start - 1)) ≡ h.start = omega (arith, stays n c c' (h.start - 1) (omega (arith, from)), some) in
      let ends = stays n c c' h.end to in
      λ i. record { start = starts i; end = ends i }

  pub one_moves : moved_hole (place_after_edit n c c') (one c) ≡ one c'
  one_moves =
      let starts : suc (place_after_edit n c c' (suc n - 1)) ≡ suc n = omega (arith, stays n c c' (suc n - 1) (omega arith)) in
      let ends : place_after_edit n c c' c ≡ c' = moves n c c' c some ∙ omega arith in
      λ i. record { start = starts i; end = ends i }

  abbrev rest_of : Hole → Hole
  rest_of h = record { start = h.start - c; end = h.end - c }

  -- holes from the `}` on are those of the rest of the text, moved
  on_again : (low high : ℕ) (hs : List Hole) → suc c ≤ low → AreRising low high hs → hs ≡ map (moved_on c) (map rest_of hs)
  on_again low high [] le r = refl
  on_again low high (h ∷ hs) le r =
      let starts : h.start ≡ h.start - c + c = omega (arith, r.0, le) in
      let ends : h.end ≡ h.end - c + c = omega (arith, r.0, r.1, le) in
      ap (λ k. k ∷ hs) (λ i. record { start = starts i; end = ends i }) ∙ ap (λ l. moved_on c (rest_of h) ∷ l) (on_again (suc h.end) high hs (omega (arith, r.0, r.1, le)) r.2)

  -- ---- holes of one item

  pub all_stay : (low : ℕ) (hs : List Hole) → AreRising low n hs → mv hs ≡ hs
  all_stay low [] r = refl
  all_stay low (h ∷ hs) r =
      let end : suc h.end ≤ n = rising_le (suc h.end) n hs r.2 in
      ap (λ k. k ∷ mv hs) (hole_stays h (omega (arith, r.0)) (omega (arith, r.1, end)) (omega (arith, end))) ∙ ap (λ l. h ∷ l) (all_stay (suc h.end) hs r.2)

  pub all_move : (low high : ℕ) (hs : List Hole) → suc c ≤ low → AreRising low high (map (moved_on c) hs) → mv (map (moved_on c) hs) ≡ map (moved_on c') hs
  all_move low high [] le r = refl
  all_move low high (h ∷ hs) le r =
      let first = moves n c c' (h.start + c - 1) (omega (arith, r.0, le, some)) in
      let last = moves n c c' (h.end + c) (omega (arith, r.0, r.1, le, some)) in
      let starts : suc (place_after_edit n c c' (h.start + c - 1)) ≡ h.start + c' = omega (arith, first, r.0, le) in
      let ends : place_after_edit n c c' (h.end + c) ≡ h.end + c' = omega (arith, last) in
      ap (λ k. k ∷ mv (map (moved_on c) hs)) (λ i. record { start = starts i; end = ends i })
      ∙ ap (λ l. moved_on c' h ∷ l) (all_move (suc (h.end + c)) high hs (omega (arith, r.0, r.1, le)) r.2)

  -- ---- holes of which one is that between the braces

  pub holes_move : (low high : ℕ) (hs : List Hole) → AreRising low high hs → Contains hs (one c) → HolesBeside n c c' hs (mv hs) × (low ≤ n)
  holes_move low high [] r (k, l, e) = absurd (omega (arith, l))
  holes_move low high (h ∷ hs) r (zero, l, e) =
      let ends : h.end ≡ c = ap (λ (h : Hole). h.end) e in
      let low_end : suc c ≤ suc h.end = omega (arith, ends) in
      let again = on_again (suc h.end) high hs low_end r.2 in (
        record {
          before = [];
          behind = map rest_of hs;
          end = tt;
          old = ap (λ k. k ∷ hs) e ∙ ap (λ l. one c ∷ l) again;
          new = ap (λ k. moved_hole (place_after_edit n c c') k ∷ mv hs) e ∙ ap (λ k. k ∷ mv hs) one_moves
              ∙ ap (λ l. one c' ∷ l) (ap mv again ∙ all_move (suc h.end) high (map rest_of hs) low_end (subst (AreRising (suc h.end) high) again r.2));
        },
        (let starts : h.start ≡ suc n = ap (λ (h : Hole). h.start) e in omega (arith, starts, r.0)),
      )
  holes_move low high (h ∷ hs) r (suc k, l, e) =
      let more = holes_move (suc h.end) high hs r.2 (k, omega (arith, l), e) in
      let low_end : suc h.end ≤ n = more.1 in
      let here = hole_stays h (omega (arith, r.0)) (omega (arith, r.1, low_end)) (omega (arith, low_end)) in (
        record {
          before = h ∷ more.0.before;
          behind = more.0.behind;
          end = (omega (arith, low_end), more.0.end);
          old = ap (λ l. h ∷ l) more.0.old;
          new = ap (λ k. k ∷ mv hs) here ∙ ap (λ l. h ∷ l) more.0.new;
        },
        omega (arith, r.0, r.1, low_end),
      )
