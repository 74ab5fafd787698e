-- Lines of bytes, one after another.
use Rattle.std.proofs.Common.{◌≡◌, ◌≢◌, ◌<◌, ℕ, List, [], ◌∷◌, ◌++◌, cond, length, refl, ap, ◌∙◌, eq-eqb, ne_eqb, arith}
use Rattle.message_stream.proofs.Common.{All-head, All-tail, begin, lines, HasNoFeed}

-- a byte that is no line feed stands before the first line
lines_begin : (x : ℕ) (xs : List ℕ) → x ≢ 10 → lines (x ∷ xs) ≡ begin x (lines xs)
lines_begin x xs h = ap (λ b. cond b ([] ∷ lines xs) (begin x (lines xs))) (ne_eqb x 10 h)

lines_feed : (xs : List ℕ) → lines (10 ∷ xs) ≡ [] ∷ lines xs
lines_feed xs = ap (λ b. cond b ([] ∷ lines xs) (begin 10 (lines xs))) (eq-eqb 10 10 refl)

-- a line that has its line feed, before more bytes
pub lines_fed : (line more : List ℕ) → HasNoFeed line → lines (line ++ 10 ∷ more) ≡ line ∷ lines more
lines_fed [] more h = lines_feed more
lines_fed (x ∷ xs) more h =
    lines_begin x (xs ++ 10 ∷ more) (All-head (λ y. y ≢ 10) x xs h)
    ∙ ap (begin x) (lines_fed xs more (All-tail (λ y. y ≢ 10) x xs h))

-- a line that has none
pub lines_last : (line : List ℕ) → HasNoFeed line → 0 < length line → lines line ≡ line ∷ []
lines_last [] h some = absurd (omega (arith, some))
lines_last (x ∷ []) h some = lines_begin x [] (All-head (λ y. y ≢ 10) x [] h)
lines_last (x ∷ y ∷ ys) h some =
    lines_begin x (y ∷ ys) (All-head (λ z. z ≢ 10) x (y ∷ ys) h)
    ∙ ap (begin x) (lines_last (y ∷ ys) (All-tail (λ z. z ≢ 10) x (y ∷ ys) h) (omega arith))
