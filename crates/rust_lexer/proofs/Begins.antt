-- Where the tokens of a text begin.
use Rattle.std.proofs.Common.{◌≡◌, ◌≤◌, ◌<◌, ℕ, zero, suc, ◌+◌, ◌-◌, Bool, IsTrue, nat_eq, List, [], ◌∷◌, ◌++◌, length, take, drop, get_or, refl, sym, ap, ◌∙◌, subst, arith, append_assoc, take-append-drop, drop-drop, drop-cons, take-add, take-take, true}
use Rattle.std.specs.Cmp.Lexicographic.{pointwise, pointwise_decides}
use Rattle.std.proofs.lemmas.Bool.Decides.{Decides-eqb}
use Rattle.rust_lexer.proofs.Common.{first_cut, whole_length, overhang, take_rest}
use Rattle.rust_lexer.specs.Inner.{IsTokenBoundary, IsCommon, is_brace_byte}

over_append : (left : ℕ) (x y w : List ℕ) → overhang left (x ++ y) w ≡ overhang (overhang left x (y ++ w)) y w
over_append left [] y w = refl
over_append (suc left) (b ∷ x) y w = over_append left x y w
over_append zero (b ∷ x) y w =
    ap (λ l. overhang (whole_length (first_cut b l) l) (x ++ y) w) (append_assoc x y w)
    ∙ over_append (whole_length (first_cut b (x ++ (y ++ w))) (x ++ (y ++ w))) x y w

over_taken : (n : ℕ) (z w : List ℕ) → n ≤ length z → overhang n (take n z) w ≡ 0
over_taken zero z w le = refl
over_taken (suc n) [] w le = absurd (omega arith)
over_taken (suc n) (b ∷ z) w le = over_taken n z w (omega arith)

-- so many bytes behind one
pub begins_behind : (z : List ℕ) (k n : ℕ) → IsTokenBoundary z k → IsTokenBoundary (drop k z) n → IsTokenBoundary z (k + n)
begins_behind z k n here behind =
    let y = drop k z in
    ap (λ l. overhang 0 l (drop (k + n) z)) (take-add k n z)
    ∙ ap (overhang 0 (take k z ++ take n y)) (sym (drop-drop n k z))
    ∙ over_append 0 (take k z) (take n y) (drop n y)
    ∙ ap (λ l. overhang (overhang 0 (take k z) l) (take n y) (drop n y)) (take-append-drop n y)
    ∙ ap (λ i. overhang i (take n y) (drop n y)) here
    ∙ behind

-- behind a token
pub begins_next : (z y : List ℕ) (k n : ℕ) → k < length z → y ≡ take (length z - (k + 1)) (drop (k + 1) z) → n ≡ whole_length (first_cut (get_or z k 0) y) y → n ≤ length y → IsTokenBoundary z k → IsTokenBoundary z (k + (1 + n))
begins_next z y k n some same is le here =
    let b = get_or z k 0 in
    let behind : suc k ≡ k + 1 = omega arith in
    let first : drop k z ≡ b ∷ y = drop-cons z k 0 some ∙ ap (λ i. b ∷ drop i z) behind ∙ ap (λ l. b ∷ l) (sym (same ∙ take_rest z (k + 1))) in
    let more : 1 + n ≡ suc n = omega arith in
    begins_behind z k (1 + n) here (ap (λ l. overhang 0 (take (1 + n) l) (drop (1 + n) l)) first
    ∙ ap (λ i. overhang 0 (take i (b ∷ y)) (drop i (b ∷ y))) more
    ∙ ap (λ l. overhang (whole_length (first_cut b l) l) (take n y) (drop n y)) (take-append-drop n y)
    ∙ ap (λ i. overhang i (take n y) (drop n y)) (sym is)
    ∙ over_taken n y (drop n y) le)

-- two texts that have the same bytes up to a place and from it on
pub same_further : (from to : ℕ) (z w : List ℕ) (r : Bool) → from ≤ to → r ≡ pointwise nat_eq (take (to - from) (drop from z)) (take (to - from) (drop from w)) → IsTrue r → take from w ≡ take from z → take to w ≡ take to z
same_further from to z w r le is t e =
    let parts : from + (to - from) ≡ to = omega (arith, le) in
    let same = pointwise_decides Decides-eqb (take (to - from) (drop from z)) (take (to - from) (drop from w)) in
    ap (λ n. take n w) (sym parts) ∙ take-add from (to - from) w
    ∙ ap (λ l. l ++ take (to - from) (drop from w)) e
    ∙ ap (λ l. take from z ++ l) (sym (same.0 (subst IsTrue is t)))
    ∙ sym (take-add from (to - from) z) ∙ ap (λ n. take n z) parts

-- ---- what two texts begin with

-- the last brace that was found before a place, if any was
pub record IsFound (z w : List ℕ) (most count k : ℕ) : Type 0 where
  pub common : 0 < k → IsCommon z w k
  pub same : take k w ≡ take k z
  pub order : k ≤ count
  pub within : k ≤ most

pub found_here : (z w : List ℕ) (most count : ℕ) → count < length z → count ≤ most → IsTokenBoundary z count → is_brace_byte (get_or z count 0) ≡ true → take (count + 1) w ≡ take (count + 1) z → IsFound z w most count count
found_here z w most count some le begins brace same = record {
  common = λ _. record { within = some; begins = begins; brace = brace; same = same };
  same = sym (take-take count (count + 1) w (omega arith)) ∙ ap (take count) same ∙ take-take count (count + 1) z (omega arith);
  order = omega arith;
  within = le;
}
