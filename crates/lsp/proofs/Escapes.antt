-- Escapes that are mended.
use Rattle.std.proofs.Common.{◌≡◌, ℕ, zero, suc, ◌+◌, ◌≤◌, Bool, true, false, ◌||◌, ◌&&◌, true≢false, cond, List, [], ◌∷◌, ◌++◌, codes, drop, length, nat_eq, slice_index, take, refl, append-nil, sym, ap, subst, ◌∙◌, arith}
use Rattle.lsp.specs.Surrogates as spec
use Rattle.std.specs.List.{list_any}
use borrow.Rule.Slice.PartMut.{put_mid}

-- a choice whose test is known
chosen : {A : Type 0} (c : Bool) (x y : A) → c ≡ true → cond c x y ≡ x
chosen c x y h = subst (λ t. cond t x y ≡ x) (sym h) refl

passed : {A : Type 0} (c : Bool) (x y : A) → c ≡ false → cond c x y ≡ y
passed c x y h = subst (λ t. cond t x y ≡ y) (sym h) refl

-- bytes with so many of them ready
taken : (k : ℕ) (bytes : List ℕ) → spec.mended_behind (take k bytes) bytes ≡ take k bytes ++ spec.surrogates_mended (drop k bytes)
taken zero bytes = refl
taken (suc k) [] = refl
taken (suc k) (b ∷ bytes) = ap (λ r. b ∷ r) (taken k bytes)

-- others ready in the place of the first
ready : (ready bytes : List ℕ) → length ready ≤ length bytes → spec.mended_behind ready bytes ≡ ready ++ spec.surrogates_mended (drop (length ready) bytes)
ready [] bytes h = refl
ready (r ∷ rs) [] h = absurd (omega (arith, h))
ready (r ∷ rs) (b ∷ bytes) h = ap (λ all. r ∷ all) (ready rs bytes (omega (arith, h)))

pub mended_pair : (bytes : List ℕ) → spec.is_surrogate_pair bytes ≡ true → spec.mended_behind (spec.unicode_escape bytes) bytes ≡ take 11 bytes ++ spec.surrogates_mended (drop 11 bytes)
mended_pair bytes pair = ap (λ r. spec.mended_behind r bytes) (chosen (spec.is_surrogate_pair bytes) _ _ pair) ∙ taken 11 bytes

pub mended_other : (bytes : List ℕ) → spec.is_surrogate_pair bytes ≡ false → spec.is_surrogate_half bytes ≡ false → spec.mended_behind (spec.unicode_escape bytes) bytes ≡ take 1 bytes ++ spec.surrogates_mended (drop 1 bytes)
mended_other bytes pair half = ap (λ r. spec.mended_behind r bytes) (passed (spec.is_surrogate_pair bytes) _ _ pair ∙ passed (spec.is_surrogate_half bytes) _ _ half) ∙ taken 1 bytes

pub mended_half : (bytes new : List ℕ) → spec.is_surrogate_pair bytes ≡ false → spec.is_surrogate_half bytes ≡ true → 5 ≤ length bytes → take 5 new ≡ codes "ufffd" → drop 5 new ≡ drop 5 bytes → spec.mended_behind (spec.unicode_escape bytes) bytes ≡ take 5 new ++ spec.surrogates_mended (drop 5 new)
mended_half bytes new pair half long written rest =
    ap (λ r. spec.mended_behind r bytes) (passed (spec.is_surrogate_pair bytes) _ _ pair ∙ chosen (spec.is_surrogate_half bytes) _ _ half)
    ∙ ready (codes "ufffd") bytes long
    ∙ sym (ap (λ w. w ++ spec.surrogates_mended (drop 5 new)) written ∙ ap (λ r. codes "ufffd" ++ spec.surrogates_mended r) rest)

and_second : (x y : Bool) → (x && y) ≡ true → y ≡ true
and_second true y h = h
and_second false y h = absurd (true≢false (sym h))

by_either : {P : Type 0} (x y : Bool) → (x || y) ≡ true → (x ≡ true → P) → (y ≡ true → P) → P
by_either true y h left right = left refl
by_either false y h left right = right h

-- bytes that begin so are so many
begin_within : (sets : List (List ℕ)) (bytes : List ℕ) → spec.begin_with sets bytes ≡ true → length sets ≤ length bytes
begin_within [] bytes h = omega arith
begin_within (set ∷ sets) [] h = absurd (true≢false (sym h))
begin_within (set ∷ sets) (b ∷ bytes) h = let more : length sets ≤ length bytes = begin_within sets bytes (and_second (list_any (λ c. nat_eq c b) set) (spec.begin_with sets bytes) h) in omega (arith, more)

pub half_within : (bytes : List ℕ) → spec.is_surrogate_half bytes ≡ true → 5 ≤ length bytes
half_within bytes h = by_either (spec.begin_with spec.first_half bytes) (spec.begin_with spec.second_half bytes) h (begin_within spec.first_half bytes) (begin_within spec.second_half bytes)

nothing_behind : (k : ℕ) (bytes : List ℕ) → length bytes ≤ k → drop k bytes ≡ []
nothing_behind zero [] h = refl
nothing_behind zero (b ∷ bytes) h = absurd (omega (arith, h))
nothing_behind (suc k) [] h = refl
nothing_behind (suc k) (b ∷ bytes) h = nothing_behind k bytes (omega (arith, h))

-- bytes that are mended from a place on
pub mended_part : (a k n m : ℕ) (bytes new : List ℕ) → m ≡ a + n → a ≤ length bytes → length bytes ≤ a + k → take m (put_mid a k bytes new) ++ spec.surrogates_mended (drop m (put_mid a k bytes new)) ≡ take a bytes ++ (take n new ++ spec.surrogates_mended (drop n new))
mended_part zero k n m bytes new is h few =
    ap (λ all. take m all ++ spec.surrogates_mended (drop m all)) (ap (λ r. new ++ r) (nothing_behind k bytes (omega (arith, few))) ∙ append-nil new)
    ∙ ap (λ j. take j new ++ spec.surrogates_mended (drop j new)) (omega (arith, is))
mended_part (suc a) k n m [] new is h few = absurd (omega (arith, h))
mended_part (suc a) k n zero (b ∷ bytes) new is h few = absurd (omega (arith, is))
mended_part (suc a) k n (suc m) (b ∷ bytes) new is h few = ap (λ all. b ∷ all) (mended_part a k n m bytes new (omega (arith, is)) (omega (arith, h)) (omega (arith, few)))

pub mended_first : (bytes : List ℕ) → slice_index bytes 0 ≡ 92 → 1 ≤ length bytes → spec.surrogates_mended bytes ≡ take 1 bytes ++ spec.mended_behind (spec.unicode_escape (drop 1 bytes)) (drop 1 bytes)
mended_first [] is h = absurd (omega (arith, h))
mended_first (b ∷ bytes) is h = subst (λ c. spec.surrogates_mended (c ∷ bytes) ≡ c ∷ spec.mended_behind (spec.unicode_escape bytes) bytes) (sym is) refl
