-- A mask that is made lane by lane is held against a test at each of the 256 bytes, by computing.
use Rattle.std.proofs.Common.{◌≡◌, ℕ, ◌%◌, ◌^◌, ◌<◌, ◌≤◌, ◌==◌, Bool, true, false, cond, eqb, List, [], ◌∷◌, map, length, get_or, replicate, refl, ap, ap₂, sym, subst, ◌∙◌, arith, w8, Fits}
use Rattle.std.proofs.lemmas.Bool.{agree_below, agree_below_at}
use Rattle.std.proofs.lemmas.List.{get_or-map, length-map}
use Rattle.std.proofs.lemmas.Simd.{zip2_splat, zip2_splat_left, map-map, Each1-get_or, mask_l-lt, mask_l-mod, bit_mask_l}
use Rattle.std.specs.Int.{bit_at}
use lib.Dec.{leb}
use lib.Lanes.{zip2, mask_l, top, Each1}

-- all bits of a lane where two are the same, or the first is no greater
abbrev pub hit : ℕ → ℕ → ℕ
hit a b = cond (eqb a b) 255 0

abbrev pub no_more : ℕ → ℕ → ℕ
no_more a b = cond (leb a b) 255 0

zip2-map : (op : ℕ → ℕ → ℕ) (f g : ℕ → ℕ) (xs : List ℕ) → zip2 op (map f xs) (map g xs) ≡ map (λ x. op (f x) (g x)) xs
zip2-map op f g [] = refl
zip2-map op f g (x ∷ xs) = ap (λ r. op (f x) (g x) ∷ r) (zip2-map op f g xs)

-- lanes that are joined one by one
pub joined : (op : ℕ → ℕ → ℕ) (f g : ℕ → ℕ) (v : List ℕ) {a b : List ℕ} → a ≡ map f v → b ≡ map g v → zip2 op a b ≡ map (λ x. op (f x) (g x)) v
joined op f g v p q = ap₂ (zip2 op) p q ∙ zip2-map op f g v

-- and each with the same
pub with_splat : (op : ℕ → ℕ → ℕ) (f : ℕ → ℕ) (y n : ℕ) (v : List ℕ) {a : List ℕ} → length v ≡ n → a ≡ map f v → zip2 op a (replicate n y) ≡ map (λ x. op (f x) y) v
with_splat op f y n v long p = ap (λ a. zip2 op a (replicate n y)) p ∙ zip2_splat op (map f v) n y (length-map v f ∙ long) ∙ map-map (λ x. op x y) f v

pub splat_with : (op : ℕ → ℕ → ℕ) (f : ℕ → ℕ) (y n : ℕ) (v : List ℕ) {a : List ℕ} → length v ≡ n → a ≡ map f v → zip2 op (replicate n y) a ≡ map (λ x. op y (f x)) v
splat_with op f y n v long p = ap (zip2 op (replicate n y)) p ∙ zip2_splat_left op y n (map f v) (length-map v f ∙ long) ∙ map-map (op y) f v

bit_test : (b : Bool) → (cond b 1 0 == 1) ≡ b
bit_test true = refl
bit_test false = refl

module _ (n : ℕ) (f : ℕ → ℕ) (p : ℕ → Bool) (v z : List ℕ) (fits : (length v ≡ n) × Each1 (Fits w8) v) (few : n ≤ 64) (e : z ≡ map f v) where
  mask : mask_l (map (top 7) z) % 2 ^ 64 ≡ mask_l (map (λ x. top 7 (f x)) v)
  mask = ap (λ l. mask_l l % 2 ^ 64) (ap (map (top 7)) e ∙ map-map (top 7) f v) ∙ mask_l-mod (map (λ x. top 7 (f x)) v) 64 (omega (arith, length-map v (λ x. top 7 (f x)), fits.0, few))

  pub told : agree_below (λ x. top 7 (f x)) p 256 ≡ true → (k : ℕ) → k < n → (bit_at (mask_l (map (top 7) z) % 2 ^ 64) k == 1) ≡ p (get_or v k 0)
  told all k h =
      let within : k < length v = omega (arith, fits.0) in
      let tests = λ (x : ℕ). top 7 (f x) in
      ap (λ m. bit_at m k == 1) mask ∙ ap (λ n. n == 1) (bit_mask_l (map tests v) k) ∙ bit_test _ ∙ get_or-map tests v k 0 false within
      ∙ agree_below_at tests p 256 (get_or v k 0) all (Each1-get_or (Fits w8) v k 0 within fits.1).fits

  pub few_bits : mask_l (map (top 7) z) % 2 ^ 64 < 2 ^ n
  few_bits =
      let tests = λ (x : ℕ). top 7 (f x) in
      subst (λ m. m < 2 ^ n) (sym mask) (subst (λ k. mask_l (map tests v) < 2 ^ k) (length-map v tests ∙ fits.0) (mask_l-lt (map tests v)))
