-- A text's blocks of sixteen bytes.
use Rattle.std.proofs.Common.{◌≡◌, ℕ, suc, ◌-◌, ◌<◌, ◌≤◌, ◌/◌, List, length, drop, arith, ap, ◌∙◌, length-drop}
use Rattle.rust_ids.specs.declared.hash.Pair.{Pair}
use Rattle.rust_ids.proofs.Common.{absorb, absorb_all, absorb_text}

-- one block fewer is left behind sixteen bytes
count-more : (n : ℕ) → 16 < n → (n - 1) / 16 ≡ suc ((n - 16 - 1) / 16)
count-more n h = omega arith

-- and none where there are at most sixteen bytes
count-few : (n : ℕ) → n ≤ 16 → (n - 1) / 16 ≡ 0
count-few n h = omega arith

pub absorbed_more : (p : Pair) (text : List ℕ) → 16 < length text → absorb_text p text ≡ absorb_text (absorb p text) (drop 16 text)
unfolding absorb_text
absorbed_more p text h =
    let e : (length text - 1) / 16 ≡ suc ((length (drop 16 text) - 1) / 16) = count-more (length text) h ∙ ap (λ n. suc ((n - 1) / 16)) (simp length-drop) in
    ap (λ n. absorb_all n p text) e

pub absorbed_few : (p : Pair) (text : List ℕ) → length text ≤ 16 → absorb_text p text ≡ p
unfolding absorb_text
absorbed_few p text h = ap (λ n. absorb_all n p text) (count-few (length text) h)
