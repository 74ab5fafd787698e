-- Turns of a reader.
use Rattle.std.proofs.Common.{◌≡◌, sym, ap, ◌∙◌, ◌-◌, ◌<◌, ◌+◌, ◌++◌, ◌∷◌, [], ℕ, zero, suc, Bool, true, false, Option, List, refl, arith, option_to_list}
use Rattle.rust_cursor.proofs.Common.{Tokens, Reader, turns_from, progress_from, one, perhaps}

-- one more turn
pub turns_more : {A : Type 0} (ends : Tokens → Bool) (reader : Reader (List A)) (bound at past : ℕ) (done done' : List A) (read : List A) (ts mid after : Tokens) (all : List A × Tokens) → at < bound → ends ts ≡ false
    → reader ts ≡ (read, mid) → past ≡ ts.past → after ≡ progress_from past mid → done' ≡ done ++ read → turns_from ends reader (bound - at) done ts ≡ all → turns_from ends reader (bound - (at + 1)) done' after ≡ all
turns_more {A} ends reader bound at past done done' read ts mid after all below e told p a d before =
    let turn : bound - at ≡ suc (bound - (at + 1)) = omega arith in
    let step : turns_from ends reader (bound - at) done ts ≡ turns_from ends reader (bound - (at + 1)) (done ++ (reader ts).0) (progress_from ts.past (reader ts).1) = rw (turn, e) refl in
    let same : (reader ts).0 ≡ read = ap (λ q. q.0) told in
    let rest : (reader ts).1 ≡ mid = ap (λ q. q.1) told in
    ap (λ l. turns_from ends reader (bound - (at + 1)) l after) (d ∙ ap (λ x. done ++ x) (sym same))
    ∙ ap (λ l. turns_from ends reader (bound - (at + 1)) (done ++ (reader ts).0) l) (a ∙ ap (λ k. progress_from k mid) p ∙ ap (progress_from ts.past) (sym rest)) ∙ sym step ∙ before

-- no more
pub turns_stop : {A : Type 0} (ends : Tokens → Bool) (reader : Reader (List A)) (n : ℕ) (done : List A) (ts : Tokens) → ends ts ≡ true → turns_from ends reader n done ts ≡ (done, ts)
turns_stop ends reader zero done ts e = refl
turns_stop ends reader (suc n) done ts e = rw e refl

-- one more turn of a reader of one element
pub turns_one : {A : Type 0} (ends : Tokens → Bool) (reader : Reader A) (bound at past : ℕ) (done done' : List A) (read : A) (ts mid after : Tokens) (all : List A × Tokens) → at < bound → ends ts ≡ false
    → reader ts ≡ (read, mid) → past ≡ ts.past → after ≡ progress_from past mid → done' ≡ done ++ read ∷ [] → turns_from ends (one reader) (bound - at) done ts ≡ all → turns_from ends (one reader) (bound - (at + 1)) done' after ≡ all
turns_one ends reader bound at past done done' read ts mid after all below e told p a d before =
    turns_more ends (one reader) bound at past done done' (read ∷ []) ts mid after all below e (ap (λ q. (q.0 ∷ [], q.1)) told) p a d before

-- one more turn of a reader of one element or none
pub turns_perhaps : {A : Type 0} (ends : Tokens → Bool) (reader : Reader (Option A)) (bound at past : ℕ) (done done' : List A) (read : Option A) (ts mid after : Tokens) (all : List A × Tokens) → at < bound → ends ts ≡ false
    → reader ts ≡ (read, mid) → past ≡ ts.past → after ≡ progress_from past mid → done' ≡ done ++ option_to_list read → turns_from ends (perhaps reader) (bound - at) done ts ≡ all → turns_from ends (perhaps reader) (bound - (at + 1)) done' after ≡ all
turns_perhaps ends reader bound at past done done' read ts mid after all below e told p a d before =
    turns_more ends (perhaps reader) bound at past done done' (option_to_list read) ts mid after all below e (ap (λ q. (option_to_list q.0, q.1)) told) p a d before
