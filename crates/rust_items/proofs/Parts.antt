-- Steps of what reads blocks.
use Rattle.std.proofs.Common.{◌≡◌, ◌<◌, ◌+◌, ◌-◌, ℕ, zero, suc, Bool, true, false, refl, sym, ap, ◌∙◌, arith}
use Rattle.rust_items.proofs.Common.{Tokens, progress_from, Found, is_list_end, PartView, BodyRead, and_part, part, parts_from}

pub parts_stop : (is_top : Bool) (n : ℕ) (done : BodyRead) (f : Found) (ts : Tokens) → is_list_end is_top ts ≡ true → parts_from is_top n done f ts ≡ (done, (f, ts))
parts_stop is_top zero done f ts e = refl
parts_stop is_top (suc n) done f ts e = rw e refl

-- one more turn
pub parts_more : (is_top : Bool) (bound at past : ℕ) (done done' : BodyRead) (p : PartView) (f f' : Found) (ts mid after : Tokens) (all : BodyRead × (Found × Tokens)) → at < bound → is_list_end is_top ts ≡ false
    → part is_top f ts ≡ (p, (f', mid)) → past ≡ ts.past → after ≡ progress_from past mid → done' ≡ and_part done p → parts_from is_top (bound - at) done f ts ≡ all → parts_from is_top (bound - (at + 1)) done' f' after ≡ all
parts_more is_top bound at past done done' p f f' ts mid after all below e told q a d before =
    let next : bound - at ≡ suc (bound - (at + 1)) = omega arith in
    let n = bound - (at + 1) in
    let step : parts_from is_top (bound - at) done f ts ≡ parts_from is_top n (and_part done (part is_top f ts).0) (part is_top f ts).1.0 (progress_from ts.past (part is_top f ts).1.1) = rw (next, e) refl in
    let here : parts_from is_top n (and_part done (part is_top f ts).0) (part is_top f ts).1.0 (progress_from ts.past (part is_top f ts).1.1) ≡ parts_from is_top n (and_part done p) f' (progress_from ts.past mid) =
    ap (λ r. parts_from is_top n (and_part done r.0) r.1.0 (progress_from ts.past r.1.1)) told in
    ap (λ l. parts_from is_top n l f' after) d
    ∙ ap (λ k. parts_from is_top n (and_part done p) f' k) (a ∙ ap (λ k. progress_from k mid) q)
    ∙ sym here ∙ sym step ∙ before
