-- Inner documentation behind an outer attribute.
use Rattle.std.proofs.Common.{◌≡◌, ◌<◌, ◌+◌, ◌-◌, ℕ, zero, suc, true, false, refl, arith}
use Rattle.rust_metas.proofs.Common.{Inner, Tokens, bumped, past_from, sees, is_doc}

pub docs_stop : (n : ℕ) (ts : Tokens) → sees (is_doc Inner) ts ≡ false → past_from (sees (is_doc Inner)) n ts ≡ ts
docs_stop zero ts e = refl
docs_stop (suc n) ts e = rw e refl

pub docs_more : (bound at : ℕ) (ts : Tokens) → at < bound → sees (is_doc Inner) ts ≡ true → past_from (sees (is_doc Inner)) (bound - at) ts ≡ past_from (sees (is_doc Inner)) (bound - (at + 1)) (bumped ts)
docs_more bound at ts below e = let turn : bound - at ≡ suc (bound - (at + 1)) = omega arith in rw (turn, e) refl
