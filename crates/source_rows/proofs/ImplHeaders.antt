-- Headers that are read step by step.
use Rattle.std.proofs.Common.{◌≡◌, ◌<◌, ◌+◌, ◌-◌, ℕ, zero, suc, true, false, refl, ap, sym, ◌∙◌, arith}
use Rattle.source_rows.proofs.Common.{Tokens, is_type_over, type_step, type_from}
use Rattle.source_rows.specs.declared.types.TypeRead.{TypeRead}

pub type_stop : (n : ℕ) (r : TypeRead) (ts : Tokens) → is_type_over ts ≡ true → type_from n r ts ≡ r
type_stop zero r ts e = refl
type_stop (suc n) r ts e = rw e refl

more : (n : ℕ) (r : TypeRead) (ts : Tokens) → is_type_over ts ≡ false → type_from (suc n) r ts ≡ type_from n (type_step r ts).0 (type_step r ts).1
more n r ts e = rw e refl

pub type_turn : (bound at : ℕ) (r s : TypeRead) (ts after : Tokens) (all : TypeRead) → at < bound → is_type_over ts ≡ false → type_step r ts ≡ (s, after) → type_from (bound - at) r ts ≡ all
    → type_from (bound - (at + 1)) s after ≡ all
type_turn bound at r s ts after all below e told before =
    let turn : bound - at ≡ suc (bound - (at + 1)) = omega arith in
    ap (λ p. type_from (bound - (at + 1)) p.0 p.1) (sym told) ∙ sym (more (bound - (at + 1)) r ts e) ∙ ap (λ n. type_from n r ts) (sym turn) ∙ before
