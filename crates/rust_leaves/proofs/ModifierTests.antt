-- Where no modifier comes next.
use Rattle.std.proofs.Common.{◌≡◌, ℕ, true, false, List, refl, sym, ap, ◌∙◌, codes, bytes_eq}
use Rattle.rust_cursor.proofs.Common.{false_from_ne_true, bytes_eq-Decides}
use Rattle.rust_leaves.specs.Inner.{may_modify}
use Rattle.rust_leaves.proofs.Common.{Tokens, word, modifier, weak_modifier}
use Rattle.rust_cursor.specs.Looks.{sees}

-- a word with none of the lengths and first bytes is none of the words
other_word : (w k : List ℕ) → may_modify w ≡ false → may_modify k ≡ true → bytes_eq w k ≡ false
other_word w k e h =
    false_from_ne_true (bytes_eq w k) (λ is. let both : false ≡ true = sym e ∙ ap may_modify ((bytes_eq-Decides w k).0 is) ∙ h in absurd cc)

no_weak : (ts : Tokens) → may_modify (word ts) ≡ false → sees weak_modifier ts ≡ false
unfolding weak_modifier
no_weak ts e =
    let none : (k : List ℕ) → may_modify k ≡ true → bytes_eq (word ts) k ≡ false = λ k h. other_word (word ts) k e h in
    rw (none (codes "async") refl, none (codes "gen") refl, none (codes "auto") refl) refl

pub no_modifier : (ts : Tokens) → may_modify (word ts) ≡ false → false ≡ sees modifier ts
unfolding modifier
no_modifier ts e =
    let none : (k : List ℕ) → may_modify k ≡ true → bytes_eq (word ts) k ≡ false = λ k h. other_word (word ts) k e h in
    sym (rw (none (codes "const") refl, none (codes "unsafe") refl, none (codes "safe") refl, none (codes "default") refl)
    (rw (none (codes "final") refl, none (codes "extern") refl, none (codes "type") refl, none (codes "reuse") refl) (no_weak ts e)))
