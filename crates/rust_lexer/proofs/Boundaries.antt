-- A token ends where a character does.
use Rattle.std.proofs.Common.{◌≡◌, ℕ, suc, ◌+◌, ◌<◌, ◌≤◌, false, List, [], ◌∷◌, length, get_or, take, drop, Some, ap, ◌∙◌, add-one, arith, refl, subst, sym}
use Rattle.rust_lexer.proofs.Common.{cond_both, get_or-drop, nat_tests, Cut, is_continuation, run_length, split_of, whole_length}
use Rattle.rust_lexer.specs.declared.bytes.Class.TheVariants as class

-- a byte does not continue a character
abbrev pub IsLead : ℕ → Type 0
IsLead b = 128 ≤ b → 192 ≤ b

lead : (b : ℕ) → is_continuation b ≡ false → IsLead b
lead b e h = grind (arith, nat_tests)

-- behind a run of bytes that continue a character
run_leads : (z : List ℕ) → IsLead (get_or z (run_length class.Continuation z) 0)
run_leads [] h = absurd (omega arith)
run_leads (b ∷ z) h =
    cond_both (is_continuation b) (suc (run_length class.Continuation z)) 0 (λ n. IsLead (get_or (b ∷ z) n 0)) (λ _. run_leads z) (λ e. lead b e) h

-- the same in a text of which the run begins at a place
pub run_leads_behind : (text : List ℕ) (n k : ℕ) → k ≡ run_length class.Continuation (drop n text) → 128 ≤ get_or text (n + k) 0 → 192 ≤ get_or text (n + k) 0
run_leads_behind text n k e = rw (← get_or-drop n text k 0, e) (run_leads (drop n text))

-- the same where no byte of the run stands there
pub whole_leads : (text : List ℕ) (n : ℕ) → run_length class.Continuation (drop n text) ≡ 0 → 128 ≤ get_or text n 0 → 192 ≤ get_or text n 0
whole_leads text n e =
    let at : n + 0 ≡ n = omega arith in
    subst (λ (k : ℕ). 128 ≤ get_or text k 0 → 192 ≤ get_or text k 0) at (run_leads_behind text n 0 (sym e))

-- what is split off a text
pub split_is : (c : Cut) (at n : ℕ) (text front rest : List ℕ) → c.len < length text → n ≡ c.len + 1 + run_length class.Continuation (drop (c.len + 1) text) → front ≡ take n text → rest ≡ drop n text → split_of c at text ≡ Some (record { kind = c.kind; text = front; at = at }, rest)
split_is c at n [] front rest some e f r = absurd (omega arith)
split_is c at n (b ∷ z) front rest some e f r =
    let w = whole_length c z in
    let n_is : n ≡ suc w = e ∙ (let a : c.len + 1 + run_length class.Continuation (drop (c.len + 1) (b ∷ z)) ≡ suc w = rw add-one (omega arith) in a) in
    let front_is : front ≡ b ∷ take w z = f ∙ ap (λ i. take i (b ∷ z)) n_is in
    let rest_is : rest ≡ drop w z = r ∙ ap (λ i. drop i (b ∷ z)) n_is in
    rw (front_is, rest_is) refl
