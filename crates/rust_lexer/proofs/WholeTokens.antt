-- The most frequent tokens end where a character does.
use Rattle.std.proofs.Common.{◌≡◌, ◌<◌, ◌≤◌, ℕ, suc, true, false, List, [], ◌∷◌, ◌+◌, ◌-◌, length, take, drop, IsUtf8, refl, sym, ap, ◌∙◌, arith}
use Rattle.rust_lexer.proofs.Common.{take_rest, cond_both, nat_tests, Class, is_continuation, is_in_class, run_length, is_mark_byte}
use Rattle.std.proofs.lemmas.Str.{lead_after_ascii}
use Rattle.rust_lexer.specs.declared.bytes.Class.TheVariants as class

no_run : (b : ℕ) (z : List ℕ) → is_continuation b ≡ false → run_length class.Continuation (b ∷ z) ≡ 0
no_run b z e = rw e refl

-- a byte behind one of ASCII continues nothing
behind_ascii : (b : ℕ) (z : List ℕ) → IsUtf8 (b ∷ z) → b < 128 → run_length class.Continuation z ≡ 0
behind_ascii b [] utf8 e = refl
behind_ascii b (c ∷ z) utf8 e =
    let lead : 128 ≤ c → 192 ≤ c = lead_after_ascii (b ∷ c ∷ z) 0 utf8 e (omega arith) in
    no_run c z (grind (arith, nat_tests))

pub mark_whole : (b : ℕ) (z : List ℕ) → is_mark_byte b ≡ true → IsUtf8 (b ∷ z) → run_length class.Continuation (drop 0 z) ≡ 0
mark_whole b z e utf8 = behind_ascii b z utf8 (grind (arith, nat_tests))

-- a run that goes over such bytes ends at none
run_whole : (c : Class) → ((b : ℕ) (z : List ℕ) → is_in_class c b z ≡ false → is_continuation b ≡ false) → (z : List ℕ) → run_length class.Continuation (drop (run_length c z) z) ≡ 0
run_whole c over [] = refl
run_whole c over (b ∷ z) =
    cond_both (is_in_class c b z) (suc (run_length c z)) 0 (λ n. run_length class.Continuation (drop n (b ∷ z)) ≡ 0) (λ _. run_whole c over z) (λ e. no_run b z (over b z e))

white_over : (b : ℕ) (z : List ℕ) → is_in_class class.White b z ≡ false → is_continuation b ≡ false
white_over b z e = grind (arith, nat_tests)

word_over : (b : ℕ) (z : List ℕ) → is_in_class class.Word b z ≡ false → is_continuation b ≡ false
word_over b z e = grind (arith, nat_tests)

pub white_whole : (n : ℕ) (z : List ℕ) → n ≡ run_length class.White z → run_length class.Continuation (drop n z) ≡ 0
white_whole n z e = ap (λ k. run_length class.Continuation (drop k z)) e ∙ run_whole class.White white_over z

pub word_whole : (n : ℕ) (z : List ℕ) → n ≡ run_length class.Word z → run_length class.Continuation (drop n z) ≡ 0
word_whole n z e = ap (λ k. run_length class.Continuation (drop k z)) e ∙ run_whole class.Word word_over z

-- the same of a text that was looked at as its first byte and those behind
pub whole_behind : (text w : List ℕ) (n : ℕ) → w ≡ text → 1 ≤ length w → run_length class.Continuation (drop n (take (length w - 1) (drop 1 w))) ≡ 0 → run_length class.Continuation (drop (n + 1) text) ≡ 0
whole_behind [] w n same some e = absurd (omega (arith, ap length same))
whole_behind (b ∷ z) w n same some e =
    let rest : take (length w - 1) (drop 1 w) ≡ z = take_rest w 1 ∙ ap (drop 1) same in
    let more : n + 1 ≡ suc n = omega arith in
    ap (λ k. run_length class.Continuation (drop k (b ∷ z))) more ∙ ap (λ l. run_length class.Continuation (drop n l)) (sym rest) ∙ e
