-- Readers that see tokens beside alike: they give the same, and leave tokens beside.
use Rattle.std.proofs.Common.{◌≡◌, ℕ, ◌==◌, ◌&&◌, Bool, true, false, List, [], refl, ap, bytes_eq}
use Rattle.rust_cursor.proofs.Common.{Tokens, Reader, symbol, word, bumped, taken_if, eat, eat_word, Bodies, Beside}
use Rattle.rust_cursor.proofs.TokenRests.{when}
use Rattle.rust_cursor.proofs.Views.{symbol_same, word_same, not_brace, other_symbol, brace_word}

-- what is read of the one and of the other
pub record Kept {A : Type 0} (b : Bodies) (p q : A × Tokens) : Type 0 where
  pub value : q.0 ≡ p.0
  pub rest : Beside b p.1 q.1

abbrev pub Local : {A : Type 0} → Bodies → Reader A → Type 0
Local b reader = (ts us : Tokens) → Beside b ts us → Kept b (reader ts) (reader us)

-- where a word comes next, no brace does
pub word_no_brace : (w : List ℕ) (ts : Tokens) → bytes_eq [] w ≡ false → bytes_eq (word ts) w ≡ true → (symbol ts == 123) ≡ false
word_no_brace w ts empty e =
    when (symbol ts == 123) (λ f. let none : bytes_eq (word ts) w ≡ false = rw (brace_word ts f) empty in absurd cc) (λ f. f)

pub after_word : (b : Bodies) (w : List ℕ) (ts us : Tokens) → bytes_eq [] w ≡ false → Beside b ts us → bytes_eq (word ts) w ≡ true → Beside b (bumped ts) (bumped us)
after_word b w ts us empty h e = not_brace b ts us h (word_no_brace w ts empty e)

pub after_symbol : (b : Bodies) (c : ℕ) (ts us : Tokens) → (c == 123) ≡ false → Beside b ts us → (symbol ts == c) ≡ true → Beside b (bumped ts) (bumped us)
after_symbol b c ts us other h e = not_brace b ts us h (other_symbol c ts e other)

pub word_test : (b : Bodies) (w : List ℕ) (ts us : Tokens) → Beside b ts us → bytes_eq (word us) w ≡ bytes_eq (word ts) w
word_test b w ts us h = ap (λ z. bytes_eq z w) (word_same b ts us h)

pub symbol_test : (b : Bodies) (c : ℕ) (ts us : Tokens) → Beside b ts us → (symbol us == c) ≡ (symbol ts == c)
symbol_test b c ts us h = ap (λ s. s == c) (symbol_same b ts us h)

taken_kept : (b : Bodies) (t' t : Bool) (ts us : Tokens) → t' ≡ t → Beside b ts us → (t ≡ true → Beside b (bumped ts) (bumped us)) → Kept b (taken_if t ts) (taken_if t' us)
taken_kept b t' true ts us e h next = rw e (record { value = refl; rest = next refl })
taken_kept b t' false ts us e h next = rw e (record { value = refl; rest = h })

pub eat_local : (b : Bodies) (c : ℕ) → (c == 123) ≡ false → Local b (eat c)
unfolding eat
eat_local b c other ts us h = taken_kept b _ _ ts us (symbol_test b c ts us h) h (λ e. after_symbol b c ts us other h e)

pub eat_word_local : (b : Bodies) (w : List ℕ) → bytes_eq [] w ≡ false → Local b (eat_word w)
unfolding eat_word
eat_word_local b w empty ts us h = taken_kept b _ _ ts us (word_test b w ts us h) h (λ e. after_word b w ts us empty h e)

pub both_true : (s t : Bool) → (s && t) ≡ true → (s ≡ true) × (t ≡ true)
both_true true t e = (refl, e)
both_true false t e = absurd cc
