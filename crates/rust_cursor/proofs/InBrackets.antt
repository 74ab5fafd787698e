-- Rules that take no bracket, but for what stands in angle brackets: they stay in the brackets that they stand in.
use Rattle.std.proofs.Common.{◌≡◌, ℕ, zero, suc, ◌==◌, nat_le, not, Bool, true, false, Option, Some, None, refl, ◌∙◌, if◌then◌else◌, bytes_eq}
use Rattle.rust_cursor.proofs.Common.{Tokens, symbol, word, bumped, eat, eat_word}
use Rattle.rust_cursor.specs.Grammar.{taken_with, Region, Grammar, gives, and_then, shows, takes_identifier, on_seen, eats, eats_word, eats_pair, passes_angles, reads}
use Rattle.rust_cursor.specs.Looks.{clear_of, sees, skip}
use Rattle.rust_cursor.proofs.ClosingBrace.{around, is_plain, plain_of, plain_upto, plain_around, other_around}
use Rattle.rust_cursor.proofs.WithinBrackets.{Within, same_within, Remains, word_symbol, eat_pair_around, behind_angles_within}
use Rattle.rust_cursor.proofs.SoundTokens.{sound_on}
use Rattle.rust_cursor.proofs.TokenRests.{here, through}
use Rattle.rust_cursor.proofs.Looks.{AreClear, first_clear}
use Rattle.rust_cursor.proofs.Rules.{rule_leads, skip_leads, identifier_symbol}

abbrev pub is_bracket : ℕ → Bool
is_bracket s = not (is_plain s)

plain_if : (t : Bool) → not t ≡ false → t ≡ true
plain_if true e = refl
plain_if false e = absurd cc

skip_around : (c n : ℕ) (ts : Tokens) → AreClear is_bracket n ts → around c (skip n ts) ≡ around c ts
skip_around c zero ts w = refl
skip_around c (suc n) ts w = skip_around c n (bumped ts) w.1 ∙ plain_upto c ts (plain_of (symbol ts) (plain_if (is_plain (symbol ts)) w.0))

-- it takes no bracket, but for what stands in angle brackets
abbrev pub Stays : {s : Region} {A : Type 0} → Grammar s A → Type 0
Stays (gives a) = Unit {0}
Stays (and_then m f) = Stays m × ((a : _) → Stays (f a))
Stays (shows view) = Unit {0}
Stays (takes_identifier view) = Unit {0}
Stays (on_seen l n p g h) = (nat_le n (clear_of is_bracket l) ≡ true) × Stays g × Stays h
Stays (eats c p) = is_plain c ≡ true
Stays (eats_word w p) = Unit {0}
Stays (eats_pair c d p q) = (is_plain c ≡ true) × (is_plain d ≡ true)
Stays passes_angles = Unit {0}
Stays _ = ⊥

by_test : {A : Type 0} (c : ℕ) (t : Bool) (ts : Tokens) (p q : A × Tokens) → (t ≡ true → Within c p.1 ts) → Within c q.1 ts → Within c (if t then p else q).1 ts
by_test c true ts p q so otherwise = so refl
by_test c false ts p q so otherwise = otherwise

taken_within : {A : Type 0} (c : ℕ) (o : Option A) (ts : Tokens) → ((a : A) → o ≡ Some a → symbol ts ≡ 0) → Within c (taken_with o ts).1 ts
taken_within c None ts h = here
taken_within c (Some a) ts h = same_within c (bumped ts) ts (plain_around c ts (h a refl))

bumped_if : (c : ℕ) (t : Bool) (ts : Tokens) → (t ≡ true → around c (bumped ts) ≡ around c ts) → Within c (if t then bumped ts else ts) ts
bumped_if c true ts h = same_within c (bumped ts) ts (h refl)
bumped_if c false ts h = here

pub rule_within : {s : Region} {A : Type 0} (end c : ℕ) (g : Grammar s A) → Stays g → Remains end c (reads g)
unfolding eat eat_word
rule_within end c (gives a) s ts h = here
rule_within end c (and_then m f) s ts h = through (rule_within end c (f (reads m ts).0) (s.1 (reads m ts).0) (reads m ts).1 (sound_on end (rule_leads m ts) h)) (rule_within end c m s.0 ts h)
rule_within end c (shows view) s ts h = here
rule_within end c (takes_identifier view) s ts h = taken_within c _ ts (λ a e. identifier_symbol view a ts e)
rule_within end c (on_seen l n p g k) s ts h =
    by_test c (sees l ts) ts (reads g (skip n ts)) (reads k ts)
    (λ e. through (rule_within end c g s.1 (skip n ts) (sound_on end (skip_leads n ts) h)) (same_within c (skip n ts) ts (skip_around c n ts (first_clear is_bracket refl l n ts s.0 e))))
    (rule_within end c k s.2 ts h)
rule_within end c (eats d p) s ts h = bumped_if c (symbol ts == d) ts (λ e. other_around c d ts s e)
rule_within end c (eats_word w p) s ts h = bumped_if c (bytes_eq (word ts) w) ts (λ e. plain_around c ts (word_symbol w ts p e))
rule_within end c (eats_pair d e p q) s ts h = same_within c _ ts (eat_pair_around c d e ts s.0 s.1)
rule_within end c passes_angles s ts h = behind_angles_within end c ts h
rule_within end c _ s ts h = absurd s
