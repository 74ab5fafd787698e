-- Readers of a text that ends with a `;` or a `}`, and of a longer one: they read alike, until the one of the longer text passes the end.
use Rattle.std.proofs.Common.{◌≡◌, ◌<◌, ◌+◌, ℕ, ◌==◌, ◌||◌, Bool, true, false, [], ◌∷◌, ◌++◌, Option, length, refl, ap, arith, map, not}
use Rattle.rust_cursor.proofs.Common.{EditionYear, moved_piece, Piece, symbol_of, Reader, Tokens, by_first, symbol, bumped, eat}
use Rattle.rust_cursor.proofs.TokenRests.{Forwards, when, symbol_some}
use Rattle.rust_cursor.proofs.EndingTokens.{Ending, Near, near, still_near, next_near, level_ended, Gone, gone_on, near_twins}
use Rattle.rust_cursor.proofs.Nesting.{shorter}
use Rattle.rust_cursor.proofs.EndingWalks.{near_parting}
use Rattle.rust_cursor.proofs.PartingReaders.{Same, gone, kept}
use Rattle.rust_cursor.proofs.PartingReaders as parting
use Rattle.rust_cursor.proofs.TwinTokens.{symbol_test}

abbrev pub Kept : {A : Type 0} → (A → A → Type 0) → Ending → A × Tokens → A × Tokens → Type 0
Kept alike b = parting.Kept alike (Near b)

abbrev pub UntilBy : {A : Type 0} → (A → A → Type 0) → Ending → A × Tokens → A × Tokens → Type 0
UntilBy alike b = parting.UntilBy alike (Near b) (Gone b)

abbrev pub UpTo : {A : Type 0} → Ending → Reader A → Reader A → Type 0
UpTo b = parting.UpTo (near_parting b)

-- ---- what an item ends with

-- both come to the end of the short text
pub record AtEnd (b : Ending) (ts us : Tokens) : Type 0 where
  pub behind : ts.left ≡ b.behind
  pub none : us.left ≡ []
  pub past : ts.past ≡ us.past + b.by
  pub uneven : b.level ≡ false

-- what stands behind the short text goes on with nothing
abbrev pub is_still : Ending → Bool
is_still b = not (by_first 0 symbol_of b.behind == 62 || by_first 0 symbol_of b.behind == 44)

-- Both go past the end, the longer one further where what it read is ended, and what the shorter one read is not; or both stay before it, or both
-- come to it.
pub data Outcome {A : Type 0} (alike : A → A → Type 0) (ended : A → Bool) (b : Ending) : A × Tokens → A × Tokens → Type 0 where
  lost : {p q : A × Tokens} → Gone b p.1 q.1 → (ended p.0 ≡ true → length p.1.left < length b.behind) → (is_still b ≡ true → ended q.0 ≡ false) → Outcome alike ended b p q
  stays : {p q : A × Tokens} → Kept alike b p q → Outcome alike ended b p q
  comes : {p q : A × Tokens} → alike p.0 q.0 → AtEnd b p.1 q.1 → Outcome alike ended b p q

pub outcome_until : {A : Type 0} {alike : A → A → Type 0} {ended : A → Bool} {b : Ending} {p q : A × Tokens} → Outcome alike ended b p q → UntilBy alike b p q
outcome_until (lost g f n) = gone g
outcome_until (stays k) = kept k
outcome_until (comes t a) = gone (record { few = let long = ap length a.behind in omega arith; none = a.none; uneven = a.uneven })

-- where nothing is left, nothing is taken that ends
pub untaken : {t : Bool} {m : ℕ} (us : Tokens) → us.left ≡ [] → (t ≡ true → m < length us.left) → t ≡ false
untaken {t = false} us none strict = refl
untaken {t = true} us none strict = let less = strict refl in let empty = ap length none in absurd (omega arith)

pub map_outcome : {A C : Type 0} {alike : A → A → Type 0} {alike' : C → C → Type 0} {ended : A → Bool} {ended' : C → Bool} {b : Ending} {p q : A × Tokens} (f f' : A → C)
    → (alike p.0 q.0 → alike' (f p.0) (f' q.0)) → (ended' (f p.0) ≡ true → ended p.0 ≡ true) → (ended q.0 ≡ false → ended' (f' q.0) ≡ false) → Outcome alike ended b p q → Outcome alike' ended' b (f p.0, p.1) (f' q.0, q.1)
map_outcome f f' same tells untold (lost g strict never) = lost g (λ e. strict (tells e)) (λ s. untold (never s))
map_outcome f f' same tells untold (stays k) = stays (record { value = same k.value; rest = k.rest })
map_outcome f f' same tells untold (comes t a) = comes (same t) a

-- the last of some readers, which takes a token where what it reads is ended
pub then_outcome : {A B : Type 0} {first : A → A → Type 0} {alike : B → B → Type 0} {ended : B → Bool} {b : Ending} {p q : A × Tokens} (f f' : A → Reader B) → ((a : A) → Forwards (f a)) → ((a : A) → Forwards (f' a))
    → ((a : A) (ts : Tokens) → ended (f a ts).0 ≡ true → length (f a ts).1.left < length ts.left) → ((a : A) (ts : Tokens) → ended (f' a ts).0 ≡ true → length (f' a ts).1.left < length ts.left)
    → ((a a' : A) → first a a' → (ts us : Tokens) → Near b ts us → Outcome alike ended b (f a ts) (f' a' us)) → UntilBy first b p q → Outcome alike ended b (f p.0 p.1) (f' q.0 q.1)
then_outcome {p = p} {q = q} f f' leads leads' strict strict' more (gone g) =
    lost (gone_on g (leads p.0 p.1) (leads' q.0 q.1)) (λ e. let less = strict p.0 p.1 e in let few = g.few in omega arith) (λ s. untaken q.1 g.none (strict' q.0 q.1))
then_outcome {p = p} {q = q} f f' leads leads' strict strict' more (kept k) = more p.0 q.0 k.value p.1 q.1 k.rest

-- ---- one token

pub data Step (b : Ending) (ts us : Tokens) : Type 0 where
  at_last : AtEnd b (bumped ts) (bumped us) → Step b ts us
  next : Near b (bumped ts) (bumped us) → Step b ts us

last_ends : (b : Ending) (past : ℕ) (t : Piece) (u : Option ℕ) (y : EditionYear) → b.level ≡ false
    → AtEnd b (bumped (record { past = past + b.by; left = map (moved_piece b.by) (t ∷ []) ++ b.behind; unended = b.unended; edition = y })) (bumped (record { past = past; left = t ∷ []; unended = u; edition = y }))
unfolding bumped
last_ends b past t u y l = record { behind = refl; none = refl; past = omega arith; uneven = l }

pub step : (b : Ending) (ts us : Tokens) → Near b ts us → Step b ts us
step b ts us (near past [] u y e) = next (still_near b past u y e)
step b ts us (near past (t ∷ []) u y e) = when b.level (λ l. next (next_near b past t [] u y (level_ended b.level [] l))) (λ l. at_last (last_ends b past t u y l))
step b ts us (near past (t ∷ v ∷ x) u y e) = next (next_near b past t (v ∷ x) u y e)

pub bump_outcome : {A : Type 0} {alike : A → A → Type 0} {ended : A → Bool} (b : Ending) (a a' : A) {ts us : Tokens} → alike a a' → Step b ts us → Outcome alike ended b (a, bumped ts) (a', bumped us)
bump_outcome b a a' same (at_last e) = comes same e
bump_outcome b a a' same (next h) = stays (record { value = same; rest = h })

-- a symbol that ends an item
pub eat_outcome : (b : Ending) (c : ℕ) (ts us : Tokens) → Near b ts us → Outcome Same (λ t. t) b (eat c ts) (eat c us)
unfolding eat
eat_outcome b c ts us h =
    when (symbol ts == c)
    (λ e. rw (symbol_test (near_twins b) c ts us h, e) (bump_outcome b true true refl (step b ts us h)))
    (λ e. rw (symbol_test (near_twins b) c ts us h, e) (stays (record { value = refl; rest = h })))

pub eat_fewer : (c : ℕ) (ts : Tokens) → 0 < c → (eat c ts).0 ≡ true → length (eat c ts).1.left < length ts.left
unfolding eat
eat_fewer c ts some e =
    when (symbol ts == c) (λ f. let less = shorter ts (symbol_some c ts some f) in rw f (omega arith)) (λ f. absurd (let no = rw f at e in cc))
