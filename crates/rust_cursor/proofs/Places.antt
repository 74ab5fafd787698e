-- Places that are told of tokens beside: they are equal, or moved as what stands behind the braces.
use Rattle.std.proofs.Common.{◌≡◌, ◌≤◌, ℕ, ◌+◌, Option, Some, None, List, [], ◌∷◌, ◌++◌, refl, arith}
use Rattle.std.specs.Option.{option_or}
use Rattle.rust_cursor.proofs.Common.{Tokens, end_of, at, Bodies, Beside, ahead, behind}
use Rattle.rust_cursor.proofs.Views.{before_at, behind_at}

-- the members of two lists are alike, one by one
pub data AreAlike {A : Type 0} (alike : A → A → Type 0) : List A → List A → Type 0 where
  no_more : AreAlike alike [] []
  one_more : {x y : A} {xs ys : List A} → alike x y → AreAlike alike xs ys → AreAlike alike (x ∷ xs) (y ∷ ys)

pub alike_join : {A : Type 0} {alike : A → A → Type 0} {xs ys xs' ys' : List A} → AreAlike alike xs ys → AreAlike alike xs' ys' → AreAlike alike (xs ++ xs') (ys ++ ys')
alike_join no_more k = k
alike_join (one_more a h) k = one_more a (alike_join h k)

-- what is told of the one is told of the other, and alike
pub data IsAlike {A : Type 0} (alike : A → A → Type 0) : Option A → Option A → Type 0 where
  neither : IsAlike alike None None
  both : {x y : A} → alike x y → IsAlike alike (Some x) (Some y)

pub alike_or : {A : Type 0} {alike : A → A → Type 0} {o p o' p' : Option A} → IsAlike alike o p → IsAlike alike o' p' → IsAlike alike (option_or o o') (option_or p p')
alike_or neither k = k
alike_or (both a) k = both a

-- A place of the one text, and that of the other: before the braces it stays, and behind them it is moved.
pub data Moves (at low by by_new n m : ℕ) : Type 0 where
  unmoved : n ≤ at → m ≡ n → Moves at low by by_new n m
  moves : (c : ℕ) → low ≤ c → n ≡ c + by → m ≡ c + by_new → Moves at low by by_new n m

abbrev pub SamePlace : Bodies → ℕ → ℕ → Type 0
SamePlace b = Moves b.opening.at (end_of b.closing) b.by b.by_new

-- the place of what is left
pub at_place : (b : Bodies) (ts us : Tokens) → Beside b ts us → SamePlace b (at ts) (at us)
unfolding at
at_place b ts us (ahead past [] r u u' i j) = unmoved (omega arith) refl
at_place b ts us (ahead past (t ∷ x) r u u' i j) = let end = before_at b.opening.at (end_of t) x i.1 in unmoved (omega arith) refl
at_place b ts us (behind past [] u u' i) = moves past i refl refl
at_place b ts us (behind past (t ∷ r) u u' i) = moves t.at i.0.1 refl refl

-- and where what was taken ends
pub past_place : (b : Bodies) (ts us : Tokens) → Beside b ts us → SamePlace b ts.past us.past
past_place b ts us (ahead past x r u u' i j) = unmoved (before_at b.opening.at past x i) refl
past_place b ts us (behind past r u u' i) = moves past (behind_at (end_of b.closing) past r i) refl refl
