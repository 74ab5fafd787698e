-- Steps of nests.
use Rattle.std.proofs.Common.{◌≡◌, ◌≤◌, ◌<◌, ◌+◌, ◌^◌, ◌-◌, ◌==◌, ℕ, Bool, true, false, List, [], ◌∷◌, length, ⊎_elim, refl, ap, arith, if◌then◌else◌}
use Rattle.rust_cursor.proofs.Common.{cases_Bool, Piece, Nest, Tokens, by_first, rest, symbol, is_empty, bumped, opens_other, closes_other, is_arrow, nest_behind}

shorter_from : (left : List Piece) → by_first true (λ _. false) left ≡ false → length (rest left) + 1 ≡ length left
shorter_from [] e = absurd cc
shorter_from (t ∷ ts) e = omega arith

-- a token that is taken is one less
pub shorter : (ts : Tokens) → is_empty ts ≡ false → length (bumped ts).left + 1 ≡ length ts.left
unfolding is_empty bumped
shorter ts e = shorter_from ts.left e

-- ---- one token opens one bracket at most

braces_step : (opens closes : Bool) (n : ℕ) → (if opens then n + 1 else (if closes then n - 1 else n)) ≤ n + 1
braces_step false true n = omega arith
braces_step _ _ n = omega arith

others_step : (opens closes ends : Bool) (n : ℕ) → (if opens then n + 1 else (if closes then n - 1 else (if ends then 0 else n))) ≤ n + 1
others_step false false true n = omega arith
others_step _ _ _ n = omega arith

angles_step : (counts opens closes arrow : Bool) (n : ℕ) → (if counts then (if opens then n + 1 else (if closes then (if arrow then n else n - 1) else n)) else n) ≤ n + 1
angles_step true false true true n = omega arith
angles_step _ _ _ _ n = omega arith

record IsOneMore (nest behind : Nest) : Type 0 where
  braces : behind.braces ≤ nest.braces + 1
  others : behind.others ≤ nest.others + 1
  angles : behind.angles ≤ nest.angles + 1
  inner : behind.inner ≤ nest.inner + 1

one_more : (nest : Nest) (ts : Tokens) → IsOneMore nest (nest_behind nest ts)
unfolding nest_behind
one_more nest ts =
    ⊎_elim
    (λ e. let first = braces_step (symbol ts == 123) (symbol ts == 125) 0 in
    rw e (record {
      braces = omega arith;
      others = others_step (opens_other (symbol ts)) (closes_other (symbol ts)) (symbol ts == 125) nest.others;
      angles = angles_step (nest.others == 0) (symbol ts == 60) (symbol ts == 62) (is_arrow nest.before ts) nest.angles;
      inner = omega arith;
    }))
    (λ e. rw e (record {
      braces = braces_step (symbol ts == 123) (symbol ts == 125) nest.braces;
      others = omega arith;
      angles = omega arith;
      inner = braces_step (opens_other (symbol ts)) (closes_other (symbol ts)) nest.inner;
    }))
    (cases_Bool (nest.braces == 0))

-- what is left is less, and with the brackets no more
pub record IsFewer (nest behind : Nest) (ts after : Tokens) : Type 0 where
  pub left : length after.left + 1 ≡ length ts.left
  pub braces : behind.braces + length after.left ≤ nest.braces + length ts.left
  pub others : behind.others + length after.left ≤ nest.others + length ts.left
  pub angles : behind.angles + length after.left ≤ nest.angles + length ts.left
  pub inner : behind.inner + length after.left ≤ nest.inner + length ts.left

pub fewer : (nest behind : Nest) (ts after : Tokens) → is_empty ts ≡ false → behind ≡ nest_behind nest ts → after ≡ bumped ts → IsFewer nest behind ts after
fewer nest behind ts after some b n =
    let less = shorter ts some in
    let same : length after.left ≡ length (bumped ts).left = ap (λ k. length k.left) n in
    let braces : behind.braces ≡ (nest_behind nest ts).braces = ap (λ k. k.braces) b in
    let others : behind.others ≡ (nest_behind nest ts).others = ap (λ k. k.others) b in
    let angles : behind.angles ≡ (nest_behind nest ts).angles = ap (λ k. k.angles) b in
    let inner : behind.inner ≡ (nest_behind nest ts).inner = ap (λ k. k.inner) b in
    let one = one_more nest ts in
    record {
      left = omega arith;
      braces = omega (arith, one.braces);
      others = omega (arith, one.others);
      angles = omega (arith, one.angles);
      inner = omega (arith, one.inner);
    }

-- brackets that can be counted up to the end of what is left
abbrev pub AreCounted : Nest → Tokens → Type 0
AreCounted nest ts = record {
  braces : nest.braces + length ts.left < 2 ^ 64;
  others : nest.others + length ts.left < 2 ^ 64;
  angles : nest.angles + length ts.left < 2 ^ 64;
  inner : nest.inner + length ts.left < 2 ^ 64;
}

-- one more of each kind can be counted
abbrev HasRoom : Nest → Type 0
HasRoom nest = record {
  braces : nest.braces + 1 < 2 ^ 64;
  others : nest.others + 1 < 2 ^ 64;
  angles : nest.angles + 1 < 2 ^ 64;
  inner : nest.inner + 1 < 2 ^ 64;
}

pub room : (nest : Nest) (ts : Tokens) → is_empty ts ≡ false → AreCounted nest ts → HasRoom nest
room nest ts some counted =
    let less = shorter ts some in
    record {
      braces = omega (arith, less, counted.braces);
      others = omega (arith, less, counted.others);
      angles = omega (arith, less, counted.angles);
      inner = omega (arith, less, counted.inner);
    }

pub counted_on : {nest behind : Nest} {ts after : Tokens} → IsFewer nest behind ts after → AreCounted nest ts → AreCounted behind after
counted_on less counted = record {
  braces = omega (arith, less.braces, counted.braces);
  others = omega (arith, less.others, counted.others);
  angles = omega (arith, less.angles, counted.angles);
  inner = omega (arith, less.inner, counted.inner);
}

pub not_first : (b rest : Bool) → (if b then true else rest) ≡ false → b ≡ false
not_first true rest e = e
not_first false rest e = refl
