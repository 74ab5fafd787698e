-- Steps in braces.
use Rattle.std.proofs.Common.{◌≡◌, ◌+◌, ◌-◌, ◌==◌, ◌&&◌, ℕ, Bool, true, false, not, Option, refl, ap, ◌∙◌, arith, if◌then◌else◌}
use Rattle.rust_cursor.proofs.Common.{nat_tests, Nest, Extent, Tokens, symbol, is_empty, is_mark, nest_inside, nest_behind, stops, ends, opened_behind}

pub record AreFalse (a b c : Bool) : Type 0 where
  pub first : a ≡ false
  pub second : b ≡ false
  pub third : c ≡ false

pub none_of : (a b c : Bool) → (not a && (not b && not c)) ≡ true → AreFalse a b c
none_of false false false e = record { first = refl; second = refl; third = refl }
none_of _ _ _ e = absurd cc

-- a brace is left open
pub left_by : (opens closes : Bool) (n : ℕ) → (n == 0) ≡ false → (n == 1 && closes) ≡ false → ((if opens then n + 1 else (if closes then n - 1 else n)) == 0) ≡ false
left_by true closes n some more = grind (arith, nat_tests)
left_by false true n some more = grind (arith, nat_tests)
left_by false false n some more = some

pub stops_deep : (e : Extent) (nest : Nest) (ts : Tokens) → is_empty ts ≡ false → (nest.braces == 0) ≡ false → stops e nest ts ≡ false
unfolding stops
stops_deep e nest ts some deep = rw (some, deep) refl

is_behind : (nest : Nest) (ts : Tokens) → (nest.braces == 0) ≡ false → nest_inside nest ts ≡ nest_behind nest ts
unfolding nest_behind
is_behind nest ts deep = rw deep refl

pub not_last : (e : Extent) (is_call : Bool) (behind : Nest) (ts : Tokens) → (behind.braces == 0) ≡ false → ends e is_call behind ts ≡ false
unfolding ends
not_last e is_call behind ts deep = rw deep refl

opened_same : (opened : Option Tokens) (nest : Nest) (ts : Tokens) → (nest.braces == 0) ≡ false → opened ≡ opened_behind opened nest ts
opened_same opened nest ts deep = rw deep refl

-- a token in braces that leaves one open is taken, and more
pub record IsInside (e : Extent) (nest behind : Nest) (ts : Tokens) : Type 0 where
  pub some : is_empty ts ≡ false
  pub goes : stops e nest ts ≡ false
  pub after : behind ≡ nest_behind nest ts
  pub more : ends e (is_mark nest.before) behind ts ≡ false
  pub opened : (o : Option Tokens) → o ≡ opened_behind o nest ts

pub inside : (e : Extent) (nest behind : Nest) (ts : Tokens) → (not (nest.braces == 0) && (not (is_empty ts) && not (nest.braces == 1 && symbol ts == 125))) ≡ true → behind ≡ nest_inside nest ts → IsInside e nest behind ts
inside e nest behind ts test is =
    let none = none_of (nest.braces == 0) (is_empty ts) (nest.braces == 1 && symbol ts == 125) test in
    let left = left_by (symbol ts == 123) (symbol ts == 125) nest.braces none.first none.third in
    record {
      some = none.second;
      goes = stops_deep e nest ts none.second none.first;
      after = is ∙ is_behind nest ts none.first;
      more = not_last e (is_mark nest.before) behind ts (ap (λ k. k.braces == 0) is ∙ left);
      opened = λ o. opened_same o nest ts none.first;
    }
