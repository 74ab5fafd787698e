-- Steps of what passes over tokens, up to a bracket that closes among them.
use Rattle.std.proofs.Common.{◌≡◌, ℕ, Bool, true, false, Option, List, [], ◌∷◌, ⊎_elim, refl}
use Rattle.rust_cursor.proofs.Common.{cases_Bool, EditionYear, Piece, Nest, Tokens, is_empty, bumped, nest_behind, passing_from, is_closing, closing}
use Rattle.rust_cursor.proofs.Nesting.{not_first}

-- of all tokens that are left
unfoldable pub passing : (Nest → Tokens → Bool) → (Nest → Bool) → Nest → Tokens → Tokens
passing is_stop is_last nest ts = passing_from is_stop is_last nest ts ts.left

module _ (is_stop : Nest → Tokens → Bool) (is_last : Nest → Bool) where
  stop_from : (nest : Nest) (ts : Tokens) (left : List Piece) → is_stop nest ts ≡ true → passing_from is_stop is_last nest ts left ≡ ts
  stop_from nest ts [] s = refl
  stop_from nest ts (t ∷ more) s = rw s refl

  -- nothing more is passed over
  pub passing_stop : (nest : Nest) (ts : Tokens) → is_stop nest ts ≡ true → passing is_stop is_last nest ts ≡ ts
  unfolding passing
  passing_stop nest ts s = stop_from nest ts ts.left s

  end_from : (nest : Nest) (past : ℕ) (left : List Piece) (u : Option ℕ) (y : EditionYear) → (let here : Tokens = record { past = past; left = left; unended = u; edition = y } in
      is_empty here ≡ false → is_stop nest here ≡ false → is_last (nest_behind nest here) ≡ true → passing is_stop is_last nest here ≡ bumped here)
  unfolding is_empty passing
  end_from nest past [] u y some s f = absurd cc
  end_from nest past (t ∷ ts) u y some s f = rw (s, f) refl

  -- the next token is the last
  pub passing_end : (nest : Nest) (ts : Tokens) → is_empty ts ≡ false → is_stop nest ts ≡ false → is_last (nest_behind nest ts) ≡ true → passing is_stop is_last nest ts ≡ bumped ts
  passing_end nest ts some s f = end_from nest ts.past ts.left ts.unended ts.edition some s f

  more_from : (nest : Nest) (past : ℕ) (left : List Piece) (u : Option ℕ) (y : EditionYear) → (let here : Tokens = record { past = past; left = left; unended = u; edition = y } in
      is_empty here ≡ false → is_stop nest here ≡ false → is_last (nest_behind nest here) ≡ false → passing is_stop is_last nest here ≡ passing is_stop is_last (nest_behind nest here) (bumped here))
  unfolding is_empty passing bumped
  more_from nest past [] u y some s f = absurd cc
  more_from nest past (t ∷ ts) u y some s f = rw (s, f) refl

  -- a token is passed over, and more
  pub passing_more : (nest : Nest) (ts : Tokens) → is_empty ts ≡ false → is_stop nest ts ≡ false → is_last (nest_behind nest ts) ≡ false
      → passing is_stop is_last nest ts ≡ passing is_stop is_last (nest_behind nest ts) (bumped ts)
  passing_more nest ts some s f = more_from nest ts.past ts.left ts.unended ts.edition some s f

-- where a token is passed over, one is left
pub some_left : (is_stop : Nest → Tokens → Bool) → ((nest : Nest) (ts : Tokens) → is_empty ts ≡ true → is_stop nest ts ≡ true) → (nest : Nest) (ts : Tokens) → is_stop nest ts ≡ false → is_empty ts ≡ false
some_left is_stop none nest ts s = ⊎_elim (λ e. let yes = none nest ts e in absurd cc) (λ e. e) (cases_Bool (is_empty ts))

-- ---- up to a bracket that closes

pub closing_stop : (bracket : ℕ) (nest : Nest) (ts : Tokens) → is_closing bracket nest ts ≡ true → closing bracket nest ts ≡ ts
unfolding closing passing
closing_stop bracket nest ts e = passing_stop (is_closing bracket) (λ _. false) nest ts e

pub closing_some : (bracket : ℕ) (nest : Nest) (ts : Tokens) → is_closing bracket nest ts ≡ false → is_empty ts ≡ false
unfolding is_closing
closing_some bracket nest ts e = not_first (is_empty ts) _ e

pub closing_more : (bracket : ℕ) (nest : Nest) (ts : Tokens) → is_closing bracket nest ts ≡ false → closing bracket nest ts ≡ closing bracket (nest_behind nest ts) (bumped ts)
unfolding closing passing
closing_more bracket nest ts e = passing_more (is_closing bracket) (λ _. false) nest ts (closing_some bracket nest ts e) e refl
