-- Braces are opaque: a walk over tokens stands behind them as it stood before them, whatever matches in them.
use Rattle.std.proofs.Common.{◌≡◌, ◌≢◌, ℕ, suc, ◌+◌, ◌-◌, ◌==◌, true, false, Option, Some, List, [], ◌∷◌, ◌++◌, refl, ap, ◌∙◌, sym, subst, arith}
use Rattle.rust_cursor.proofs.Common.{nat_tests, EditionYear, Piece, symbol_of, braces_from, Nest, Tokens, end_of, symbol, is_empty, bumped, braces_behind, nest_inside, nest_outside, nest_behind}
use Rattle.rust_cursor.proofs.TokenRests.{when}

-- these tokens, behind a place
abbrev pub tokens_at : EditionYear → ℕ → List Piece → Option ℕ → Tokens
tokens_at y past left u = record { past = past; left = left; unended = u; edition = y }

pub symbol_at : (y : EditionYear) (past : ℕ) (t : Piece) (left : List Piece) (u : Option ℕ) → symbol (tokens_at y past (t ∷ left) u) ≡ symbol_of t
unfolding symbol
symbol_at y past t left u = refl

pub some_at : (y : EditionYear) (past : ℕ) (t : Piece) (left : List Piece) (u : Option ℕ) → is_empty (tokens_at y past (t ∷ left) u) ≡ false
unfolding is_empty
some_at y past t left u = refl

pub bumped_at : (y : EditionYear) (past : ℕ) (t : Piece) (left : List Piece) (u : Option ℕ) → bumped (tokens_at y past (t ∷ left) u) ≡ tokens_at y (end_of t) left u
unfolding bumped
bumped_at y past t left u = refl

pub inside_is : (n : Nest) (ts : Tokens) → (n.braces == 0) ≡ false → nest_behind n ts ≡ nest_inside n ts
unfolding nest_behind
inside_is n ts e = rw e refl

pub outside_is : (n : Nest) (ts : Tokens) → (n.braces == 0) ≡ true → nest_behind n ts ≡ nest_outside n ts
unfolding nest_behind
outside_is n ts e = rw e refl

-- the second stands in so many braces, and in the same other brackets as the first
pub record Deeper (n m : Nest) (deep : ℕ) : Type 0 where
  pub braces : m.braces ≡ deep
  pub others : m.others ≡ n.others
  pub free : m.free ≡ n.free
  pub angles : m.angles ≡ n.angles
  pub before : m.before ≡ n.before

pub deeper_on : (n m k : Nest) (i j : ℕ) → Deeper n m i → Deeper m k j → Deeper n k j
deeper_on n m k i j p q = record { braces = q.braces; others = q.others ∙ p.others; free = q.free ∙ p.free; angles = q.angles ∙ p.angles; before = q.before ∙ p.before }

inside_before : (n : Nest) (ts : Tokens) (k : ℕ) → braces_behind n.braces (symbol ts) ≡ suc k → (nest_inside n ts).before ≡ n.before
inside_before n ts k f =
    when (n.braces == 1)
    (λ e. when (symbol ts == 125)
    (λ g. let one : n.braces ≡ 1 = grind (arith, nat_tests) in
    let shut : symbol ts ≡ 125 = grind (arith, nat_tests) in
    absurd (let no = rw (shut, one) at f in omega (arith, no)))
    (λ g. rw (e, g) refl))
    (λ e. rw e refl)

inside_deeper : (n : Nest) (ts : Tokens) (k : ℕ) → (n.braces == 0) ≡ false → braces_behind n.braces (symbol ts) ≡ suc k → Deeper n (nest_behind n ts) (suc k)
inside_deeper n ts k e f =
    subst (λ (m : Nest). Deeper n m (suc k)) (sym (inside_is n ts e)) (record { braces = f; others = refl; free = refl; angles = refl; before = inside_before n ts k f })

-- behind a `{`
pub enters : (n : Nest) (ts : Tokens) → symbol ts ≡ 123 → Deeper n (nest_behind n ts) (suc n.braces)
enters n ts s =
    when (n.braces == 0)
    (λ e. let flat : n.braces ≡ 0 = grind (arith, nat_tests) in
    subst (λ (m : Nest). Deeper n m (suc n.braces)) (sym (outside_is n ts e))
    (record { braces = rw (s, flat) refl; others = rw s refl; free = rw s refl; angles = outside_angles s; before = rw s refl }))
    (λ e. inside_deeper n ts n.braces e (rw s (omega arith)))
  where
    outside_angles : symbol ts ≡ 123 → (nest_outside n ts).angles ≡ n.angles
    outside_angles s = when (n.others == 0) (λ e. rw (e, s) refl) (λ e. rw e refl)

-- behind a token of tokens whose braces match
pub record BraceStep (t : Piece) (ms : List Piece) (k i : ℕ) : Type 0 where
  pub depth : ℕ
  pub behind : braces_behind k (symbol_of t) ≡ depth
  pub inside : braces_behind (suc k) (symbol_of t) ≡ suc depth
  pub some_open : k ≡ 0 → (symbol_of t == 125) ≡ false
  pub deeper : (d : ℕ) → braces_from (k + d) (t ∷ ms) ≡ braces_from (depth + d) ms
  pub rest : braces_from depth ms ≡ Some i

pub brace_step : (t : Piece) (ms : List Piece) (k i : ℕ) → braces_from k (t ∷ ms) ≡ Some i → BraceStep t ms k i
brace_step t ms k i e =
    when (symbol_of t == 123)
    (λ o. let f = rw o at e in
    let other : (symbol_of t == 125) ≡ false = grind (arith, nat_tests) in
    record { depth = suc k; behind = rw o (omega arith); inside = rw o (omega arith); some_open = λ _. other; deeper = λ d. rw o (ap (λ j. braces_from j ms) (omega arith)); rest = f })
    (λ o. let f = rw o at e in
    when (symbol_of t == 125)
    (λ p. let g = rw p at f in
    when (k == 0) (λ q. absurd (let no = rw q at g in cc))
    (λ q. let h = rw q at g in
    let some : k ≢ 0 = grind (arith, nat_tests) in
    record {
      depth = k - 1;
      behind = rw (o, p) refl;
      inside = rw (o, p) (omega arith);
      some_open = λ z. absurd (some z);
      deeper = λ d. let more : (k + d == 0) ≡ false = grind (arith, nat_tests) in rw (o, p, more) (ap (λ j. braces_from j ms) (omega arith));
      rest = h;
    }))
    (λ p. let g = rw p at f in record { depth = k; behind = rw (o, p) refl; inside = rw (o, p) refl; some_open = λ _. p; deeper = λ d. rw (o, p) refl; rest = g }))

-- ---- walks

-- a walk goes on where it stands in braces, before the next token and behind it
abbrev pub Walks : {S Z : Type 0} → (S → Nest → Tokens → Z) → (S → Nest → Tokens → S) → Type 0
Walks {S} {Z} walk step =
    (s : S) (n : Nest) (ts : Tokens) → is_empty ts ≡ false → (n.braces == 0) ≡ false → ((nest_behind n ts).braces == 0) ≡ false
    → walk s n ts ≡ walk (step s n ts) (nest_behind n ts) (bumped ts)

-- it comes to what is left in these braces, and what is seen of its state stays
pub record Comes {S Z V : Type 0} (walk : S → Nest → Tokens → Z) (seen : S → V) (s : S) (n : Nest) (ts : Tokens) (deep : ℕ) (y : EditionYear) (left : List Piece) (u : Option ℕ) : Type 0 where
  pub state : S
  pub nest : Nest
  pub past : ℕ
  pub stays : seen state ≡ seen s
  pub deeper : Deeper n nest deep
  pub same : walk s n ts ≡ walk state nest (tokens_at y past left u)

not_flat : (n : Nest) (k : ℕ) → n.braces ≡ suc k → (n.braces == 0) ≡ false
not_flat n k e = grind (arith, nat_tests)

-- what is seen of a state stays in braces
abbrev pub Stays : {S V : Type 0} → (S → V) → (S → Nest → Tokens → S) → Type 0
Stays {S} seen step = (s : S) (n : Nest) (ts : Tokens) → (n.braces == 0) ≡ false → seen (step s n ts) ≡ seen s

module _ {S Z V : Type 0} (walk : S → Nest → Tokens → Z) (step : S → Nest → Tokens → S) (walks : Walks walk step) (seen : S → V) (stays : Stays seen step) where
  -- one token, and then the others
  goes_on : (t : Piece) (ms left : List Piece) (y : EditionYear) (past k j i : ℕ) (u : Option ℕ) (s : S) (n : Nest) → n.braces ≡ suc k → braces_behind n.braces (symbol_of t) ≡ suc j
      → ((s' : S) (n' : Nest) → n'.braces ≡ suc j → Comes walk seen s' n' (tokens_at y (end_of t) (ms ++ left) u) (suc i) y left u) → Comes walk seen s n (tokens_at y past (t ∷ (ms ++ left)) u) (suc i) y left u
  goes_on t ms left y past k j i u s n e f more =
      let ts = tokens_at y past (t ∷ (ms ++ left)) u in
      let deep : Deeper n (nest_behind n ts) (suc j) = inside_deeper n ts j (not_flat n k e) (ap (braces_behind n.braces) (symbol_at y past t (ms ++ left) u) ∙ f) in
      let rest = more (step s n ts) (nest_behind n ts) deep.braces in
      record {
        state = rest.state;
        nest = rest.nest;
        past = rest.past;
        stays = rest.stays ∙ stays s n ts (not_flat n k e);
        deeper = deeper_on n (nest_behind n ts) rest.nest (suc j) (suc i) deep rest.deeper;
        same = walks s n ts (some_at y past t (ms ++ left) u) (not_flat n k e) (not_flat (nest_behind n ts) j deep.braces)
            ∙ ap (walk (step s n ts) (nest_behind n ts)) (bumped_at y past t (ms ++ left) u) ∙ rest.same;
      }

  -- tokens whose braces match
  pub through : (ms left : List Piece) (y : EditionYear) (past k i : ℕ) (u : Option ℕ) (s : S) (n : Nest) → n.braces ≡ suc k → braces_from k ms ≡ Some i → Comes walk seen s n (tokens_at y past (ms ++ left) u) (suc i) y left u
  through [] left y past k i u s n e f =
      let same : k ≡ i = cc in
      record { state = s; nest = n; past = past; stays = refl; deeper = record { braces = e ∙ ap suc same; others = refl; free = refl; angles = refl; before = refl }; same = refl }
  through (t ∷ ms) left y past k i u s n e f =
      let brace = brace_step t ms k i f in
      goes_on t ms left y past k brace.depth i u s n e (ap (λ j. braces_behind j (symbol_of t)) e ∙ brace.inside) (λ s' n' e'. through ms left y (end_of t) brace.depth i u s' n' e' brace.rest)
