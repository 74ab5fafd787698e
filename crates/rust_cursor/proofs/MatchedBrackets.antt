-- Where brackets match, what is left behind a tree is left behind the matching bracket.
use Rattle.std.proofs.Common.{◌≡◌, ◌==◌, ◌&&◌, ◌+◌, ℕ, Bool, true, false, not, Option, Some, None, List, [], ◌∷◌, ◌++◌, refl, sym, ap, ◌∙◌, arith, if◌then◌else◌, IfSome}
use Rattle.rust_cursor.proofs.Common.{eqb-true, nat_tests, Piece, symbol_of, Nest, Tokens, by_first, rest, symbol, is_empty, is_at_open, bumped, no_bracket, opens_other, closes_other, others_behind, nest_behind, is_closing, closing, to_closing, behind_closing, behind_closed, behind_tree}
use Rattle.rust_cursor.specs.Matched.{closer, is_closer, owed_closers, behind_matching, behind_match}
use Rattle.rust_cursor.proofs.TokenRests.{when}
use Rattle.rust_cursor.proofs.Steps.{closing_stop, closing_more}
use Rattle.rust_cursor.proofs.Passing.{braces_of}

-- ---- what is counted

-- the braces that are open, and the other brackets that were opened in none of them
abbrev braces_in : List ℕ → ℕ
braces_in [] = 0
braces_in (c ∷ due) = if c == 125 then braces_in due + 1 else braces_in due

abbrev others_in : List ℕ → ℕ
others_in [] = 0
others_in (c ∷ due) = if braces_in (c ∷ due) == 0 then others_in due + 1 else others_in due

record Counts (due : List ℕ) (nest : Nest) : Type 0 where
  pub braces : nest.braces ≡ braces_in due
  pub others : nest.others ≡ others_in due

others_step : (nest : Nest) (ts : Tokens) → (nest_behind nest ts).others ≡ (if nest.braces == 0 then others_behind nest.others (symbol ts) else nest.others)
unfolding nest_behind
others_step nest ts = when (nest.braces == 0) (λ e. rw e refl) (λ e. rw e refl)

-- ---- where it ends

data Bracket : ℕ → ℕ → Type 0 where
  round : Bracket 40 41
  square : Bracket 91 93
  curly : Bracket 123 125

bracket_of : (b : ℕ) → (closer b == 0) ≡ false → Bracket b (closer b)
bracket_of b e =
    when (b == 40) (λ h. let same : b ≡ 40 = eqb-true b 40 h in rw same round)
    (λ h. when (b == 91) (λ i. let same : b ≡ 91 = eqb-true b 91 i in rw same square)
    (λ i. when (b == 123) (λ j. let same : b ≡ 123 = eqb-true b 123 j in rw same curly)
    (λ j. let none : true ≡ false = rw (h, i, j) at e in absurd cc)))

ends_at : {b c : ℕ} → Bracket b c → (nest : Nest) (ts : Tokens) → is_empty ts ≡ false → symbol ts ≡ c → nest.braces ≡ 0 → nest.others ≡ 0 → is_closing b nest ts ≡ true
unfolding is_closing
ends_at curly nest ts some s n m = rw (some, n, s) refl
ends_at _ nest ts some s n m = rw (some, n, m, s) refl

behind_at : {b c : ℕ} → Bracket b c → (ts : Tokens) → symbol ts ≡ c → behind_closing b ts ≡ bumped ts
behind_at curly ts s = refl
behind_at _ ts s = rw s refl

and_false : (x : Bool) → (x && false) ≡ false
and_false true = refl
and_false false = refl

module _ (b : ℕ) (nest : Nest) (ts : Tokens) (some : is_empty ts ≡ false) where
  inside : (nest.braces == 0) ≡ false → is_closing b nest ts ≡ false
  unfolding is_closing
  inside e = rw (some, e) refl

  outside : (symbol ts == 125) ≡ false → (nest.others == 0 && closes_other (symbol ts)) ≡ false → is_closing b nest ts ≡ false
  unfolding is_closing
  outside e h = when (nest.braces == 0) (λ z. rw (some, z, e, h) (and_false (not (b == 123)))) (λ z. rw (some, z) refl)

  -- a bracket is opened or closed, or neither
  record Goes (due : List ℕ) : Type 0 where
    pub on : is_closing b nest ts ≡ false
    pub counts : Counts due (nest_behind nest ts)

  -- tests that tell other brackets from braces
  close_other : (due : List ℕ) (s : ℕ) → symbol ts ≡ s → (s == 123) ≡ false → (s == 125) ≡ false → opens_other s ≡ false → closes_other s ≡ true → Counts (s ∷ due) nest → Goes due
  close_other due s e f g h i n =
      let braces : nest.braces ≡ braces_in due = rw g at n.braces in
      let stays : (nest_behind nest ts).braces ≡ nest.braces = braces_of nest ts ∙ rw (e, f, g) refl in
      when (braces_in due == 0)
      (λ z. let others : nest.others ≡ others_in due + 1 = rw (g, z) at n.others in
      let no_bracket : (nest.braces == 0) ≡ true = rw braces z in
      let some_other : (nest.others == 0) ≡ false = grind (arith, nat_tests) in
      record {
        on = outside (rw e g) (rw some_other refl);
        counts = record { braces = stays ∙ braces; others = others_step nest ts ∙ rw (no_bracket, e, h, i) (omega arith) };
      })
      (λ z. let others : nest.others ≡ others_in due = rw (g, z) at n.others in
      let deep : (nest.braces == 0) ≡ false = rw braces z in
      record { on = inside deep; counts = record { braces = stays ∙ braces; others = others_step nest ts ∙ rw deep others } })

  close_brace : (due : List ℕ) → symbol ts ≡ 125 → Counts (125 ∷ due) nest → Goes due
  close_brace due e n =
      let braces : nest.braces ≡ braces_in due + 1 = n.braces in
      let deep : (nest.braces == 0) ≡ false = grind (arith, nat_tests) in
      let more : (braces_in due + 1 == 0) ≡ false = grind (arith, nat_tests) in
      let others : nest.others ≡ others_in due = rw more at n.others in
      record { on = inside deep; counts = record { braces = braces_of nest ts ∙ rw e (omega arith); others = others_step nest ts ∙ rw deep others } }

  open_other : (due : List ℕ) (s c : ℕ) → symbol ts ≡ s → (s == 123) ≡ false → (s == 125) ≡ false → opens_other s ≡ true → closes_other s ≡ false → (c == 125) ≡ false → Counts due nest → Goes (c ∷ due)
  open_other due s c e f g h i j n =
      let braces : braces_in (c ∷ due) ≡ braces_in due = rw j refl in
      let stays : (nest_behind nest ts).braces ≡ braces_in (c ∷ due) = braces_of nest ts ∙ rw (e, f, g) (n.braces ∙ sym braces) in
      let on : is_closing b nest ts ≡ false = outside (rw e g) (rw (e, i) (and_false (nest.others == 0))) in
      let others : nest.others ≡ others_in due = n.others in
      when (braces_in due == 0)
      (λ z. let no_bracket : (nest.braces == 0) ≡ true = rw n.braces z in
      record { on = on; counts = record { braces = stays; others = others_step nest ts ∙ rw (no_bracket, e, h, j, z) (omega arith) } })
      (λ z. let deep : (nest.braces == 0) ≡ false = rw n.braces z in
      record { on = on; counts = record { braces = stays; others = others_step nest ts ∙ rw (deep, j, z) others } })

  open_brace : (due : List ℕ) → symbol ts ≡ 123 → Counts due nest → Goes (125 ∷ due)
  open_brace due e n =
      let more : (braces_in due + 1 == 0) ≡ false = grind (arith, nat_tests) in
      let braces : nest.braces ≡ braces_in due = n.braces in
      let others : others_in (125 ∷ due) ≡ others_in due = rw more refl in
      record {
        on = outside (rw e refl) (rw e (and_false (nest.others == 0)));
        counts = record {
          braces = braces_of nest ts ∙ rw e (omega arith);
          others = others_step nest ts ∙ when (nest.braces == 0) (λ z. rw (z, e) (n.others ∙ sym others)) (λ z. rw z (n.others ∙ sym others));
        };
      }

  neither : (due : List ℕ) (s : ℕ) → symbol ts ≡ s → (s == 123) ≡ false → (s == 125) ≡ false → opens_other s ≡ false → closes_other s ≡ false → Counts due nest → Goes due
  neither due s e f g h i n = record {
    on = outside (rw e g) (rw (e, i) (and_false (nest.others == 0)));
    counts = record {
      braces = braces_of nest ts ∙ rw (e, f, g) n.braces;
      others = others_step nest ts ∙ when (nest.braces == 0) (λ z. rw (z, e, h, i, g) n.others) (λ z. rw z n.others);
    };
  }

  closed : (due : List ℕ) (s : ℕ) → symbol ts ≡ s → is_closer s ≡ true → Counts (s ∷ due) nest → Goes due
  closed due s e is n =
      when (s == 125) (λ h. let same : s ≡ 125 = eqb-true s 125 h in close_brace due (e ∙ same) (rw same at n))
      (λ h. close_other due s e (grind (arith, nat_tests)) h (grind (arith, nat_tests)) (grind (arith, nat_tests)) n)

  going : (due : List ℕ) (s : ℕ) → symbol ts ≡ s → is_closer s ≡ false → Counts due nest → Goes (owed_closers s due)
  going due s e is n =
      when (s == 123) (λ h. let same : s ≡ 123 = eqb-true s 123 h in rw same (open_brace due (e ∙ same) n))
      (λ h. when (s == 40) (λ i. let same : s ≡ 40 = eqb-true s 40 i in rw same (open_other due 40 41 (e ∙ same) refl refl refl refl refl n))
      (λ i. when (s == 91) (λ j. let same : s ≡ 91 = eqb-true s 91 j in rw same (open_other due 91 93 (e ∙ same) refl refl refl refl refl n))
      (λ j. rw (i, j, h) (neither due s e h (grind (arith, nat_tests)) (grind (arith, nat_tests)) (grind (arith, nat_tests)) n))))

-- ---- up to the bracket that matches

opened_before : (s c : ℕ) (due : List ℕ) → owed_closers s (due ++ c ∷ []) ≡ owed_closers s due ++ c ∷ []
opened_before s c due = when (closer s == 0) (λ e. rw e refl) (λ e. rw e refl)

found_closed : (d : ℕ) (due : List ℕ) (t : Piece) (ts found : List Piece) → is_closer (symbol_of t) ≡ true → behind_matching (d ∷ due) (t ∷ ts) ≡ Some found
    → (symbol_of t ≡ d) × (behind_matching due ts ≡ Some found)
found_closed d due t ts found is h =
    when (symbol_of t == d) (λ f. (eqb-true (symbol_of t) d f, rw (is, f) at h)) (λ f. let none : None ≡ Some found = rw (is, f) at h in absurd cc)

found_going : (c : ℕ) (due : List ℕ) (t : Piece) (ts found : List Piece) → is_closer (symbol_of t) ≡ false → behind_matching (due ++ c ∷ []) (t ∷ ts) ≡ Some found
    → behind_matching (owed_closers (symbol_of t) due ++ c ∷ []) ts ≡ Some found
found_going c [] t ts found is h = ap (λ l. behind_matching l ts) (sym (opened_before (symbol_of t) c [])) ∙ (rw is at h)
found_going c (d ∷ due) t ts found is h = ap (λ l. behind_matching l ts) (sym (opened_before (symbol_of t) c (d ∷ due))) ∙ (rw is at h)

module _ (b c : ℕ) (k : Bracket b c) where
  matched_from : (left : List Piece) (due : List ℕ) (nest : Nest) (ts : Tokens) (found : List Piece) → ts.left ≡ left → Counts due nest → behind_matching (due ++ c ∷ []) left ≡ Some found
      → (behind_closing b (closing b nest ts)).left ≡ found
  unfolding symbol is_empty bumped
  matched_from [] [] nest ts found e n h = absurd cc
  matched_from [] (d ∷ due) nest ts found e n h = absurd cc
  matched_from (t ∷ more) due nest ts found e n h =
      let s : symbol ts ≡ symbol_of t = ap (by_first 0 symbol_of) e in
      let some : is_empty ts ≡ false = ap (by_first true (λ _. false)) e in
      let left : (bumped ts).left ≡ more = ap rest e in
      when (is_closer (symbol_of t)) (λ is. at_closer t more due nest ts found s some left is n h (matched_from more))
      (λ is. let g = going b nest ts some due (symbol_of t) s is n in
      rw (closing_more b nest ts g.on) (matched_from more (owed_closers (symbol_of t) due) (nest_behind nest ts) (bumped ts) found left g.counts (found_going c due t more found is h)))
    where
      at_closer : (t : Piece) (more : List Piece) (due : List ℕ) (nest : Nest) (ts : Tokens) (found : List Piece) → symbol ts ≡ symbol_of t → is_empty ts ≡ false → (bumped ts).left ≡ more
          → is_closer (symbol_of t) ≡ true → Counts due nest → behind_matching (due ++ c ∷ []) (t ∷ more) ≡ Some found
          → ((due : List ℕ) (nest : Nest) (ts : Tokens) (found : List Piece) → ts.left ≡ more → Counts due nest → behind_matching (due ++ c ∷ []) more ≡ Some found → (behind_closing b (closing b nest ts)).left ≡ found)
          → (behind_closing b (closing b nest ts)).left ≡ found
      at_closer t more [] nest ts found s some left is n h go =
          let f = found_closed c [] t more found is h in
          let same : symbol ts ≡ c = s ∙ f.0 in
          let last : more ≡ found = cc in
          rw (closing_stop b nest ts (ends_at k nest ts some same n.braces n.others), behind_at k ts same) (left ∙ last)
      at_closer t more (d ∷ due) nest ts found s some left is n h go =
          let f = found_closed d (due ++ c ∷ []) t more found is h in
          let g = closed b nest ts some due (symbol_of t) s is (rw f.0 n) in
          rw (closing_more b nest ts g.on) (go due (nest_behind nest ts) (bumped ts) found left g.counts f.1)

behind_some : (o : Option (List Piece)) (left : List Piece) → ((found : List Piece) → o ≡ Some found → left ≡ found) → IfSome o (λ found. left ≡ found)
behind_some None left h = tt
behind_some (Some found) left h = h found refl

-- what no bracket opens is never closed
never : (ts : List Piece) (due : List ℕ) (found : List Piece) → behind_matching (due ++ 0 ∷ []) ts ≡ Some found → ⊥
never [] [] found h = absurd cc
never [] (d ∷ due) found h = absurd cc
never (t ∷ ts) due found h =
    when (is_closer (symbol_of t)) (λ is. at_closer t ts due found is h (never ts)) (λ is. never ts (owed_closers (symbol_of t) due) found (found_going 0 due t ts found is h))
  where
    at_closer : (t : Piece) (ts : List Piece) (due : List ℕ) (found : List Piece) → is_closer (symbol_of t) ≡ true → behind_matching (due ++ 0 ∷ []) (t ∷ ts) ≡ Some found
        → ((due : List ℕ) (found : List Piece) → behind_matching (due ++ 0 ∷ []) ts ≡ Some found → ⊥) → ⊥
    at_closer t ts [] found is h go =
        let same : symbol_of t ≡ 0 = (found_closed 0 [] t ts found is h).0 in
        let none : false ≡ true = rw same at is in absurd cc
    at_closer t ts (d ∷ due) found is h go = go due found (found_closed d (due ++ 0 ∷ []) t ts found is h).1

tree_at : (ts : Tokens) → IfSome (behind_match ts) (λ left. (behind_tree ts).left ≡ left)
unfolding behind_tree behind_closed to_closing
tree_at ts =
    when (is_at_open ts)
    (λ e. rw e (behind_some (behind_matching (closer (symbol ts) ∷ []) (bumped ts).left) _
    (λ found h. when (closer (symbol ts) == 0)
    (λ z. let none : closer (symbol ts) ≡ 0 = eqb-true (closer (symbol ts)) 0 z in absurd (never (bumped ts).left [] found (rw none at h)))
    (λ z. matched_from (symbol ts) (closer (symbol ts)) (bracket_of (symbol ts) z) (bumped ts).left [] no_bracket (bumped ts) found refl (record { braces = refl; others = refl }) h))))
    (λ e. rw e refl)

-- what is left behind a tree
pub tree_matched : (ts us : Tokens) → us ≡ behind_tree ts → IfSome (behind_match ts) (λ left. us.left ≡ left)
tree_matched ts us e = rw e (tree_at ts)
