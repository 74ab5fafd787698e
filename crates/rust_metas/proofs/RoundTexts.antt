-- What the text of round brackets leaves is what is left where they are passed over.
use Rattle.std.proofs.Common.{◌≡◌, ◌≢◌, ◌==◌, ◌&&◌, ◌||◌, ℕ, suc, Bool, true, false, not, Option, None, List, [], ◌∷◌, refl, sym, ap, ◌∙◌, arith}
use Rattle.std.proofs.lemmas.Bool.Decides.{nat_tests}
use Rattle.hir_input.specs.declared.edition.EditionYear.{EditionYear}
use Rattle.rust_lexer.specs.Piece.{Piece}
use Rattle.rust_cursor.specs.Brackets.{behind_closing}
use Rattle.rust_cursor.specs.Extents.{text_taken, tree_text}
use Rattle.rust_cursor.specs.Nests.{braces_behind, closes_other, no_bracket, is_flat, is_mark, opens_other, others_behind}
use Rattle.rust_cursor.specs.declared.cursor.nest.Nest.{Nest}
use Rattle.rust_cursor.proofs.Common.{closing, ends, is_closing, nest_behind, stops, excerpt_behind, taking, to_closing}
use Rattle.rust_cursor.proofs.BraceWalks.{inside_is, outside_is}
use Rattle.rust_cursor.proofs.TokenRests.{closing_empty, from_last, stops_empty, symbol_some}
use Rattle.rust_cursor.proofs.Passing.{braces_of}
use Rattle.rust_cursor.proofs.Scans.{taking_end, taking_more, taking_stop}
use Rattle.rust_cursor.proofs.Steps.{closing_more, closing_stop}
use Rattle.rust_metas.proofs.Common.{Tokens, and_parts, behind_closed, behind_tree, bumped, eqb-true, is_at_open, is_empty, symbol, when}

none_by : (past : ℕ) (left : List Piece) (u : Option ℕ) (y : EditionYear) → (let ts : Tokens = record { past = past; left = left; unended = u; edition = y } in is_empty ts ≡ true → bumped ts ≡ ts)
unfolding is_empty bumped
none_by past [] u y e = refl
none_by past (t ∷ left) u y e = absurd cc

none_behind : (ts : Tokens) → is_empty ts ≡ true → behind_closing 40 ts ≡ ts
none_behind ts e = when (symbol ts == 125) (λ f. rw f refl) (λ f. rw f (none_by ts.past ts.left ts.unended ts.edition e))

-- ---- tests

round_closing : (m : Nest) (ts : Tokens) → is_empty ts ≡ false → is_closing 40 m ts ≡ (m.braces == 0 && (symbol ts == 125 || (m.others == 0 && closes_other (symbol ts))))
unfolding is_closing
round_closing m ts some = when (m.braces == 0) (λ z. when (symbol ts == 125) (λ f. rw (some, z, f) refl) (λ f. rw (some, z, f) refl)) (λ z. rw (some, z) refl)

-- ---- nests

-- the first stands in one bracket more, which is no brace
record OneMore (n m : Nest) : Type 0 where
  braces : n.braces ≡ m.braces
  others : n.others ≡ suc m.others

last_nest : (s : ℕ) → closes_other s ≡ true → (braces_behind 0 s ≡ 0) × (others_behind 1 s ≡ 0)
last_nest s f = when (s == 41) (λ e. rw (eqb-true s 41 e) (refl, refl)) (λ e. let r = rw e at f in rw (eqb-true s 93 r) (refl, refl))

more_others : (j s : ℕ) → (s == 125) ≡ false → (j == 0 && closes_other s) ≡ false → others_behind (suc j) s ≡ suc (others_behind j s)
more_others j s f c =
    when (opens_other s) (λ e. rw e (omega arith))
    (λ e. when (closes_other s)
    (λ g. let some : (j == 0) ≡ false = when (j == 0) (λ z. absurd (let no = rw (z, g) at c in cc)) (λ z. z) in
    let above : j ≢ 0 = grind (arith, nat_tests) in
    rw (e, g) (omega arith))
    (λ g. rw (e, g, f) refl))

others_flat : (n : Nest) (ts : Tokens) → (n.braces == 0) ≡ true → (nest_behind n ts).others ≡ others_behind n.others (symbol ts)
others_flat n ts e = ap (λ (k : Nest). k.others) (outside_is n ts e)

others_deep : (n : Nest) (ts : Tokens) → (n.braces == 0) ≡ false → (nest_behind n ts).others ≡ n.others
others_deep n ts e = ap (λ (k : Nest). k.others) (inside_is n ts e)

some_other : (n m : Nest) → OneMore n m → (n.others == 0) ≡ false
some_other n m o = rw o.others (grind (arith, nat_tests))

not_flat : (n m : Nest) → OneMore n m → is_flat n ≡ false
not_flat n m o = when (n.braces == 0) (λ z. rw (z, some_other n m o) refl) (λ z. rw z refl)

next_braces : (n m : Nest) (ts : Tokens) → OneMore n m → (nest_behind n ts).braces ≡ (nest_behind m ts).braces
next_braces n m ts o = braces_of n ts ∙ ap (λ k. braces_behind k (symbol ts)) o.braces ∙ sym (braces_of m ts)

next_deep : (n m : Nest) (ts : Tokens) → OneMore n m → (m.braces == 0) ≡ false → OneMore (nest_behind n ts) (nest_behind m ts)
next_deep n m ts o z = record { braces = next_braces n m ts o; others = others_deep n ts (rw o.braces z) ∙ o.others ∙ sym (ap suc (others_deep m ts z)) }

next_flat : (n m : Nest) (ts : Tokens) → OneMore n m → (m.braces == 0) ≡ true → (symbol ts == 125) ≡ false → (m.others == 0 && closes_other (symbol ts)) ≡ false → OneMore (nest_behind n ts) (nest_behind m ts)
next_flat n m ts o z f c =
    record {
      braces = next_braces n m ts o;
      others = others_flat n ts (rw o.braces z) ∙ ap (λ k. others_behind k (symbol ts)) o.others ∙ more_others m.others (symbol ts) f c ∙ sym (ap suc (others_flat m ts z));
    }

last_flat : (n m : Nest) (ts : Tokens) → OneMore n m → (m.braces == 0) ≡ true → (m.others == 0 && closes_other (symbol ts)) ≡ true → is_flat (nest_behind n ts) ≡ true
last_flat n m ts more z c =
    let parts = and_parts (m.others == 0) (closes_other (symbol ts)) c in
    let last = last_nest (symbol ts) parts.1 in
    let flat_here : n.braces ≡ 0 = more.braces ∙ eqb-true m.braces 0 z in
    let one : n.others ≡ 1 = more.others ∙ ap suc (eqb-true m.others 0 parts.0) in
    let braces : (nest_behind n ts).braces ≡ 0 = braces_of n ts ∙ ap (λ k. braces_behind k (symbol ts)) flat_here ∙ last.0 in
    let others : (nest_behind n ts).others ≡ 0 = others_flat n ts (rw flat_here refl) ∙ ap (λ k. others_behind k (symbol ts)) one ∙ last.1 in
    rw (braces, others) refl

-- ---- texts

-- one that stops and ends as a tree's text does, whose name no other crate knows
module _ (e : _) (stops_by : (n : Nest) (ts : Tokens) → is_empty ts ≡ false → stops e n ts ≡ (n.braces == 0 && (not (n.others == 0) && symbol ts == 125))) (ends_by : (call : Bool) (n : Nest) (ts : Tokens) → ends e call n ts ≡ is_flat n) where
  abbrev Taken : Tokens → Type 0
  Taken ts = (done : List ℕ) (last : ℕ) (o : Option Tokens) (n m : Nest) → OneMore n m → (taking e done last o n ts).1 ≡ behind_closing 40 (closing 40 m ts)

  taken_none : (ts : Tokens) → is_empty ts ≡ true → Taken ts
  taken_none ts empty done last o n m more =
      ap (λ r. r.1) (taking_stop e done last o n ts (stops_empty e n ts empty))
      ∙ sym (ap (behind_closing 40) (closing_stop 40 m ts (closing_empty 40 m ts empty)) ∙ none_behind ts empty)

  taken_on : (ts : Tokens) → Taken (bumped ts) → (done : List ℕ) (last : ℕ) (o : Option Tokens) (n m : Nest) → stops e n ts ≡ false → is_closing 40 m ts ≡ false → OneMore (nest_behind n ts) (nest_behind m ts)
      → (taking e done last o n ts).1 ≡ behind_closing 40 (closing 40 m ts)
  taken_on ts inner done last o n m p c more =
      ap (λ r. r.1) (taking_more e done last o n ts p (ends_by (is_mark n.before) (nest_behind n ts) ts ∙ not_flat (nest_behind n ts) (nest_behind m ts) more))
      ∙ inner _ _ _ (nest_behind n ts) (nest_behind m ts) more ∙ sym (ap (behind_closing 40) (closing_more 40 m ts c))

  taken_some : (ts : Tokens) → is_empty ts ≡ false → Taken (bumped ts) → Taken ts
  taken_some ts some inner done last o n m more =
      let stopping : stops e n ts ≡ (m.braces == 0 && (true && symbol ts == 125)) =
      stops_by n ts some ∙ ap (λ k. k == 0 && (not (n.others == 0) && symbol ts == 125)) more.braces ∙ ap (λ k. m.braces == 0 && (not k && symbol ts == 125)) (some_other n m more) in
      let shutting = round_closing m ts some in
      when (m.braces == 0)
      (λ z. when (symbol ts == 125)
      (λ f. ap (λ r. r.1) (taking_stop e done last o n ts (stopping ∙ rw (z, f) refl)) ∙ sym (ap (behind_closing 40) (closing_stop 40 m ts (shutting ∙ rw (z, f) refl)) ∙ rw f refl))
      (λ f. when (m.others == 0 && closes_other (symbol ts))
      (λ c. ap (λ r. r.1) (taking_end e done last o n ts (stopping ∙ rw (z, f) refl) (ends_by (is_mark n.before) (nest_behind n ts) ts ∙ last_flat n m ts more z c))
      ∙ sym (ap (behind_closing 40) (closing_stop 40 m ts (shutting ∙ rw (z, f, c) refl)) ∙ rw f refl))
      (λ c. taken_on ts inner done last o n m (stopping ∙ rw (z, f) refl) (shutting ∙ rw (z, f, c) refl) (next_flat n m ts more z f c))))
      (λ z. taken_on ts inner done last o n m (stopping ∙ rw z refl) (shutting ∙ rw z refl) (next_deep n m ts more z))

  text_passed : (ts : Tokens) → is_at_open ts ≡ true → (symbol ts == 40) ≡ true → (text_taken e ts).1 ≡ behind_tree ts
  unfolding excerpt_behind behind_tree behind_closed to_closing
  text_passed ts opens round =
      let is : symbol ts ≡ 40 = eqb-true (symbol ts) 40 round in
      let inside : OneMore (nest_behind no_bracket ts) no_bracket = record { braces = braces_of no_bracket ts ∙ ap (braces_behind 0) is; others = others_flat no_bracket ts refl ∙ ap (others_behind 0) is } in
      let goes_on = ends_by (is_mark no_bracket.before) (nest_behind no_bracket ts) ts ∙ not_flat (nest_behind no_bracket ts) no_bracket inside in
      ap (λ r. r.1) (taking_more e [] 0 None no_bracket ts (stops_by no_bracket ts (symbol_some 40 ts (omega arith) round)) goes_on)
      ∙ from_last Taken taken_none taken_some (bumped ts) _ _ _ (nest_behind no_bracket ts) no_bracket inside ∙ sym (rw (opens, is) refl)

-- the text of round brackets leaves what stands behind them
pub round_text : (ts : Tokens) → is_at_open ts ≡ true → (symbol ts == 40) ≡ true → (tree_text ts).1 ≡ behind_tree ts
unfolding stops ends
round_text ts opens round =
    text_passed _ (λ n ts some. when (n.braces == 0) (λ z. rw (some, z) refl) (λ z. rw (some, z) refl)) (λ call n ts. when (is_flat n) (λ f. rw f refl) (λ f. rw f refl)) ts opens round
