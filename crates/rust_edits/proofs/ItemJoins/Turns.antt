-- Turns at the top of a text, or between braces: each takes a token, and it does not matter how many more are allowed than there are tokens.
use Rattle.std.proofs.Common.{◌≡◌, ◌≤◌, ◌<◌, ◌+◌, ◌==◌, ℕ, zero, suc, Bool, true, false, Option, Some, None, List, [], ◌++◌, length, refl, sym, ◌∙◌, arith}
use Rattle.rust_edits.proofs.Common.{leaf, LeafRead, leaf_found, option_to_list, ItemView, behind_tree, progress_from, Tokens, symbol, at, is_empty, is_at_open, is_at_end, bumped, Head, FrontRead, front, Found, Finder, BlockRead, leaf_turn, finding_from, is_list_end, by_head, inside, depth_of, turn, eq-eqb, or_parts, ne_eqb, IsLaid, behind, at_behind, LeadsTo, here, further, through, when, behind_closed_leads, behind_tree_leads, beyond_leads, shorter, turn_found, fewer}
use Rattle.rust_items.specs.declared.log.ProblemKind.TheVariants as problem
use Rattle.rust_leaves.specs.declared.head.Head.TheVariants as heads
use Rattle.rust_edits.proofs.ItemJoins.EndingItems.{told, told_problem}
use Rattle.rust_edits.proofs.ItemJoins.Tops.{turn_strict, turn_keeps}
use Rattle.rust_edits.proofs.Typing.ProblemsAlike.{or_none}

-- ---- tokens that are taken

tree_fewer : (ts : Tokens) → is_empty ts ≡ false → length (behind_tree ts).left < length ts.left
unfolding behind_tree
tree_fewer ts some =
    let less = shorter ts some in
    when (is_at_open ts) (λ e. rw e (let rest = fewer (behind_closed_leads (symbol ts) (bumped ts)) in omega arith)) (λ e. rw e (omega arith))

pub beyond_fewer : {ts us : Tokens} → LeadsTo ts us → is_empty ts ≡ false → length (progress_from ts.past us).left < length ts.left
unfolding progress_from
beyond_fewer {ts} here some = let same = eq-eqb ts.past ts.past refl in rw same (tree_fewer ts some)
beyond_fewer {ts} {us} (further p) some =
    let first = shorter ts some in
    let less = fewer p in
    when (us.past == ts.past) (λ e. rw e (let tree = fewer (behind_tree_leads us) in omega arith)) (λ e. rw e (omega arith))

-- where one was taken, no more are passed over
pub beyond_none : (past : ℕ) (ts : Tokens) → (ts.past == past) ≡ false → progress_from past ts ≡ ts
unfolding progress_from
beyond_none past ts e = rw e refl

pub top_is : (ts : Tokens) → is_list_end true ts ≡ is_empty ts
unfolding is_list_end
top_is ts = or_none (is_empty ts)

some_token : (is_top : Bool) (ts : Tokens) → is_list_end is_top ts ≡ false → is_empty ts ≡ false
unfolding is_list_end
some_token is_top ts e = (or_parts (is_empty ts) _ e).0

pub none_empty : (ts : Tokens) → ts.left ≡ [] → is_empty ts ≡ true
unfolding is_empty
none_empty ts e = rw e refl

pub none_end : (is_top : Bool) (ts : Tokens) → ts.left ≡ [] → is_list_end is_top ts ≡ true
unfolding is_list_end
none_end is_top ts e = let none = none_empty ts e in rw none refl

-- ---- turns

abbrev pub run : Bool → ℕ → ℕ → List ItemView → Finder (List ItemView)
run is_top left k done = finding_from (is_list_end is_top) (turn (suc left)) k done

pub run_stop : (is_top : Bool) (left k : ℕ) (done : List ItemView) (f : Found) (ts : Tokens) → is_list_end is_top ts ≡ true → run is_top left k done f ts ≡ (done, (f, ts))
run_stop is_top left zero done f ts e = refl
run_stop is_top left (suc k) done f ts e = rw e refl

pub run_none : (is_top : Bool) (left k : ℕ) (done : List ItemView) (f : Found) (ts : Tokens) → ts.left ≡ [] → run is_top left k done f ts ≡ (done, (f, ts))
run_none is_top left k done f ts e = run_stop is_top left k done f ts (none_end is_top ts e)

-- what is found does not hang on the items before
pub run_done : (is_top : Bool) (left k : ℕ) (done done' : List ItemView) (f : Found) (ts : Tokens) → (run is_top left k done f ts).1 ≡ (run is_top left k done' f ts).1
run_done is_top left zero done done' f ts = refl
run_done is_top left (suc k) done done' f ts =
    let i = option_to_list (turn (suc left) f ts).0 in
    when (is_list_end is_top ts) (λ e. rw e refl) (λ e. rw e (run_done is_top left k (done ++ i) (done' ++ i) (turn (suc left) f ts).1.0 (progress_from ts.past (turn (suc left) f ts).1.1)))

module _ (is_top : Bool) (left end : ℕ) where
  pub turn_leads : (f : Found) (ts : Tokens) → IsLaid end ts → LeadsTo ts (turn (suc left) f ts).1.1
  turn_leads f ts laid = (turn_found end (suc left) f ts laid).leads

  pub next_leads : (f : Found) (ts : Tokens) → IsLaid end ts → LeadsTo ts (progress_from ts.past (turn (suc left) f ts).1.1)
  next_leads f ts laid = through (turn_leads f ts laid) (beyond_leads ts.past (turn (suc left) f ts).1.1)

  pub next_fewer : (f : Found) (ts : Tokens) → IsLaid end ts → is_list_end is_top ts ≡ false → length (progress_from ts.past (turn (suc left) f ts).1.1).left < length ts.left
  next_fewer f ts laid e = beyond_fewer (turn_leads f ts laid) (some_token is_top ts e)

  pub run_same : (j k : ℕ) (done : List ItemView) (f : Found) (ts : Tokens) → IsLaid end ts → length ts.left < j → length ts.left < k → run is_top left j done f ts ≡ run is_top left k done f ts
  run_same zero k done f ts laid a b = absurd (omega arith)
  run_same (suc j) zero done f ts laid a b = absurd (omega arith)
  run_same (suc j) (suc k) done f ts laid a b =
      when (is_list_end is_top ts) (λ e. rw e refl)
      (λ e. let less = next_fewer f ts laid e in
      rw e
      (run_same j k (done ++ option_to_list (turn (suc left) f ts).0) (turn (suc left) f ts).1.0 (progress_from ts.past (turn (suc left) f ts).1.1) (behind end (next_leads f ts laid) laid).laid (omega arith) (omega arith)))

  -- with enough of them it comes to an end
  pub run_ended : (k : ℕ) (done : List ItemView) (f : Found) (ts : Tokens) → IsLaid end ts → length ts.left < k → is_list_end is_top (run is_top left k done f ts).1.1 ≡ true
  run_ended zero done f ts laid a = absurd (omega arith)
  run_ended (suc k) done f ts laid a =
      when (is_list_end is_top ts) (λ e. rw e e)
      (λ e. let less = next_fewer f ts laid e in
      rw e (run_ended k (done ++ option_to_list (turn (suc left) f ts).0) (turn (suc left) f ts).1.0 (progress_from ts.past (turn (suc left) f ts).1.1) (behind end (next_leads f ts laid) laid).laid (omega arith)))

-- ---- where no item is read, a problem is told

leaf_none : (depth start : ℕ) (o : Option LeafRead) (f : Found) (ts : Tokens) → (leaf_found depth start o f ts).0 ≡ None → told f < told (leaf_found depth start o f ts).1.0
leaf_none depth start None f ts e = told_problem problem.NoItem start f
leaf_none depth start (Some l) f ts e = absurd cc

head_none : (inside : Finder BlockRead) (depth : ℕ) (w : Head) (h : FrontRead) (f : Found) (ts : Tokens) → (by_head inside depth w h f ts).0 ≡ None → told f < told (by_head inside depth w h f ts).1.0
unfolding leaf_turn
head_none inside depth heads.Module h f ts e = absurd cc
head_none inside depth heads.ExternBlock h f ts e = absurd cc
head_none inside depth _ h f ts e = leaf_none depth h.start (leaf h ts).0 f (leaf h ts).1 e

pub turn_told : (left : ℕ) (f : Found) (ts : Tokens) → (turn left f ts).0 ≡ None → told f < told (turn left f ts).1.0
unfolding turn
turn_told left f ts e =
    when (is_at_end ts) (λ g. rw g (told_problem problem.Unmatched (at ts) f)) (λ g. rw g (head_none (inside left) (depth_of left) (front ts).0.head (front ts).0 f (front ts).1 (rw g at e)))

-- and where none is told, a token was taken
pub turn_far : (left end : ℕ) (f : Found) (ts : Tokens) → IsLaid end ts → told (turn left f ts).1.0 ≤ told f → ((turn left f ts).1.1.past == ts.past) ≡ false
turn_far left end f ts laid quiet = by (turn left f ts).0 refl
  where
    by : (o : Option ItemView) → (turn left f ts).0 ≡ o → ((turn left f ts).1.1.past == ts.past) ≡ false
    by None e = let more = turn_told left f ts e in absurd (omega arith)
    by (Some i) e = let start = at_behind end ts laid in let less = turn_strict end left f ts i laid e in ne_eqb (turn left f ts).1.1.past ts.past (λ same. absurd (omega arith))

-- no problem that was told goes
pub run_keeps : (is_top : Bool) (left k : ℕ) (done : List ItemView) (f : Found) (ts : Tokens) → told f ≤ told (run is_top left k done f ts).1.0
run_keeps is_top left zero done f ts = omega arith
run_keeps is_top left (suc k) done f ts =
    when (is_list_end is_top ts) (λ e. rw e (omega arith))
    (λ e. let first = turn_keeps (suc left) f ts in
    let more = run_keeps is_top left k (done ++ option_to_list (turn (suc left) f ts).0) (turn (suc left) f ts).1.0 (progress_from ts.past (turn (suc left) f ts).1.1) in
    rw e (omega arith))

-- ---- where the last of what is read has no flaw

pub true_false : {t : Bool} → t ≡ true → t ≡ false → ⊥
true_false e f = absurd (let no : true ≡ false = sym e ∙ f in cc)

-- behind some turns something is left, of which no problem is told
pub data Calm (is_top : Bool) (left : ℕ) : ℕ → List ItemView → Found → Tokens → Type 0 where
  calm : {k : ℕ} {done : List ItemView} {f : Found} {ts : Tokens} → (ts.left ≡ [] → ⊥) → told (run is_top left k done f ts).1.0 ≤ told f → Calm is_top left k done f ts
  later : {k : ℕ} {done : List ItemView} {f : Found} {ts : Tokens} → is_list_end is_top ts ≡ false
      → Calm is_top left k (done ++ option_to_list (turn (suc left) f ts).0) (turn (suc left) f ts).1.0 (progress_from ts.past (turn (suc left) f ts).1.1) → Calm is_top left (suc k) done f ts

pub calm_left : {is_top : Bool} {left k : ℕ} {done : List ItemView} {f : Found} {ts : Tokens} → Calm is_top left k done f ts → ts.left ≡ [] → ⊥
calm_left (calm some quiet) none = some none
calm_left {is_top = is_top} {ts = ts} (later e c) none = true_false (none_end is_top ts none) e

module _ (is_top : Bool) (left end : ℕ) where
  -- one turn on
  pub calm_next : (k : ℕ) (done : List ItemView) (f : Found) (ts : Tokens) → is_list_end is_top ts ≡ false → ((progress_from ts.past (turn (suc left) f ts).1.1).left ≡ [] → ⊥) → Calm is_top left (suc k) done f ts
      → Calm is_top left k (done ++ option_to_list (turn (suc left) f ts).0) (turn (suc left) f ts).1.0 (progress_from ts.past (turn (suc left) f ts).1.1)
  calm_next k done f ts e some (later f' c) = c
  calm_next k done f ts e some (calm first quiet) = let own = turn_keeps (suc left) f ts in let less = rw e at quiet in calm some (omega arith)

  pub calm_by : (n k : ℕ) (done done' : List ItemView) (f : Found) (ts : Tokens) → IsLaid end ts → length ts.left < k → ((run is_top left n done' f ts).1.1.left ≡ [] → ⊥)
      → told (run is_top left k done f ts).1.0 ≤ told (run is_top left n done' f ts).1.0 → (run is_top left k done f ts).1.1.left ≡ [] → Calm is_top left k done f ts
  calm_by zero k done done' f ts laid few some quiet spent = calm some quiet
  calm_by (suc n) zero done done' f ts laid few some quiet spent = absurd (omega arith)
  calm_by (suc n) (suc k) done done' f ts laid few some quiet spent =
      when (is_list_end is_top ts)
      (λ e. absurd ((rw e at some) (rw e at spent)))
      (λ e. let less = next_fewer is_top left end f ts laid e in
      later e
      (calm_by n k (done ++ option_to_list (turn (suc left) f ts).0) (done' ++ option_to_list (turn (suc left) f ts).0) (turn (suc left) f ts).1.0 (progress_from ts.past (turn (suc left) f ts).1.1)
      (behind end (next_leads is_top left end f ts laid) laid).laid (omega arith) (rw e at some) (rw e at quiet) (rw e at spent)))
