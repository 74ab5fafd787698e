-- A text of whole items in a longer one: the longer one is read on from its end.
use Rattle.std.proofs.Common.{◌≤◌, ◌≡◌, ◌<◌, ◌+◌, ◌==◌, ℕ, zero, suc, Bool, true, false, Option, List, [], ◌++◌, length, sym, ap, ◌∙◌, subst, arith, append_assoc, append-nil}
use Rattle.rust_edits.proofs.Common.{at, nothing, beyond_leads, option_to_list, ItemView, progress_from, Tokens, Found, is_list_end, turn, nat_tests, IsLaid, behind, LeadsTo, here, through, when, by_next, Ending, Near, Gone, more_left, past_same, beyond_near, AtEnd, is_still}
use Rattle.rust_cursor.proofs.EndingTokens.{left_behind}
use Rattle.rust_edits.proofs.ItemJoins.EndingParts.{Given, given_on}
use Rattle.rust_edits.proofs.ItemJoins.EndingLeaves.{passes, before_end, at_end}
use Rattle.rust_edits.proofs.ItemJoins.EndingItems.{top_end, FoundNear, told, TurnEnds}
use Rattle.rust_edits.proofs.ItemJoins.EndingTurns.{turn_ends}
use Rattle.rust_edits.proofs.ItemJoins.Turns.{run, run_none, run_same, run_keeps, none_end, next_leads, next_fewer, beyond_none, turn_far, true_false, Calm, calm, later, calm_left, calm_next}

-- what was read of the short text, and in the long one: the same items, and then what stands behind them is read, whatever number of turns is allowed
pub record IsRead (is_top : Bool) (left : ℕ) (b : Ending) (before : Found) (done done' : List ItemView) (f : Found) (ts : Tokens) (r : List ItemView × (Found × Tokens)) : Type 0 where
  pub new : List ItemView
  pub found : Found
  pub rest : Tokens
  pub list : r.0 ≡ done' ++ new
  pub turns : ℕ
  pub exact : (n k : ℕ) → n ≡ turns + k → run is_top left n done f ts ≡ run is_top left k (done ++ new) found rest
  pub long : (j k : ℕ) → length ts.left < j → length rest.left < k → run is_top left j done f ts ≡ run is_top left k (done ++ new) found rest
  pub same : FoundNear b before found r.1.0
  pub ended : is_list_end is_top r.1.1 ≡ true
  pub spent : b.level ≡ false → AtEnd b rest r.1.1
  pub level : b.level ≡ true → Near b rest r.1.1
  pub leads : LeadsTo ts rest

module _ (is_top : Bool) (left : ℕ) (b : Ending) (n m : ℕ) where
  -- nothing more is read
  ended_here : (before : Found) (done done' : List ItemView) (f g : Found) (ts us : Tokens) → IsLaid n ts → FoundNear b before f g → is_list_end is_top us ≡ true → (b.level ≡ false → AtEnd b ts us) → (b.level ≡ true → Near b ts us)
      → IsRead is_top left b before done done' f ts (done', (g, us))
  ended_here before done done' f g ts us laid a ended spent level = record {
    new = [];
    found = f;
    rest = ts;
    list = sym (append-nil done');
    turns = 0;
    exact = λ n k e. ap (λ n. run is_top left n done f ts) (omega arith) ∙ ap (λ d. run is_top left k d f ts) (sym (append-nil done));
    long = λ j k i l. run_same is_top left n j k done f ts laid i l ∙ ap (λ d. run is_top left k d f ts) (sym (append-nil done));
    same = a;
    ended = ended;
    spent = spent;
    level = level;
    leads = here;
  }

  -- one item more
  one_more : (before : Found) (done done' : List ItemView) (f g : Found) (ts : Tokens) (o : Option ItemView) (r : List ItemView × (Found × Tokens)) → IsLaid n ts → is_list_end is_top ts ≡ false → o ≡ (turn (suc left) f ts).0
      → IsRead is_top left b before (done ++ option_to_list (turn (suc left) f ts).0) (done' ++ option_to_list o) (turn (suc left) f ts).1.0 (progress_from ts.past (turn (suc left) f ts).1.1) r
      → IsRead is_top left b before done done' f ts r
  one_more before done done' f g ts o r laid some e h =
      let i = option_to_list (turn (suc left) f ts).0 in
      record {
        new = i ++ h.new;
        found = h.found;
        rest = h.rest;
        list = h.list ∙ append_assoc done' (option_to_list o) h.new ∙ ap (λ p. done' ++ (option_to_list p ++ h.new)) e;
        turns = suc h.turns;
        exact = exact;
        long = long;
        same = h.same;
        ended = h.ended;
        spent = h.spent;
        level = h.level;
        leads = through (next_leads is_top left n f ts laid) h.leads;
      }
    where
      exact : (n k : ℕ) → n ≡ suc h.turns + k → run is_top left n done f ts ≡ run is_top left k (done ++ (option_to_list (turn (suc left) f ts).0 ++ h.new)) h.found h.rest
      exact zero k e = absurd (omega arith)
      exact (suc n) k e = rw some (h.exact n k (omega arith) ∙ ap (λ d. run is_top left k d h.found h.rest) (append_assoc done (option_to_list (turn (suc left) f ts).0) h.new))

      long : (j k : ℕ) → length ts.left < j → length h.rest.left < k → run is_top left j done f ts ≡ run is_top left k (done ++ (option_to_list (turn (suc left) f ts).0 ++ h.new)) h.found h.rest
      long zero k a c = absurd (omega arith)
      long (suc j) k a c =
          let less = next_fewer is_top left n f ts laid some in
          rw some (h.long j k (omega arith) c ∙ ap (λ d. run is_top left k d h.found h.rest) (append_assoc done (option_to_list (turn (suc left) f ts).0) h.new))

by_same : (i j d : ℕ) → (i == j) ≡ false → (i + d == j + d) ≡ false
by_same i j d e = grind (arith, nat_tests)

pub near_some : (b : Ending) (ts us : Tokens) → Near b ts us → b.level ≡ false → us.left ≡ [] → ⊥
near_some b ts us h l none = let more = more_left b ts us l h in let same = ap length (left_behind b ts us h none) in absurd (omega arith)

-- what is known of the short text where the long one goes on behind it
abbrev IsCalm : Bool → ℕ → Ending → ℕ → List ItemView → Found → Tokens → Type 0
IsCalm is_top left b k done f us = b.level ≡ false → (is_still b ≡ true) × (Calm is_top left k done f us × ((run is_top left k done f us).1.1.left ≡ []))

-- it is read on with so many turns at most
abbrev ReadsOnward : Bool → ℕ → Ending → ℕ → ℕ → ℕ → Type 0
ReadsOnward is_top left b n m k =
    (before : Found) (done done' : List ItemView) (f g : Found) (ts us : Tokens) → Given n m ts us → Near b ts us → FoundNear b before f g → length us.left < k → IsCalm is_top left b k done' g us
    → IsRead is_top left b before done done' f ts (run is_top left k done' g us)

-- with one turn more
module _ (is_top : Bool) (left : ℕ) (b : Ending) (n m k : ℕ) (more : ReadsOnward is_top left b n m k) (before : Found) (done done' : List ItemView) (f g : Found) (ts us : Tokens) (given : Given n m ts us) (h : Near b ts us) (few : length us.left < suc k)
    (going : is_list_end is_top us ≡ false) (calms : IsCalm is_top left b (suc k) done' g us) where
  abbrev next : Tokens
  next = progress_from ts.past (turn (suc left) f ts).1.1

  abbrev next' : Tokens
  next' = progress_from us.past (turn (suc left) g us).1.1

  abbrev all' : List ItemView
  all' = done' ++ option_to_list (turn (suc left) g us).0

  abbrev rest : List ItemView × (Found × Tokens)
  rest = run is_top left k all' (turn (suc left) g us).1.0 next'

  some : is_list_end is_top ts ≡ false
  some = sym (top_end is_top b ts us h) ∙ going

  -- where nothing is left behind the turn, no problem was told by it
  last_quiet : Calm is_top left (suc k) done' g us → next'.left ≡ [] → told rest.1.0 ≤ told g
  last_quiet (later e c) none = absurd (calm_left c none)
  last_quiet (calm first quiet) none = rw going at quiet

  none_next : (turn (suc left) g us).1.1.left ≡ [] → next'.left ≡ []
  none_next none = nothing (beyond_leads us.past (turn (suc left) g us).1.1) none

  turn_quiet : told rest.1.0 ≤ told g → told (turn (suc left) g us).1.0 ≤ told g
  turn_quiet quiet = let keeps = run_keeps is_top left k all' (turn (suc left) g us).1.0 next' in omega arith

  -- so it took a token
  taken' : told rest.1.0 ≤ told g → next' ≡ (turn (suc left) g us).1.1
  taken' q = beyond_none us.past (turn (suc left) g us).1.1 (turn_far (suc left) m g us given.short.laid (turn_quiet q))

  taken : (turn (suc left) f ts).1.1.past ≡ (turn (suc left) g us).1.1.past + b.by → told rest.1.0 ≤ told g → next ≡ (turn (suc left) f ts).1.1
  taken e q =
      beyond_none ts.past (turn (suc left) f ts).1.1
      (ap (λ z. z == ts.past) e ∙ ap (λ z. (turn (suc left) g us).1.1.past + b.by == z) (past_same b ts us h)
      ∙ by_same (turn (suc left) g us).1.1.past us.past b.by (turn_far (suc left) m g us given.short.laid (turn_quiet q)))

  not_into : Near b (turn (suc left) f ts).1.1 (turn (suc left) g us).1.1 → Gone b next next' → ⊥
  not_into w o = let q = last_quiet (calms o.uneven).1.0 o.none in near_some b _ _ w o.uneven (ap (λ (t : Tokens). t.left) (sym (taken' q)) ∙ o.none)

  still_calm : Near b next next' → IsCalm is_top left b k all' (turn (suc left) g us).1.0 next'
  still_calm close l = let c = calms l in (c.0, (calm_next is_top left m k done' g us going (near_some b next next' close l) c.1.0, rw going at c.1.1))

  stepped : TurnEnds b before g (at ts) (turn (suc left) f ts) (turn (suc left) g us) → IsRead is_top left b before done done' f ts rest
  stepped (passes short uneven none never strict) =
      let c = calms uneven in let q = turn_quiet (last_quiet c.1.0 (none_next none)) in let more_told : told g < told (turn (suc left) g us).1.0 = never c.0 in absurd (omega arith)
  stepped (before_end w) =
      by_next (beyond_near b ts us (turn (suc left) f ts).1.1 (turn (suc left) g us).1.1 h w.rest)
      (λ o. absurd (not_into w.rest o))
      (λ near. let less = next_fewer is_top left m g us given.short.laid going in
      one_more is_top left b n m before done done' f g ts (turn (suc left) g us).0 rest given.laid some w.value.value
      (more before (done ++ option_to_list (turn (suc left) f ts).0) all' (turn (suc left) f ts).1.0 (turn (suc left) g us).1.0 next next'
      (given_on given (next_leads is_top left n f ts given.laid) (next_leads is_top left m g us given.short.laid)) near w.value.found (omega arith) (still_calm near)))
  stepped (at_end t a) =
      let q = last_quiet (calms a.uneven).1.0 (none_next a.none) in
      let next_is = taken a.past q in
      let next_is' = taken' q in
      let none = none_next a.none in
      let laid = (behind n (next_leads is_top left n f ts given.laid) given.laid).laid in
      let spent : AtEnd b next next' = record { behind = ap (λ (t : Tokens). t.left) next_is ∙ a.behind; none = none; past = ap (λ (t : Tokens). t.past) next_is ∙ a.past ∙ ap (λ (t : Tokens). t.past + b.by) (sym next_is'); uneven = a.uneven } in
      one_more is_top left b n m before done done' f g ts (turn (suc left) g us).0 rest given.laid some t.value
      (subst (λ (z : List ItemView × (Found × Tokens)). IsRead is_top left b before (done ++ option_to_list (turn (suc left) f ts).0) all' (turn (suc left) f ts).1.0 next z)
      (sym (run_none is_top left k all' (turn (suc left) g us).1.0 next' none))
      (ended_here is_top left b n m before (done ++ option_to_list (turn (suc left) f ts).0) all' (turn (suc left) f ts).1.0 (turn (suc left) g us).1.0 next next' laid t.found
      (none_end is_top next' none) (λ l. spent) (λ l. absurd (true_false l a.uneven))))

pub read_on : (is_top : Bool) (left : ℕ) (b : Ending) (n m k : ℕ) → ReadsOnward is_top left b n m k
read_on is_top left b n m zero before done done' f g ts us given h a few calms = absurd (omega arith)
read_on is_top left b n m (suc k) before done done' f g ts us given h a few calms =
    when (is_list_end is_top us)
    (λ e. rw e
    (ended_here is_top left b n m before done done' f g ts us given.laid a e
    (λ l. let c = calms l in let none : us.left ≡ [] = rw e at c.1.1 in absurd (calm_left c.1.0 none)) (λ l. h)))
    (λ e. rw e (stepped is_top left b n m k (read_on is_top left b n m k) before done done' f g ts us given h few e calms (turn_ends n m left b before f g ts us given h a)))
