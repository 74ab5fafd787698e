-- Walks over tokens beside: what passes over tokens and whole braces comes to tokens beside.
use Rattle.std.proofs.Common.{◌≡◌, ◌≤◌, ◌<◌, ℕ, zero, suc, ◌+◌, ◌==◌, Bool, true, false, Option, Some, List, [], ◌∷◌, ◌++◌, length, refl, ap, ◌∙◌, sym, subst, arith, map, length-append, if◌then◌else◌}
use Rattle.rust_cursor.proofs.Common.{nat_tests, EditionYear, Piece, symbol_of, moved_piece, braces_from, Before, Nest, Tokens, end_of, symbol, is_empty, bumped, behind_braces, nest_inside, nest_behind, Bodies, AreOpen, Beside, ahead, behind}
use Rattle.rust_cursor.proofs.TokenRests.{when}
use Rattle.rust_cursor.proofs.Nesting.{shorter}
use Rattle.rust_cursor.proofs.Views.{beside_twins, symbol_same, next_ahead, next_behind}
use Rattle.rust_cursor.proofs.Tests.{nest_same}
use Rattle.rust_cursor.proofs.BraceWalks.{tokens_at, symbol_at, some_at, bumped_at, inside_is, Deeper, enters, deeper_on, brace_step, Walks, Stays, through}

-- ---- nests that differ in what is counted for problems alone

abbrev pub inner_by : Nest → ℕ → Bool → Nest
inner_by n i t = record { braces = n.braces; others = n.others; free = n.free; angles = n.angles; inner = i; is_torn = t; before = n.before }

alike : (n m : Nest) → m.braces ≡ n.braces → m.others ≡ n.others → m.free ≡ n.free → m.angles ≡ n.angles → m.before ≡ n.before → m ≡ inner_by n m.inner m.is_torn
alike n m b o f a w =
    let i = m.inner in
    let t = m.is_torn in
    ap (λ (k : ℕ). record { braces = k; others = m.others; free = m.free; angles = m.angles; inner = i; is_torn = t; before = m.before }) b
    ∙ ap (λ (k : ℕ). record { braces = n.braces; others = k; free = m.free; angles = m.angles; inner = i; is_torn = t; before = m.before }) o
    ∙ ap (λ (k : ℕ). record { braces = n.braces; others = n.others; free = k; angles = m.angles; inner = i; is_torn = t; before = m.before }) f
    ∙ ap (λ (k : ℕ). record { braces = n.braces; others = n.others; free = n.free; angles = k; inner = i; is_torn = t; before = m.before }) a
    ∙ ap (λ (k : Before). record { braces = n.braces; others = n.others; free = n.free; angles = n.angles; inner = i; is_torn = t; before = k }) w

nest_inner : (n : Nest) (i : ℕ) (t : Bool) (ts : Tokens)
    → nest_behind (inner_by n i t) ts ≡ inner_by (nest_behind n ts) (nest_behind (inner_by n i t) ts).inner (nest_behind (inner_by n i t) ts).is_torn
unfolding nest_behind
nest_inner n i t ts = when (n.braces == 0) (λ e. rw e refl) (λ e. rw e refl)

-- ---- walks

-- Where a walk stops or ends, what it gives there, and that it goes on elsewhere. Of its state only what is seen matters, and in braces that stays.
pub record Walk {S R V : Type 0} (walk : S → Nest → Tokens → R) (step : S → Nest → Tokens → S) (stops : Nest → Tokens → Bool) (ends : Before → Nest → Tokens → Bool)
    (stopped ended : S → Nest → Tokens → R) (seen : S → V) (alike : Bodies → V → V → Type 0) (beside : Bodies → R → R → Type 0) : Type 0 where
  pub stop : (s : S) (n : Nest) (ts : Tokens) → stops n ts ≡ true → walk s n ts ≡ stopped s n ts
  pub end : (s : S) (n : Nest) (ts : Tokens) → stops n ts ≡ false → ends n.before (nest_behind n ts) ts ≡ true → walk s n ts ≡ ended s n ts
  pub more : (s : S) (n : Nest) (ts : Tokens) → stops n ts ≡ false → ends n.before (nest_behind n ts) ts ≡ false → walk s n ts ≡ walk (step s n ts) (nest_behind n ts) (bumped ts)
  pub none : (n : Nest) (ts : Tokens) → is_empty ts ≡ true → stops n ts ≡ true
  pub deep_stops : (n : Nest) (ts : Tokens) → is_empty ts ≡ false → (n.braces == 0) ≡ false → stops n ts ≡ false
  pub deep_ends : (w : Before) (n : Nest) (ts : Tokens) → (n.braces == 0) ≡ false → ends w n ts ≡ false
  pub stops_inner : (n : Nest) (i : ℕ) (t : Bool) (ts : Tokens) → stops (inner_by n i t) ts ≡ stops n ts
  pub ends_inner : (w : Before) (n : Nest) (i : ℕ) (t : Bool) (ts : Tokens) → ends w (inner_by n i t) ts ≡ ends w n ts
  pub stops_beside : (b : Bodies) (n : Nest) (ts us : Tokens) → Beside b ts us → stops n us ≡ stops n ts
  pub ends_beside : (b : Bodies) (w : Before) (n : Nest) (ts us : Tokens) → symbol us ≡ symbol ts → Beside b (bumped ts) (bumped us) → ends w n us ≡ ends w n ts
  pub seen_stays : Stays seen step
  pub seen_beside : (b : Bodies) (s s' : S) (n : Nest) (i : ℕ) (t : Bool) (ts us : Tokens) → alike b (seen s) (seen s') → Beside b ts us → alike b (seen (step s n ts)) (seen (step s' (inner_by n i t) us))
  pub stopped_beside : (b : Bodies) (s s' : S) (n n' : Nest) (ts us : Tokens) → alike b (seen s) (seen s') → Beside b ts us → beside b (stopped s n ts) (stopped s' n' us)
  pub ended_beside : (b : Bodies) (s s' : S) (n n' : Nest) (ts us : Tokens) → alike b (seen s) (seen s') → symbol us ≡ symbol ts → Beside b (bumped ts) (bumped us) → beside b (ended s n ts) (ended s' n' us)

suc_off : (n : Nest) (k : ℕ) → n.braces ≡ suc k → (n.braces == 0) ≡ false
suc_off n k e = grind (arith, nat_tests)

-- braces that match match in others
shifted : (d k j : ℕ) (ms : List Piece) → braces_from k ms ≡ Some j → braces_from (k + d) ms ≡ Some (j + d)
shifted d k j [] e = let same : k ≡ j = cc in ap (λ i. Some (i + d)) same
shifted d k j (t ∷ ms) e = let brace = brace_step t ms k j e in brace.deeper d ∙ shifted d brace.depth j ms brace.rest

pub matched_in : (d : ℕ) (ms : List Piece) → braces_from 0 ms ≡ Some 0 → braces_from d ms ≡ Some d
matched_in d ms e = let same : 0 + d ≡ d = omega arith in subst (λ (k : ℕ). braces_from k ms ≡ Some k) same (shifted d 0 0 ms e)

-- behind a `}`
abbrev closed : Nest → Nest
closed n = record { braces = n.braces; others = n.others; free = n.free; angles = n.angles; inner = 0; is_torn = false; before = if n.braces == 0 then behind_braces n else n.before }

closed_before : (n m : Nest) (ts : Tokens) → Deeper n m (suc n.braces) → symbol ts ≡ 125 → (nest_inside m ts).before ≡ (closed n).before
closed_before n m ts d e =
    when (n.braces == 0)
    (λ z. let one : (m.braces == 1) ≡ true = grind (arith, nat_tests, d.braces) in rw (e, one, z, d.free, d.before) refl)
    (λ z. let more : (m.braces == 1) ≡ false = grind (arith, nat_tests, d.braces) in rw (more, z, d.before) refl)

shut : (n m : Nest) (ts : Tokens) → Deeper n m (suc n.braces) → symbol ts ≡ 125 → nest_behind m ts ≡ inner_by (closed n) (nest_behind m ts).inner (nest_behind m ts).is_torn
shut n m ts d e =
    let k = nest_behind m ts in
    let is : k ≡ nest_inside m ts = inside_is m ts (suc_off m n.braces d.braces) in
    let less : (nest_inside m ts).braces ≡ n.braces = rw e (omega (arith, d.braces)) in
    alike (closed n) k (ap (λ (x : Nest). x.braces) is ∙ less) (ap (λ (x : Nest). x.others) is ∙ d.others) (ap (λ (x : Nest). x.free) is ∙ d.free)
    (ap (λ (x : Nest). x.angles) is ∙ d.angles) (ap (λ (x : Nest). x.before) is ∙ closed_before n m ts d e)

pub nothing : (y : EditionYear) (past : ℕ) (u : Option ℕ) → is_empty (tokens_at y past [] u) ≡ true
unfolding is_empty
nothing y past u = refl

module _ {S R V : Type 0} (rest : S → Nest → Tokens → R) (step : S → Nest → Tokens → S) (stops : Nest → Tokens → Bool) (ends : Before → Nest → Tokens → Bool)
    (stopped ended : S → Nest → Tokens → R) (seen : S → V) (alike : Bodies → V → V → Type 0) (beside : Bodies → R → R → Type 0) (w : Walk rest step stops ends stopped ended seen alike beside) (b : Bodies) where
  walks : Walks rest step
  walks s n ts some e f = w.more s n ts (w.deep_stops n ts some e) (w.deep_ends n.before (nest_behind n ts) ts f)

  record Crosses (s : S) (n : Nest) (ts : Tokens) (left : List Piece) (u : Option ℕ) : Type 0 where
    state : S
    nest : Nest
    past : ℕ
    stays : seen state ≡ seen (step s n ts)
    deeper : Deeper n nest (suc n.braces)
    same : rest s n ts ≡ rest state nest (tokens_at b.edition past left u)

  -- from a `{` at which it does not stop to its `}`
  crosses : (o c : Piece) (ms left : List Piece) (past : ℕ) (u : Option ℕ) (s : S) (n : Nest) → symbol_of o ≡ 123 → braces_from 0 ms ≡ Some 0
      → stops n (tokens_at b.edition past (o ∷ (ms ++ left)) u) ≡ false → Crosses s n (tokens_at b.edition past (o ∷ (ms ++ left)) u) left u
  crosses o c ms left past u s n is m go =
      let ts = tokens_at b.edition past (o ∷ (ms ++ left)) u in
      let deep = enters n ts (symbol_at b.edition past o (ms ++ left) u ∙ is) in
      let all = through rest step walks seen w.seen_stays ms left b.edition (end_of o) n.braces n.braces u (step s n ts) (nest_behind n ts) deep.braces (matched_in n.braces ms m) in
      record {
        state = all.state;
        nest = all.nest;
        past = all.past;
        stays = all.stays;
        deeper = deeper_on n (nest_behind n ts) all.nest (suc n.braces) (suc n.braces) deep all.deeper;
        same = w.more s n ts go (w.deep_ends n.before (nest_behind n ts) ts (suc_off (nest_behind n ts) n.braces deep.braces))
            ∙ ap (rest (step s n ts) (nest_behind n ts)) (bumped_at b.edition past o (ms ++ left) u) ∙ all.same;
      }

  abbrev Steps : ℕ → Type 0
  Steps fuel = (ts us : Tokens) → length ts.left < fuel → Beside b ts us → (s s' : S) (n : Nest) (i : ℕ) (t : Bool) → alike b (seen s) (seen s') → beside b (rest s n ts) (rest s' (inner_by n i t) us)

  -- a token that is none of the braces'
  one : (ts us : Tokens) (s s' : S) (n : Nest) (i : ℕ) (t : Bool) → alike b (seen s) (seen s') → Beside b ts us → Beside b (bumped ts) (bumped us) → is_empty ts ≡ false
      → ((s s' : S) (n : Nest) (i : ℕ) (t : Bool) → alike b (seen s) (seen s') → beside b (rest s n (bumped ts)) (rest s' (inner_by n i t) (bumped us))) → beside b (rest s n ts) (rest s' (inner_by n i t) us)
  one ts us s s' n i t a h next some more =
      let m = nest_behind n ts in
      let m' = nest_behind (inner_by n i t) us in
      let stops' : stops (inner_by n i t) us ≡ stops n ts = w.stops_inner n i t us ∙ w.stops_beside b n ts us h in
      let is : m' ≡ inner_by m (nest_behind (inner_by n i t) ts).inner (nest_behind (inner_by n i t) ts).is_torn = nest_same (beside_twins b) (inner_by n i t) ts us h ∙ nest_inner n i t ts in
      let ends' : ends n.before m' us ≡ ends n.before m ts = ap (λ (k : Nest). ends n.before k us) is ∙ w.ends_inner n.before m _ _ us ∙ w.ends_beside b n.before m ts us (symbol_same b ts us h) next in
      when (stops n ts)
      (λ p. rw (w.stop s n ts p, w.stop s' (inner_by n i t) us (stops' ∙ p)) (w.stopped_beside b s s' n (inner_by n i t) ts us a h))
      (λ p. when (ends n.before m ts)
      (λ q. rw (w.end s n ts p q, w.end s' (inner_by n i t) us (stops' ∙ p) (ends' ∙ q)) (w.ended_beside b s s' n (inner_by n i t) ts us a (symbol_same b ts us h) next))
      (λ q. rw (w.more s n ts p q, w.more s' (inner_by n i t) us (stops' ∙ p) (ends' ∙ q), is) (more _ _ m _ _ (w.seen_beside b s s' n i t ts us a h))))

  -- the braces
  block : (fuel past : ℕ) (r : List Piece) (u u' : Option ℕ) → AreOpen b r → Steps fuel → (let ts = tokens_at b.edition past (b.opening ∷ (b.old ++ moved_piece b.by b.closing ∷ map (moved_piece b.by) r)) u in
      let us = tokens_at b.edition past (b.opening ∷ (b.new ++ moved_piece b.by_new b.closing ∷ map (moved_piece b.by_new) r)) u' in
      length ts.left ≤ fuel → Beside b ts us → (s s' : S) (n : Nest) (i : ℕ) (t : Bool) → alike b (seen s) (seen s') → beside b (rest s n ts) (rest s' (inner_by n i t) us))
  block fuel past r u u' j more le h s s' n i t a =
      let c = b.closing in
      let left = moved_piece b.by c ∷ map (moved_piece b.by) r in
      let left' = moved_piece b.by_new c ∷ map (moved_piece b.by_new) r in
      let ts = tokens_at b.edition past (b.opening ∷ (b.old ++ left)) u in
      let us = tokens_at b.edition past (b.opening ∷ (b.new ++ left')) u' in
      let stops' : stops (inner_by n i t) us ≡ stops n ts = w.stops_inner n i t us ∙ w.stops_beside b n ts us h in
      when (stops n ts)
      (λ p. rw (w.stop s n ts p, w.stop s' (inner_by n i t) us (stops' ∙ p)) (w.stopped_beside b s s' n (inner_by n i t) ts us a h))
      (λ p.
      let one = crosses b.opening c b.old left past u s n b.opens b.old_matched p in
      let two = crosses b.opening c b.new left' past u' s' (inner_by n i t) b.opens b.new_matched (stops' ∙ p) in
      let tc = tokens_at b.edition one.past left u in
      let uc = tokens_at b.edition two.past left' u' in
      let next : Beside b (bumped tc) (bumped uc) = next_behind b one.past two.past c r u u' j.behind in
      let m = nest_behind one.nest tc in
      let m' = nest_behind two.nest uc in
      let shuts : symbol tc ≡ 125 = symbol_at b.edition one.past (moved_piece b.by c) (map (moved_piece b.by) r) u ∙ b.closes in
      let shuts' : symbol uc ≡ 125 = symbol_at b.edition two.past (moved_piece b.by_new c) (map (moved_piece b.by_new) r) u' ∙ b.closes in
      let m_is = shut n one.nest tc one.deeper shuts in
      let m'_is = shut (inner_by n i t) two.nest uc two.deeper shuts' in
      let same : m' ≡ inner_by m m'.inner m'.is_torn = m'_is ∙ ap (λ (k : Nest). inner_by k m'.inner m'.is_torn) (sym m_is) in
      let go = w.deep_stops one.nest tc (some_at b.edition one.past (moved_piece b.by c) (map (moved_piece b.by) r) u) (suc_off one.nest n.braces one.deeper.braces) in
      let go' = w.deep_stops two.nest uc (some_at b.edition two.past (moved_piece b.by_new c) (map (moved_piece b.by_new) r) u') (suc_off two.nest n.braces two.deeper.braces) in
      let ends' : ends two.nest.before m' uc ≡ ends one.nest.before m tc =
      ap (λ (k : Before). ends k m' uc) (two.deeper.before ∙ sym one.deeper.before) ∙ ap (λ (k : Nest). ends one.nest.before k uc) same
      ∙ w.ends_inner one.nest.before m _ _ uc ∙ w.ends_beside b one.nest.before m tc uc (shuts' ∙ sym shuts) next in
      let less = shorter tc (some_at b.edition one.past (moved_piece b.by c) (map (moved_piece b.by) r) u) in
      let long = length-append b.old left in
      let entered : alike b (seen (step s n ts)) (seen (step s' (inner_by n i t) us)) = w.seen_beside b s s' n i t ts us a h in
      let inside : alike b (seen one.state) (seen two.state) = rw (one.stays, two.stays) entered in
      let left_by : alike b (seen (step one.state one.nest tc)) (seen (step two.state two.nest uc)) =
      rw (w.seen_stays one.state one.nest tc (suc_off one.nest n.braces one.deeper.braces), w.seen_stays two.state two.nest uc (suc_off two.nest n.braces two.deeper.braces)) inside in
      rw (one.same, two.same)
      (when (ends one.nest.before m tc)
      (λ q. rw (w.end one.state one.nest tc go q, w.end two.state two.nest uc go' (ends' ∙ q)) (w.ended_beside b one.state two.state one.nest two.nest tc uc inside (shuts' ∙ sym shuts) next))
      (λ q. rw (w.more one.state one.nest tc go q, w.more two.state two.nest uc go' (ends' ∙ q), same) (more (bumped tc) (bumped uc) (omega arith) next _ _ m _ _ left_by))))

  steps : (fuel : ℕ) → Steps fuel
  steps zero ts us le h s s' n i t a = absurd (omega arith)
  steps (suc fuel) ts us le (ahead past [] r u u' f j) s s' n i t a = block fuel past r u u' j (steps fuel) (omega arith) (ahead past [] r u u' f j) s s' n i t a
  steps (suc fuel) ts us le (ahead past (p ∷ x) r u u' f j) s s' n i t a =
      let left = x ++ b.opening ∷ (b.old ++ moved_piece b.by b.closing ∷ map (moved_piece b.by) r) in
      let left' = x ++ b.opening ∷ (b.new ++ moved_piece b.by_new b.closing ∷ map (moved_piece b.by_new) r) in
      let some = some_at b.edition past p left u in
      let less = shorter (tokens_at b.edition past (p ∷ left) u) some in
      let next = next_ahead b past p x r u u' f.1 j in
      one (tokens_at b.edition past (p ∷ left) u) (tokens_at b.edition past (p ∷ left') u') s s' n i t a (ahead past (p ∷ x) r u u' f j) next some
      (λ s s' n i t a. steps fuel (bumped (tokens_at b.edition past (p ∷ left) u)) (bumped (tokens_at b.edition past (p ∷ left') u')) (omega arith) next s s' n i t a)
  steps (suc fuel) ts us le (behind past [] u u' f) s s' n i t a =
      let ts = tokens_at b.edition (past + b.by) [] u in
      let us = tokens_at b.edition (past + b.by_new) [] u' in
      rw (w.stop s n ts (w.none n ts (nothing b.edition (past + b.by) u)), w.stop s' (inner_by n i t) us (w.none (inner_by n i t) us (nothing b.edition (past + b.by_new) u'))) (w.stopped_beside b s s' n (inner_by n i t) ts us a (behind past [] u u' f))
  steps (suc fuel) ts us le (behind past (p ∷ r) u u' f) s s' n i t a =
      let left = map (moved_piece b.by) r in
      let left' = map (moved_piece b.by_new) r in
      let ts = tokens_at b.edition (past + b.by) (moved_piece b.by p ∷ left) u in
      let us = tokens_at b.edition (past + b.by_new) (moved_piece b.by_new p ∷ left') u' in
      let some = some_at b.edition (past + b.by) (moved_piece b.by p) left u in
      let less = shorter ts some in
      let next = next_behind b (past + b.by) (past + b.by_new) p r u u' f.1 in
      one ts us s s' n i t a (behind past (p ∷ r) u u' f) next some (λ s s' n i t a. steps fuel (bumped ts) (bumped us) (omega arith) next s s' n i t a)

  -- the walk comes to tokens beside
  pub walk_beside : (ts us : Tokens) (s s' : S) (n : Nest) (i : ℕ) (t : Bool) → alike b (seen s) (seen s') → Beside b ts us → beside b (rest s n ts) (rest s' (inner_by n i t) us)
  walk_beside ts us s s' n i t a h = steps (suc (length ts.left)) ts us (omega arith) h s s' n i t a
