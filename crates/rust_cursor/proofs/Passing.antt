-- What passes over tokens comes to tokens beside: up to brackets, behind angle brackets, and to the end of an item.
use Rattle.std.proofs.Common.{◌≡◌, ℕ, ◌+◌, ◌==◌, ◌&&◌, Bool, true, false, Option, Some, None, List, [], ◌∷◌, ◌++◌, refl, ap, ◌∙◌, sym, arith, map, not}
use Rattle.rust_cursor.proofs.Common.{nat_tests, eqb-true, EditionYear, Piece, symbol_of, moved_piece, braces_from, Before, Nest, Reach, Extent, Tokens, end_of, is_open, symbol, is_empty, is_at_open, bumped, braces_behind, before_type, no_bracket, flat_behind, is_mark, is_whole, nest_behind, ExcerptRead, excerpt, stops, ends, opened_behind, block_at, taking, excerpt_behind, more, is_reached, is_closed, reach_from, reach_end, behind_angles, behind_field, behind_header, is_trait_impl, is_closing, closing, to_closing, behind_closing, behind_closed, behind_tree, progress_from, Bodies, AreOpen, Beside, ahead, behind}
use Rattle.rust_cursor.specs.declared.cursor.generics.Reach.TheVariants as reaches
use Rattle.rust_cursor.specs.declared.cursor.texts.Extent.TheVariants as extents
use Rattle.rust_cursor.proofs.TokenRests.{when, from_last, symbol_some, stops_empty, reached_empty, closing_empty, still_same}
use Rattle.rust_cursor.proofs.Steps.{passing, passing_stop, passing_end, passing_more, some_left, closing_stop, closing_more}
use Rattle.rust_cursor.proofs.Scans.{taking_stop, taking_end, taking_more}
use Rattle.rust_cursor.proofs.Views.{beside_twins, symbol_same, word_same, open_same, not_brace, next_ahead, next_behind, next_none, taken_same, before_same}
use Rattle.rust_cursor.proofs.Tests.{stops_same, ends_same, closing_same, reached_same}
use Rattle.rust_cursor.proofs.BraceWalks.{tokens_at, symbol_at, some_at, bumped_at, brace_step, Stays}
use Rattle.rust_cursor.proofs.Walk.{Walk, inner_by, walk_beside}
use Rattle.rust_cursor.proofs.BraceSteps.{stops_deep}

-- ---- texts

-- what is left of both is beside, if there is something
pub data BothBeside (b : Bodies) : Option Tokens → Option Tokens → Type 0 where
  neither : BothBeside b None None
  both : (ts us : Tokens) → Beside b ts us → BothBeside b (Some ts) (Some us)

-- braces that a text ends with, and what is left behind it
pub record TakenBeside (b : Bodies) (p q : ExcerptRead × Tokens) : Type 0 where
  pub block : BothBeside b p.0.block q.0.block
  pub rest : Beside b p.1 q.1

-- the text, the symbol of the last token, and the braces that were opened
abbrev Taken : Type 0
Taken = List ℕ × (ℕ × Option Tokens)

abbrev seen_of : Taken → Option Tokens
seen_of s = s.1.1

abbrev taking_at : Extent → Taken → Nest → Tokens → ExcerptRead × Tokens
taking_at e s n ts = taking e s.0 s.1.0 s.1.1 n ts

abbrev taking_step : Extent → Taken → Nest → Tokens → Taken
taking_step e s n ts = (more e s.1.0 s.0 ts, (symbol ts, opened_behind s.1.1 n ts))

abbrev taking_ends : Extent → Before → Nest → Tokens → Bool
taking_ends e before n ts = ends e (is_mark before) n ts

abbrev taking_stopped : Extent → Taken → Nest → Tokens → ExcerptRead × Tokens
taking_stopped e s n ts = (excerpt s.0 false None, ts)

abbrev taking_ended : Extent → Taken → Nest → Tokens → ExcerptRead × Tokens
taking_ended e s n ts = (excerpt (more e s.1.0 s.0 ts) (is_whole (nest_behind n ts)) (block_at (opened_behind s.1.1 n ts) ts), bumped ts)

opened_stays : (e : Extent) → Stays seen_of (taking_step e)
opened_stays e s n ts d = rw d refl

opened_beside : (b : Bodies) (o o' : Option Tokens) (n : Nest) (ts us : Tokens) → BothBeside b o o' → Beside b ts us → BothBeside b (opened_behind o n ts) (opened_behind o' n us)
opened_beside b o o' n ts us a h = when (n.braces == 0 && symbol ts == 123) (λ e. rw (symbol_same b ts us h, e) (both ts us h)) (λ e. rw (symbol_same b ts us h, e) a)

block_beside : (b : Bodies) (o o' : Option Tokens) (n n' : Nest) (ts us : Tokens) → BothBeside b o o' → symbol us ≡ symbol ts → BothBeside b (block_at (opened_behind o n ts) ts) (block_at (opened_behind o' n' us) us)
block_beside b o o' n n' ts us a s =
    when (symbol ts == 125)
    (λ e. let f : (symbol us == 125) ≡ true = ap (λ c. c == 125) s ∙ e in rw (still_same o n ts e, still_same o' n' us f, f, e) a)
    (λ e. let f : (symbol us == 125) ≡ false = ap (λ c. c == 125) s ∙ e in rw (f, e) neither)

ends_deep : (e : Extent) (w : Before) (n : Nest) (ts : Tokens) → (n.braces == 0) ≡ false → taking_ends e w n ts ≡ false
unfolding ends
ends_deep e w n ts d = rw d refl

stops_inner : (e : Extent) (n : Nest) (i : ℕ) (t : Bool) (ts : Tokens) → stops e (inner_by n i t) ts ≡ stops e n ts
unfolding stops
stops_inner extents.Tree n i t ts = refl
stops_inner _ n i t ts = refl

ends_inner : (e : Extent) (w : Before) (n : Nest) (i : ℕ) (t : Bool) (ts : Tokens) → taking_ends e w (inner_by n i t) ts ≡ taking_ends e w n ts
unfolding ends
ends_inner e w n i t ts = refl

taking_walk : (e : Extent) → Walk (taking_at e) (taking_step e) (stops e) (taking_ends e) (taking_stopped e) (taking_ended e) seen_of BothBeside TakenBeside
taking_walk e = record {
  stop = λ s n ts p. taking_stop e s.0 s.1.0 s.1.1 n ts p;
  end = λ s n ts p q. taking_end e s.0 s.1.0 s.1.1 n ts p q;
  more = λ s n ts p q. taking_more e s.0 s.1.0 s.1.1 n ts p q;
  none = stops_empty e;
  deep_stops = stops_deep e;
  deep_ends = ends_deep e;
  stops_inner = stops_inner e;
  ends_inner = ends_inner e;
  stops_beside = λ b n ts us h. stops_same (beside_twins b) e n ts us h;
  ends_beside = λ b w n ts us s h. ends_same (beside_twins b) e (is_mark w) n ts us s h;
  seen_stays = opened_stays e;
  seen_beside = λ b s s' n i t ts us a h. opened_beside b s.1.1 s'.1.1 n ts us a h;
  stopped_beside = λ b s s' n n' ts us a h. record { block = neither; rest = h };
  ended_beside = λ b s s' n n' ts us a c h. record { block = block_beside b s.1.1 s'.1.1 n n' ts us a c; rest = h };
}

-- what is left behind an item, a tree or a value, and from the braces on that it ends with
pub taken_both : (b : Bodies) (before : Before) (e : Extent) (ts us : Tokens) → Beside b ts us → TakenBeside b (excerpt_behind before e ts) (excerpt_behind before e us)
unfolding excerpt_behind
taken_both b before e ts us h =
    walk_beside (taking_at e) (taking_step e) (stops e) (taking_ends e) (taking_stopped e) (taking_ended e) seen_of BothBeside TakenBeside (taking_walk e) b ts us
    ([], (0, None)) ([], (0, None)) (flat_behind before) 0 false neither h

-- ---- what stops at the same tokens

abbrev passing_rest : (Nest → Tokens → Bool) → (Nest → Bool) → Unit {0} → Nest → Tokens → Tokens
passing_rest is_stop is_last s n ts = passing is_stop is_last n ts

abbrev same_state : Unit {0} → Nest → Tokens → Unit {0}
same_state s n ts = tt

abbrev nothing_seen : Unit {0} → Unit {0}
nothing_seen s = s

abbrev no_state : Bodies → Unit {0} → Unit {0} → Type 0
no_state b s s' = Unit {0}

abbrev no_more : Unit {0} → Nest → Tokens → Tokens
no_more s n ts = ts

abbrev one_more : Unit {0} → Nest → Tokens → Tokens
one_more s n ts = bumped ts

abbrev last_at : (Nest → Bool) → Before → Nest → Tokens → Bool
last_at is_last w n ts = is_last n

module _ (is_stop : Nest → Tokens → Bool) (is_last : Nest → Bool) (none : (n : Nest) (ts : Tokens) → is_empty ts ≡ true → is_stop n ts ≡ true)
    (deep_stops : (n : Nest) (ts : Tokens) → is_empty ts ≡ false → (n.braces == 0) ≡ false → is_stop n ts ≡ false) (deep_last : (n : Nest) → (n.braces == 0) ≡ false → is_last n ≡ false)
    (stops_inner : (n : Nest) (i : ℕ) (t : Bool) (ts : Tokens) → is_stop (inner_by n i t) ts ≡ is_stop n ts) (last_inner : (n : Nest) (i : ℕ) (t : Bool) → is_last (inner_by n i t) ≡ is_last n)
    (stops_beside : (b : Bodies) (n : Nest) (ts us : Tokens) → Beside b ts us → is_stop n us ≡ is_stop n ts) where
  passing_walk : Walk (passing_rest is_stop is_last) same_state is_stop (last_at is_last) no_more one_more nothing_seen no_state Beside
  passing_walk = record {
    stop = λ s n ts p. passing_stop is_stop is_last n ts p;
    end = λ s n ts p q. passing_end is_stop is_last n ts (some_left is_stop none n ts p) p q;
    more = λ s n ts p q. passing_more is_stop is_last n ts (some_left is_stop none n ts p) p q;
    none = none;
    deep_stops = deep_stops;
    deep_ends = λ w n ts d. deep_last n d;
    stops_inner = stops_inner;
    ends_inner = λ w n i t ts. last_inner n i t;
    stops_beside = stops_beside;
    ends_beside = λ b w n ts us s h. refl;
    seen_stays = λ s n ts d. refl;
    seen_beside = λ b s s' n i t ts us a h. tt;
    stopped_beside = λ b s s' n n' ts us a h. h;
    ended_beside = λ b s s' n n' ts us a c h. h;
  }

  passing_beside : (b : Bodies) (n : Nest) (ts us : Tokens) → Beside b ts us → Beside b (passing is_stop is_last n ts) (passing is_stop is_last (inner_by n 0 false) us)
  passing_beside b n ts us h = walk_beside (passing_rest is_stop is_last) same_state is_stop (last_at is_last) no_more one_more nothing_seen no_state Beside passing_walk b ts us tt tt n 0 false tt h

-- ---- angle brackets

pub reached_deep : (r : Reach) (n : Nest) (ts : Tokens) → is_empty ts ≡ false → (n.braces == 0) ≡ false → is_reached r n ts ≡ false
unfolding is_reached
reached_deep r n ts h d = rw (h, d) refl

closed_deep : (r : Reach) (n : Nest) → (n.braces == 0) ≡ false → is_closed r n ≡ false
unfolding is_closed
closed_deep reaches.Angles n d = rw d refl
closed_deep _ n d = refl

reached_inner : (r : Reach) (n : Nest) (i : ℕ) (t : Bool) (ts : Tokens) → is_reached r (inner_by n i t) ts ≡ is_reached r n ts
unfolding is_reached
reached_inner reaches.Angles n i t ts = refl
reached_inner _ n i t ts = refl

closed_inner : (r : Reach) (n : Nest) (i : ℕ) (t : Bool) → is_closed r (inner_by n i t) ≡ is_closed r n
unfolding is_closed
closed_inner reaches.Angles n i t = refl
closed_inner _ n i t = refl

pub reached_beside : (b : Bodies) (r : Reach) (ts us : Tokens) → Beside b ts us → Beside b (reach_end r ts) (reach_end r us)
unfolding reach_end reach_from passing
reached_beside b r ts us h =
    passing_beside (is_reached r) (is_closed r) (reached_empty r) (reached_deep r) (closed_deep r) (reached_inner r) (closed_inner r) (λ b. reached_same (beside_twins b) r) b before_type ts us h

pub behind_angles_beside : (b : Bodies) (ts us : Tokens) → Beside b ts us → Beside b (behind_angles ts) (behind_angles us)
unfolding behind_angles
behind_angles_beside b ts us h =
    when (symbol ts == 60) (λ e. rw (symbol_same b ts us h, e) (reached_beside b reaches.Angles ts us h)) (λ e. rw (symbol_same b ts us h, e) h)

pub behind_field_beside : (b : Bodies) (ts us : Tokens) → Beside b ts us → Beside b (behind_field ts) (behind_field us)
behind_field_beside b ts us h = reached_beside b reaches.Field ts us h

pub is_trait_impl_same : (b : Bodies) (ts us ts' us' : Tokens) → Beside b ts us → Beside b ts' us' → is_trait_impl us'.past us ≡ is_trait_impl ts'.past ts
unfolding is_trait_impl
is_trait_impl_same b ts us ts' us' h h' =
    let k = reached_beside b reaches.Header ts us h in
    rw (word_same b (behind_header ts) (behind_header us) k, before_same b (behind_header ts) (behind_header us) ts' us' k h') refl

-- ---- brackets

closing_deep : (bracket : ℕ) (n : Nest) (ts : Tokens) → is_empty ts ≡ false → (n.braces == 0) ≡ false → is_closing bracket n ts ≡ false
unfolding is_closing
closing_deep bracket n ts h d = rw (h, d) refl

closing_inner : (bracket : ℕ) (n : Nest) (i : ℕ) (t : Bool) (ts : Tokens) → is_closing bracket (inner_by n i t) ts ≡ is_closing bracket n ts
unfolding is_closing
closing_inner bracket n i t ts = refl

pub to_closing_beside : (b : Bodies) (bracket : ℕ) (ts us : Tokens) → Beside b ts us → Beside b (to_closing bracket ts) (to_closing bracket us)
unfolding to_closing closing passing
to_closing_beside b bracket ts us h =
    passing_beside (is_closing bracket) (λ _. false) (closing_empty bracket) (closing_deep bracket) (λ n d. refl) (closing_inner bracket) (λ n i t. refl) (λ b. closing_same (beside_twins b) bracket) b no_bracket ts us h

both_no : (p q : Bool) → (not p && (q && false)) ≡ true → ⊥
both_no false true e = cc
both_no _ _ e = cc

-- no `{` comes next where it stops
not_open : (bracket : ℕ) (n : Nest) (ts : Tokens) → is_closing bracket n ts ≡ true → (symbol ts == 123) ≡ false
unfolding is_closing
not_open bracket n ts e =
    when (symbol ts == 123)
    (λ f. let is : symbol ts ≡ 123 = grind (arith, nat_tests) in
    let some : is_empty ts ≡ false = symbol_some 123 ts (omega arith) f in
    let h = rw some at e in
    when (n.braces == 0) (λ i. let j = rw (i, is) at h in absurd (both_no (bracket == 123) (n.others == 0) j)) (λ i. absurd (let j = rw i at h in cc)))
    (λ f. f)

to_closing_ends : (bracket : ℕ) (ts : Tokens) → (symbol (to_closing bracket ts) == 123) ≡ false
unfolding to_closing
to_closing_ends bracket ts =
    from_last (λ ts. (n : Nest) → (symbol (closing bracket n ts) == 123) ≡ false)
    (λ ts e n. let p = closing_empty bracket n ts e in rw (closing_stop bracket n ts p) (not_open bracket n ts p))
    (λ ts e inner n. when (is_closing bracket n ts)
    (λ p. rw (closing_stop bracket n ts p) (not_open bracket n ts p))
    (λ p. rw (closing_more bracket n ts p) (inner (nest_behind n ts))))
    ts no_bracket

behind_closing_beside : (b : Bodies) (bracket : ℕ) (ts us : Tokens) → (symbol ts == 123) ≡ false → Beside b ts us → Beside b (behind_closing bracket ts) (behind_closing bracket us)
behind_closing_beside b bracket ts us e h =
    let next = not_brace b ts us h e in
    when (bracket == 123) (λ f. rw f next)
    (λ f. when (symbol ts == 125) (λ g. rw (f, symbol_same b ts us h, g) h) (λ g. rw (f, symbol_same b ts us h, g) next))

pub behind_closed_beside : (b : Bodies) (bracket : ℕ) (ts us : Tokens) → Beside b ts us → Beside b (behind_closed bracket ts) (behind_closed bracket us)
unfolding behind_closed
behind_closed_beside b bracket ts us h = behind_closing_beside b bracket _ _ (to_closing_ends bracket ts) (to_closing_beside b bracket ts us h)

-- ---- trees

pub braces_of : (n : Nest) (ts : Tokens) → (nest_behind n ts).braces ≡ braces_behind n.braces (symbol ts)
unfolding nest_behind
braces_of n ts = when (n.braces == 0) (λ e. let none : n.braces ≡ 0 = eqb-true n.braces 0 e in rw none refl) (λ e. rw e refl)

-- from inside braces to their `}`
record Out (n : Nest) (ts : Tokens) (y : EditionYear) (left : List Piece) (u : Option ℕ) : Type 0 where
  past : ℕ
  is : closing 123 n ts ≡ tokens_at y past left u

shuts_not : (n : Nest) (ts : Tokens) → is_empty ts ≡ false → (n.braces ≡ 0 → (symbol ts == 125) ≡ false) → is_closing 123 n ts ≡ false
unfolding is_closing
shuts_not n ts some f =
    when (n.braces == 0) (λ e. let no_bracket : n.braces ≡ 0 = grind (arith, nat_tests) in rw (some, e, f no_bracket) refl) (λ e. rw (some, e) refl)

shuts_so : (n : Nest) (ts : Tokens) → n.braces ≡ 0 → symbol ts ≡ 125 → is_closing 123 n ts ≡ true
unfolding is_closing
shuts_so n ts e f = when (is_empty ts) (λ g. rw g refl) (λ g. rw (g, e, f) refl)

out : (c : Piece) (ms left : List Piece) (y : EditionYear) (past k : ℕ) (u : Option ℕ) (n : Nest) → symbol_of c ≡ 125 → n.braces ≡ k → braces_from k ms ≡ Some 0 → Out n (tokens_at y past (ms ++ c ∷ left) u) y (c ∷ left) u
out c [] left y past k u n is e f =
    let none : k ≡ 0 = cc in
    record { past = past; is = closing_stop 123 n (tokens_at y past (c ∷ left) u) (shuts_so n _ (e ∙ none) (symbol_at y past c left u ∙ is)) }
out c (t ∷ ms) left y past k u n is e f =
    let ts = tokens_at y past (t ∷ (ms ++ c ∷ left)) u in
    let seen = symbol_at y past t (ms ++ c ∷ left) u in
    let brace = brace_step t ms k 0 f in
    let more = closing_more 123 n ts (shuts_not n ts (some_at y past t (ms ++ c ∷ left) u) (λ z. rw seen (brace.some_open (sym e ∙ z)))) in
    let is_behind = braces_of n ts ∙ ap (braces_behind n.braces) seen ∙ ap (λ j. braces_behind j (symbol_of t)) e ∙ brace.behind in
    let rest = out c ms left y (end_of t) brace.depth u (nest_behind n ts) is is_behind brace.rest in
    record { past = rest.past; is = more ∙ ap (closing 123 (nest_behind n ts)) (bumped_at y past t (ms ++ c ∷ left) u) ∙ rest.is }

block_tree : (b : Bodies) (past : ℕ) (r : List Piece) (u u' : Option ℕ) → AreOpen b r → (let ts = tokens_at b.edition past (b.opening ∷ (b.old ++ moved_piece b.by b.closing ∷ map (moved_piece b.by) r)) u in
    let us = tokens_at b.edition past (b.opening ∷ (b.new ++ moved_piece b.by_new b.closing ∷ map (moved_piece b.by_new) r)) u' in
    Beside b (behind_closed 123 (bumped ts)) (behind_closed 123 (bumped us)))
unfolding behind_closed to_closing
block_tree b past r u u' j =
    let left = moved_piece b.by b.closing ∷ map (moved_piece b.by) r in
    let left' = moved_piece b.by_new b.closing ∷ map (moved_piece b.by_new) r in
    let one = out (moved_piece b.by b.closing) b.old (map (moved_piece b.by) r) b.edition (end_of b.opening) 0 u no_bracket b.closes refl b.old_matched in
    let two = out (moved_piece b.by_new b.closing) b.new (map (moved_piece b.by_new) r) b.edition (end_of b.opening) 0 u' no_bracket b.closes refl b.new_matched in
    rw (bumped_at b.edition past b.opening (b.old ++ left) u, bumped_at b.edition past b.opening (b.new ++ left') u', one.is, two.is) (next_behind b one.past two.past b.closing r u u' j.behind)

-- one token that is not the `{` of the braces
one_tree : (b : Bodies) (ts us : Tokens) → Beside b ts us → Beside b (bumped ts) (bumped us) → Beside b (behind_tree ts) (behind_tree us)
unfolding behind_tree
one_tree b ts us h next =
    when (is_at_open ts)
    (λ e. rw (open_same b ts us h, e, symbol_same b ts us h) (behind_closed_beside b (symbol ts) (bumped ts) (bumped us) next))
    (λ e. rw (open_same b ts us h, e) next)

tree_at : (y : EditionYear) (past : ℕ) (o : Piece) (left : List Piece) (u : Option ℕ) → symbol_of o ≡ 123 → is_open o ≡ true → behind_tree (tokens_at y past (o ∷ left) u) ≡ behind_closed 123 (bumped (tokens_at y past (o ∷ left) u))
unfolding behind_tree is_at_open symbol
tree_at y past o left u s e = rw (e, s) refl

pub behind_tree_beside : (b : Bodies) (ts us : Tokens) → Beside b ts us → Beside b (behind_tree ts) (behind_tree us)
behind_tree_beside b ts us (ahead past [] r u u' i j) =
    rw (tree_at b.edition past b.opening (b.old ++ moved_piece b.by b.closing ∷ map (moved_piece b.by) r) u b.opens b.is_bracket, tree_at b.edition past b.opening (b.new ++ moved_piece b.by_new b.closing ∷ map (moved_piece b.by_new) r) u' b.opens b.is_bracket)
    (block_tree b past r u u' j)
behind_tree_beside b ts us (ahead past (t ∷ x) r u u' i j) = one_tree b ts us (ahead past (t ∷ x) r u u' i j) (next_ahead b past t x r u u' i.1 j)
behind_tree_beside b ts us (behind past [] u u' i) = one_tree b ts us (behind past [] u u' i) (next_none b past u u' i)
behind_tree_beside b ts us (behind past (t ∷ r) u u' i) = one_tree b ts us (behind past (t ∷ r) u u' i) (next_behind b (past + b.by) (past + b.by_new) t r u u' i.1)

-- where nothing was taken, one token or tree is passed over
pub beyond_beside : (b : Bodies) (ts us ts' us' : Tokens) → Beside b ts us → Beside b ts' us' → Beside b (progress_from ts.past ts') (progress_from us.past us')
unfolding progress_from
beyond_beside b ts us ts' us' h h' =
    let same = taken_same b ts us ts' us' h h' in
    when (ts'.past == ts.past) (λ e. rw (same, e) (behind_tree_beside b ts' us' h')) (λ e. rw (same, e) h')
