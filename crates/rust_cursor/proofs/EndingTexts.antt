-- The text of what is left of an item is the same in a text that ends with it, and in a longer one where it ends there too.
use Rattle.std.proofs.Common.{◌≡◌, ◌<◌, ℕ, ◌+◌, ◌-◌, ◌==◌, ◌||◌, ◌&&◌, Bool, true, false, Option, Some, None, List, [], ◌∷◌, ◌++◌, length, refl, ap, ◌∙◌, sym, arith, map, not, if◌then◌else◌}
use Rattle.rust_cursor.proofs.Common.{not-true, EditionYear, moved_piece, Piece, Before, Nest, Extent, ExcerptRead, stops, ends, goes_on, opened_behind, block_at, more, taking, excerpt_behind, tree_text, is_flat, is_mark, nest_behind, Tokens, symbol, at, is_empty, bumped}
use Rattle.rust_cursor.proofs.TokenRests.{when, from_last, stops_empty, taking_leads}
use Rattle.rust_cursor.proofs.Nesting.{shorter}
use Rattle.rust_cursor.proofs.Scans.{taking_stop, taking_end, taking_more, taking_some}
use Rattle.rust_cursor.proofs.EndingTokens.{Ending, Near, near, fewer, nothing, past_same, still_near, at_same, bumped_onward, near_twins}
use Rattle.rust_cursor.proofs.EndingWalks.{near_parting}
use Rattle.rust_cursor.proofs.EndingReaders.{UntilBy, UpTo, AtEnd, is_still, Step, at_last, next, step, Outcome, lost, stays, comes, outcome_until}
use Rattle.rust_cursor.proofs.PartingReaders.{gone, kept, on, Entering, Levels}
use Rattle.rust_cursor.proofs.Tests.{nest_same, stops_same, ends_same, more_same}
use Rattle.rust_cursor.proofs.TwinTokens.{symbol_same}

-- braces that were opened in both
pub data BlockNear (b : Ending) : Option Tokens → Option Tokens → Type 0 where
  no_block : BlockNear b None None
  block : {ts us : Tokens} → Near b ts us → BlockNear b (Some ts) (Some us)

pub record SameText (b : Ending) (r s : ExcerptRead) : Type 0 where
  pub text : s.text ≡ r.text
  pub ended : s.is_ended ≡ r.is_ended
  pub braces : BlockNear b r.block s.block

opened_near : (b : Ending) (o o' : Option Tokens) (n : Nest) (ts us : Tokens) → BlockNear b o o' → Near b ts us → BlockNear b (opened_behind o n ts) (opened_behind o' n us)
opened_near b o o' n ts us k h = when (n.braces == 0 && symbol ts == 123) (λ e. rw (symbol_same (near_twins b) ts us h, e) (block h)) (λ e. rw (symbol_same (near_twins b) ts us h, e) k)

block_near : (b : Ending) (o o' : Option Tokens) (ts us : Tokens) → BlockNear b o o' → Near b ts us → BlockNear b (block_at o ts) (block_at o' us)
block_near b o o' ts us k h = when (symbol ts == 125) (λ e. rw (symbol_same (near_twins b) ts us h, e) k) (λ e. rw (symbol_same (near_twins b) ts us h, e) no_block)

-- nothing goes on behind the end
no_more : (ts : Tokens) → ts.left ≡ [] → goes_on ts ≡ false
unfolding symbol
no_more ts e = rw e refl

-- nor behind it in the long text
still_behind : (b : Ending) (ts : Tokens) → ts.left ≡ b.behind → is_still b ≡ true → goes_on ts ≡ false
unfolding symbol
still_behind b ts e s = rw e (not-true _ s)

-- What ends in the long text with the last token of the short one ends in that. Where nothing goes on behind it, it ends in both or in neither.
pub record EndsSo (b : Ending) (ends_at : Bool → Nest → Tokens → Bool) : Type 0 where
  pub last : (is_call : Bool) (n : Nest) (ts us : Tokens) → Near b ts us → AtEnd b (bumped ts) (bumped us) → ends_at is_call n ts ≡ true → ends_at is_call n us ≡ true
  pub still : (is_call : Bool) (n : Nest) (ts us : Tokens) → Near b ts us → AtEnd b (bumped ts) (bumped us) → is_still b ≡ true → ends_at is_call n us ≡ ends_at is_call n ts

by_symbol : (b : Ending) (f : ℕ → Bool) → EndsSo b (λ is_call n ts. if is_flat n then f (symbol ts) else false)
by_symbol b f = record {
  last = λ is_call n ts us h a e. rw (symbol_same (near_twins b) ts us h) e;
  still = λ is_call n ts us h a s. ap (λ c. if is_flat n then f c else false) (symbol_same (near_twins b) ts us h);
}

flat_item : (s c a g m : Bool) → (s || (c && (not a && (g || m)))) ≡ true → (s || (c && (not a && (g || true)))) ≡ true
flat_item true c a g m e = refl
flat_item false true false true m e = refl
flat_item false true false false m e = refl
flat_item _ _ _ _ m e = absurd cc

abbrev item_ends_at : Bool → Nest → Tokens → Bool
item_ends_at is_call n ts = if is_flat n then symbol ts == 59 || (symbol ts == 125 && (not is_call && (n.angles == 0 || not (goes_on (bumped ts))))) else false

-- items and impls, macros, values, and trees
pub item_so : (b : Ending) → EndsSo b item_ends_at
item_so b = record {
  last = λ is_call n ts us h a f.
      when (is_flat n)
      (λ g. let k = rw g at f in rw (symbol_same (near_twins b) ts us h, no_more (bumped us) a.none, g) (flat_item (symbol ts == 59) (symbol ts == 125) is_call (n.angles == 0) (not (goes_on (bumped ts))) k))
      (λ g. absurd (let k = rw g at f in cc));
  still = λ is_call n ts us h a s.
      when (is_flat n) (λ g. rw (symbol_same (near_twins b) ts us h, no_more (bumped us) a.none, still_behind b (bumped ts) a.behind s, g) refl) (λ g. rw g refl);
}

pub macro_so : (b : Ending) → EndsSo b (λ is_call n ts. if is_flat n then symbol ts == 59 || symbol ts == 125 else false)
macro_so b = by_symbol b (λ c. c == 59 || c == 125)

pub value_so : (b : Ending) → EndsSo b (λ is_call n ts. if is_flat n then symbol ts == 59 else false)
value_so b = by_symbol b (λ c. c == 59)

pub tree_so : (b : Ending) → EndsSo b (λ is_call n ts. if is_flat n then true else false)
tree_so b = by_symbol b (λ c. true)

-- what is ended takes a token
taking_fewer : (e : _) (ts : Tokens) (done : List ℕ) (last : ℕ) (o : Option Tokens) (n : Nest) → (taking e done last o n ts).0.is_ended ≡ true → length (taking e done last o n ts).1.left < length ts.left
taking_fewer e ts done last o n f =
    when (stops e n ts) (λ s. absurd (let g = rw (taking_stop e done last o n ts s) at f in cc))
    (λ s. let less = shorter ts (taking_some e n ts s) in
    when (ends e (is_mark n.before) (nest_behind n ts) ts)
    (λ g. rw (taking_end e done last o n ts s g) (omega arith))
    (λ g. rw (taking_more e done last o n ts s g) (let rest = fewer (taking_leads e (more e last done ts) (symbol ts) (opened_behind o n ts) (nest_behind n ts) (bumped ts)) in omega arith)))

-- nothing is left where the last token is taken
taken_last : (e : _) (done : List ℕ) (last : ℕ) (o : Option Tokens) (n : Nest) (us : Tokens) → stops e n us ≡ false → (bumped us).left ≡ [] → (taking e done last o n us).1.left ≡ []
taken_last e done last o n us s z =
    when (ends e (is_mark n.before) (nest_behind n us) us)
    (λ g. rw (taking_end e done last o n us s g) z)
    (λ g. rw (taking_more e done last o n us s g) (nothing (taking_leads e (more e last done us) (symbol us) (opened_behind o n us) (nest_behind n us) (bumped us)) z))

none_ended : (e : _) (done : List ℕ) (last : ℕ) (o : Option Tokens) (n : Nest) (us : Tokens) → us.left ≡ [] → (taking e done last o n us).0.is_ended ≡ false
unfolding is_empty
none_ended e done last o n us z = ap (λ r. r.0.is_ended) (taking_stop e done last o n us (stops_empty e n us (rw z refl)))

-- and where it is not the end, the text has none
never_last : (b : Ending) (e : _) → EndsSo b (ends e) → (done : List ℕ) (last : ℕ) (o : Option Tokens) (n : Nest) (ts us : Tokens) → Near b ts us → AtEnd b (bumped ts) (bumped us) → stops e n us ≡ false
    → ends e (is_mark n.before) (nest_behind n ts) ts ≡ false → is_still b ≡ true → (taking e done last o n us).0.is_ended ≡ false
never_last b e so done last o n ts us h a s f still =
    let behind = nest_behind n us in
    let same : ends e (is_mark n.before) behind us ≡ false =
    ap (λ (m : Nest). ends e (is_mark n.before) m us) (nest_same (near_twins b) n ts us h) ∙ so.still (is_mark n.before) (nest_behind n ts) ts us h a still ∙ f in
    ap (λ r. r.0.is_ended) (taking_more e done last o n us s same) ∙ none_ended e (more e last done us) (symbol us) (opened_behind o n us) behind (bumped us) a.none

-- ---- texts

past_end : (b : Ending) (e : _) (done : List ℕ) (last : ℕ) (o : Option Tokens) (n : Nest) (ts : Tokens) (q : ExcerptRead × Tokens) → ts.left ≡ b.behind → q.1.left ≡ [] → b.level ≡ false
    → (is_still b ≡ true → q.0.is_ended ≡ false) → Outcome (SameText b) (λ r. r.is_ended) b (taking e done last o n ts) q
past_end b e done last o n ts q same none uneven never =
    let less = fewer (taking_leads e done last o n ts) in
    let long = ap length same in
    lost (record { few = omega arith; none = none; uneven = uneven }) (λ f. let strict = taking_fewer e ts done last o n f in omega arith) never

abbrev Outcomes : Ending → (List ℕ → ℕ → Option Tokens → Nest → Tokens → ExcerptRead × Tokens) → Tokens → Type 0
Outcomes b taking us = (ts : Tokens) (done : List ℕ) (last : ℕ) (o o' : Option Tokens) (n : Nest) → Near b ts us → BlockNear b o o' → Outcome (SameText b) (λ r. r.is_ended) b (taking done last o n ts) (taking done last o' n us)

-- what is the same of both before a token is taken
record TurnNear (b : Ending) (e : Extent) (o o' : Option Tokens) (n : Nest) (ts us : Tokens) : Type 0 where
  goes : stops e n us ≡ false
  nest : nest_behind n us ≡ nest_behind n ts
  opened : BlockNear b (opened_behind o n ts) (opened_behind o' n us)

turn_near : (b : Ending) (e : Extent) (o o' : Option Tokens) (n : Nest) (ts us : Tokens) → BlockNear b o o' → Near b ts us → stops e n ts ≡ false → TurnNear b e o o' n ts us
turn_near b e o o' n ts us k h s = record {
  goes = stops_same (near_twins b) e n ts us h ∙ s;
  nest = nest_same (near_twins b) n ts us h;
  opened = opened_near b o o' n ts us k h;
}

text_next : (b : Ending) (e : _) → EndsSo b (ends e) → (us : Tokens) → Outcomes b (taking e) (bumped us) → (ts : Tokens) (done : List ℕ) (last : ℕ) (o o' : Option Tokens) (n : Nest) → Near b ts us → BlockNear b o o'
    → stops e n ts ≡ false → Step b ts us → Outcome (SameText b) (λ r. r.is_ended) b (taking e done last o n ts) (taking e done last o' n us)
text_next b e so us rest ts done last o o' n h k s (next l) =
    let turn = turn_near b e o o' n ts us k h s in
    let call = is_mark n.before in
    let behind = nest_behind n ts in
    let ends' : ends e call (nest_behind n us) us ≡ ends e call behind ts = ap (λ (m : Nest). ends e call m us) turn.nest ∙ ends_same (near_twins b) e call behind ts us (symbol_same (near_twins b) ts us h) l in
    when (ends e call behind ts)
    (λ f. rw (taking_end e done last o n ts s f, taking_end e done last o' n us turn.goes (ends' ∙ f), turn.nest, more_same (near_twins b) e last done ts us h)
    (stays (record { value = record { text = refl; ended = refl; braces = block_near b _ _ ts us turn.opened h }; rest = l })))
    (λ f. rw (taking_more e done last o n ts s f, taking_more e done last o' n us turn.goes (ends' ∙ f), turn.nest, more_same (near_twins b) e last done ts us h, symbol_same (near_twins b) ts us h)
    (rest (bumped ts) (more e last done ts) (symbol ts) _ _ behind l (rw (symbol_same (near_twins b) ts us h) at turn.opened)))
text_next b e so us rest ts done last o o' n h k s (at_last a) =
    let turn = turn_near b e o o' n ts us k h s in
    let call = is_mark n.before in
    let behind = nest_behind n ts in
    when (ends e call behind ts)
    (λ f. let f' : ends e call (nest_behind n us) us ≡ true = ap (λ (m : Nest). ends e call m us) turn.nest ∙ so.last call behind ts us h a f in
    rw (taking_end e done last o n ts s f, taking_end e done last o' n us turn.goes f', turn.nest, more_same (near_twins b) e last done ts us h)
    (comes (record { text = refl; ended = refl; braces = block_near b _ _ ts us turn.opened h }) a))
    (λ f. rw (taking_more e done last o n ts s f) (past_end b e (more e last done ts) (symbol ts) (opened_behind o n ts) behind (bumped ts) _ a.behind (taken_last e done last o' n us turn.goes a.none) a.uneven (never_last b e so done last o' n ts us h a turn.goes f)))

text_near : (b : Ending) (e : _) → EndsSo b (ends e) → (us : Tokens) → Outcomes b (taking e) us
text_near b e so us =
    from_last (Outcomes b (taking e))
    (λ us none ts done last o o' n h k. let s = stops_empty e n us none in
    rw (taking_stop e done last o' n us s, taking_stop e done last o n ts (sym (stops_same (near_twins b) e n ts us h) ∙ s)) (stays (record { value = record { text = refl; ended = refl; braces = no_block }; rest = h })))
    (λ us some rest ts done last o o' n h k.
    when (stops e n ts)
    (λ s. rw (taking_stop e done last o n ts s, taking_stop e done last o' n us (stops_same (near_twins b) e n ts us h ∙ s)) (stays (record { value = record { text = refl; ended = refl; braces = no_block }; rest = h })))
    (λ s. text_next b e so us rest ts done last o o' n h k s (step b ts us h)))
    us

pub taken_outcome : (b : Ending) (before : Before) (e : _) → EndsSo b (ends e) → (ts us : Tokens) → Near b ts us → Outcome (SameText b) (λ r. r.is_ended) b (excerpt_behind before e ts) (excerpt_behind before e us)
unfolding excerpt_behind
taken_outcome b before e so ts us h = text_near b e so us ts [] 0 None None _ h no_block

-- what is ended takes a token
pub taken_fewer : (before : Before) (e : _) (ts : Tokens) → (excerpt_behind before e ts).0.is_ended ≡ true → length (excerpt_behind before e ts).1.left < length ts.left
unfolding excerpt_behind
taken_fewer before e ts f = taking_fewer e ts [] 0 None _ f

pub taken_until : (b : Ending) (before : Before) (e : _) → EndsSo b (ends e) → (ts us : Tokens) → Near b ts us → UntilBy (SameText b) b (excerpt_behind before e ts) (excerpt_behind before e us)
taken_until b before e so ts us h = outcome_until (taken_outcome b before e so ts us h)

pub tree_text_until : (b : Ending) → UpTo b tree_text tree_text
unfolding ends
tree_text_until b ts us h = by (taken_until b _ _ (tree_so b) ts us h)
  where
    by : {p q : ExcerptRead × Tokens} → UntilBy (SameText b) b p q → UntilBy (λ a c. c ≡ a) b (p.0.text, p.1) (q.0.text, q.1)
    by (gone g) = gone g
    by (kept k) = kept (record { value = k.value.text; rest = k.rest })

-- ---- places so much further on

abbrev pub near_enters : (b : Ending) → Entering (near_parting b)
near_enters b = record { onward = bumped_onward b; text = tree_text_until b; place = λ n m. n ≡ m + b.by; at_place = at_same b }

from_there : (n a' d : ℕ) → n - a' ≡ (n + d) - (a' + d)
from_there n a' d = omega arith

one_further : (b : Ending) (past : ℕ) (t : Piece) (x : List Piece) (u : Option ℕ) (y : EditionYear)
    → (bumped (record { past = past + b.by; left = map (moved_piece b.by) (t ∷ x) ++ b.behind; unended = b.unended; edition = y })).past ≡ (bumped (record { past = past; left = t ∷ x; unended = u; edition = y })).past + b.by
unfolding bumped
one_further b past t x u y = omega arith

-- how far the next token is from an anchor, and its end
start_same : (b : Ending) (a a' : ℕ) (ts us : Tokens) → a ≡ a' + b.by → Near b ts us → at us - a' ≡ at ts - a
start_same b a a' ts us e h = from_there (at us) a' b.by ∙ sym (ap (λ n. n - a) (at_same b ts us h) ∙ ap (λ n. (at us + b.by) - n) e)

pub next_past : (b : Ending) (ts us : Tokens) → Near b ts us → (bumped ts).past ≡ (bumped us).past + b.by
next_past b ts us (near past [] u y e) = past_same b _ _ (still_near b past u y e)
next_past b ts us (near past (t ∷ x) u y e) = one_further b past t x u y

end_same : (b : Ending) (a a' : ℕ) (ts us : Tokens) → a ≡ a' + b.by → Near b ts us → (bumped us).past - a' ≡ (bumped ts).past - a
end_same b a a' ts us e h = from_there (bumped us).past a' b.by ∙ sym (ap (λ n. n - a) (next_past b ts us h) ∙ ap (λ n. ((bumped us).past + b.by) - n) e)

pub near_levels : (b : Ending) → Levels (near_parting b)
near_levels b = record {
  level = λ a a' ts us. (a ≡ a' + b.by) × Near b ts us;
  are = λ a a' ts us h. h.1;
  here = λ ts us h. (at_same b ts us h, h);
  next = λ a a' ts us h f. (h.0, (near_twins b).next ts us h.1 f);
  further = λ a a' ts us vs ws h p k. on (h.0, k);
  start = λ a a' ts us h. start_same b a a' ts us h.0 h.1;
  end = λ a a' ts us h f. end_same b a a' ts us h.0 h.1;
}
