-- What is left behind tokens that are taken from the front.
use Rattle.std.proofs.Common.{◌≡◌, ◌<◌, ◌==◌, ◌&&◌, ℕ, zero, suc, Bool, true, false, Option, Some, None, List, [], ◌∷◌, length, ⊎_elim, refl, arith, if◌then◌else◌}
use Rattle.rust_cursor.proofs.Common.{cases_Bool, eqb-true, Piece, symbol_of, Before, Nest, Reach, Extent, Tokens, Reader, is_close, word_by, by_first, symbol, word, is_empty, is_at_open, is_at_end, bumped, taken_if, eat, eat_word, is_pair, eat_pair, before_type, no_bracket, is_mark, nest_behind, is_closing, closing, to_closing, behind_closing, behind_closed, behind_tree, progress_from, turns_from, turns, stops, ends, opened_behind, block_at, taking, excerpt_behind, is_reached, is_closed, reach_from, reach_end, behind_angles}
use Rattle.rust_cursor.specs.declared.cursor.generics.Reach.TheVariants as reaches
use Rattle.rust_cursor.proofs.Nesting.{shorter}
use Rattle.rust_cursor.proofs.Steps.{passing, passing_stop, passing_end, passing_more}
use Rattle.rust_cursor.proofs.Scans.{taking_stop, taking_end, taking_more}

-- the second are those that are left of the first when some were taken
pub data LeadsTo : Tokens → Tokens → Type 0 where
  here : {ts : Tokens} → LeadsTo ts ts
  further : {ts us : Tokens} → LeadsTo (bumped ts) us → LeadsTo ts us

pub through : {ts us vs : Tokens} → LeadsTo ts us → LeadsTo us vs → LeadsTo ts vs
through here q = q
through (further p) q = further (through p q)

-- what a reader leaves is left of what it was given
abbrev pub Forwards : {A : Type 0} → Reader A → Type 0
Forwards reader = (ts : Tokens) → LeadsTo ts (reader ts).1

-- by a test
pub when : {A : Type 0} (test : Bool) → (test ≡ true → A) → (test ≡ false → A) → A
when test on off = ⊎_elim on off (cases_Bool test)

-- ---- words

pub bumped_leads : (ts : Tokens) → LeadsTo ts (bumped ts)
bumped_leads ts = further here

taken_leads : (test : Bool) (ts : Tokens) → LeadsTo ts (taken_if test ts).1
taken_leads true ts = bumped_leads ts
taken_leads false ts = here

pub eat_leads : (c : ℕ) → Forwards (eat c)
unfolding eat
eat_leads c ts = taken_leads (symbol ts == c) ts

pub eat_word_leads : (w : List ℕ) → Forwards (eat_word w)
unfolding eat_word
eat_word_leads w ts = taken_leads _ ts

pub eat_pair_leads : (a b : ℕ) → Forwards (eat_pair a b)
unfolding eat_pair
eat_pair_leads a b ts = when (is_pair a b ts) (λ e. rw e (further (bumped_leads _))) (λ e. rw e here)

-- ---- all tokens, from the last to the first

module _ (P : Tokens → Type 0) (none : (ts : Tokens) → is_empty ts ≡ true → P ts) (some : (ts : Tokens) → is_empty ts ≡ false → P (bumped ts) → P ts) where
  from_last_below : (n : ℕ) (ts : Tokens) → length ts.left < n → P ts
  from_last_below zero ts h = absurd (omega arith)
  from_last_below (suc n) ts h =
      when (is_empty ts) (λ e. none ts e)
      (λ e. let less = shorter ts e in some ts e (from_last_below n (bumped ts) (omega arith)))

  pub from_last : (ts : Tokens) → P ts
  from_last ts = from_last_below (suc (length ts.left)) ts (omega arith)

-- ---- brackets

module _ (is_stop : Nest → Tokens → Bool) (is_last : Nest → Bool) where
  passing_next : (ts : Tokens) → is_empty ts ≡ false → ((nest : Nest) → LeadsTo (bumped ts) (passing is_stop is_last nest (bumped ts))) → (nest : Nest) → LeadsTo ts (passing is_stop is_last nest ts)
  passing_next ts some inner nest =
      when (is_stop nest ts) (λ s. rw (passing_stop is_stop is_last nest ts s) here)
      (λ s. when (is_last (nest_behind nest ts)) (λ f. rw (passing_end is_stop is_last nest ts some s f) (bumped_leads ts))
      (λ f. rw (passing_more is_stop is_last nest ts some s f) (further (inner _))))

  pub passing_leads : ((nest : Nest) (ts : Tokens) → is_empty ts ≡ true → is_stop nest ts ≡ true) → (nest : Nest) (ts : Tokens) → LeadsTo ts (passing is_stop is_last nest ts)
  passing_leads none nest ts =
      from_last (λ ts. (nest : Nest) → LeadsTo ts (passing is_stop is_last nest ts)) (λ ts n nest. rw (passing_stop is_stop is_last nest ts (none nest ts n)) here)
      (λ ts n inner. passing_next ts n inner) ts nest

pub closing_empty : (bracket : ℕ) (nest : Nest) (ts : Tokens) → is_empty ts ≡ true → is_closing bracket nest ts ≡ true
unfolding is_closing
closing_empty bracket nest ts n = rw n refl

pub closing_leads : (bracket : ℕ) (nest : Nest) (ts : Tokens) → LeadsTo ts (closing bracket nest ts)
unfolding closing passing
closing_leads bracket nest ts = passing_leads (is_closing bracket) (λ _. false) (closing_empty bracket) nest ts

pub to_closing_leads : (bracket : ℕ) (ts : Tokens) → LeadsTo ts (to_closing bracket ts)
unfolding to_closing
to_closing_leads bracket ts = closing_leads bracket no_bracket ts

pub behind_closing_leads : (bracket : ℕ) (ts : Tokens) → LeadsTo ts (behind_closing bracket ts)
behind_closing_leads bracket ts =
    when (bracket == 123) (λ e. rw e (bumped_leads ts)) (λ e. when (symbol ts == 125) (λ f. rw (e, f) here) (λ f. rw (e, f) (bumped_leads ts)))

pub behind_closed_leads : (bracket : ℕ) (ts : Tokens) → LeadsTo ts (behind_closed bracket ts)
unfolding behind_closed
behind_closed_leads bracket ts = through (to_closing_leads bracket ts) (behind_closing_leads bracket _)

pub behind_tree_leads : (ts : Tokens) → LeadsTo ts (behind_tree ts)
unfolding behind_tree
behind_tree_leads ts = when (is_at_open ts) (λ e. rw e (further (behind_closed_leads _ _))) (λ e. rw e (bumped_leads ts))

-- ---- turns

pub beyond_leads : (past : ℕ) (ts : Tokens) → LeadsTo ts (progress_from past ts)
unfolding progress_from
beyond_leads past ts = when (ts.past == past) (λ e. rw e (behind_tree_leads ts)) (λ e. rw e here)

pub turns_from_leads : {A : Type 0} (ends : Tokens → Bool) (reader : Reader (List A)) → Forwards reader → (n : ℕ) (done : List A) → Forwards (turns_from ends reader n done)
turns_from_leads ends reader r zero done ts = here
turns_from_leads ends reader r (suc n) done ts =
    when (ends ts) (λ e. rw e here) (λ e. rw e (through (r ts) (through (beyond_leads ts.past (reader ts).1) (turns_from_leads ends reader r n _ _))))

pub turns_leads : {A : Type 0} (ends : Tokens → Bool) (reader : Reader (List A)) → Forwards reader → Forwards (turns ends reader)
unfolding turns
turns_leads ends reader r ts = turns_from_leads ends reader r _ _ ts

-- ---- texts

taking_next : (e : Extent) (ts : Tokens) → ((done : List ℕ) (last : ℕ) (opened : Option Tokens) (nest : Nest) → LeadsTo (bumped ts) (taking e done last opened nest (bumped ts)).1)
    → (done : List ℕ) (last : ℕ) (opened : Option Tokens) (nest : Nest) → LeadsTo ts (taking e done last opened nest ts).1
taking_next e ts inner done last opened nest =
    when (stops e nest ts) (λ s. rw (taking_stop e done last opened nest ts s) here)
    (λ s. when (ends e (is_mark nest.before) (nest_behind nest ts) ts) (λ f. rw (taking_end e done last opened nest ts s f) (bumped_leads ts))
    (λ f. rw (taking_more e done last opened nest ts s f) (further (inner _ _ _ _))))

pub stops_empty : (e : Extent) (nest : Nest) (ts : Tokens) → is_empty ts ≡ true → stops e nest ts ≡ true
unfolding stops
stops_empty e nest ts n = rw n refl

pub taking_leads : (e : Extent) (done : List ℕ) (last : ℕ) (opened : Option Tokens) (nest : Nest) → Forwards (taking e done last opened nest)
taking_leads e done last opened nest ts =
    from_last (λ ts. (done : List ℕ) (last : ℕ) (opened : Option Tokens) (nest : Nest) → LeadsTo ts (taking e done last opened nest ts).1)
    (λ ts n done last opened nest. rw (taking_stop e done last opened nest ts (stops_empty e nest ts n)) here) (λ ts n inner. taking_next e ts inner) ts done last opened nest

pub taken_leads_on : (before : Before) (e : Extent) → Forwards (excerpt_behind before e)
unfolding excerpt_behind
taken_leads_on before e ts = taking_leads e _ _ _ _ ts

-- ---- angle brackets

pub reached_empty : (r : Reach) (nest : Nest) (ts : Tokens) → is_empty ts ≡ true → is_reached r nest ts ≡ true
unfolding is_reached
reached_empty r nest ts n = rw n refl

pub reaching_leads : (r : Reach) (nest : Nest) (ts : Tokens) → LeadsTo ts (reach_from r nest ts)
unfolding reach_from passing
reaching_leads r nest ts = passing_leads (is_reached r) (is_closed r) (reached_empty r) nest ts

pub reached_leads : (r : Reach) (ts : Tokens) → LeadsTo ts (reach_end r ts)
unfolding reach_end
reached_leads r ts = reaching_leads r before_type ts

pub behind_angles_leads : (ts : Tokens) → LeadsTo ts (behind_angles ts)
unfolding behind_angles
behind_angles_leads ts = when (symbol ts == 60) (λ e. rw e (reached_leads reaches.Angles ts)) (λ e. rw e here)

-- ---- what takes a token

-- the second are left of the first behind a token at least
pub data Takes : Tokens → Tokens → Type 0 where
  takes : {ts us : Tokens} (t : Tokens) → LeadsTo ts t → is_empty t ≡ false → LeadsTo (bumped t) us → Takes ts us

pub takes_leads : {ts us : Tokens} → Takes ts us → LeadsTo ts us
takes_leads (takes t before some behind) = through before (further behind)

pub takes_behind : {ts us vs : Tokens} → LeadsTo ts us → Takes us vs → Takes ts vs
takes_behind p (takes t before some behind) = takes t (through p before) some behind

pub takes_before : {ts us vs : Tokens} → Takes ts us → LeadsTo us vs → Takes ts vs
takes_before (takes t before some behind) p = takes t before some (through behind p)

no_symbol : (c : ℕ) (left : List Piece) → 0 < c → (by_first 0 symbol_of left == c) ≡ true → by_first true (λ _. false) left ≡ false
no_symbol c [] h e = let none : 0 ≡ c = eqb-true 0 c e in absurd (omega arith)
no_symbol c (t ∷ ts) h e = refl

-- where a symbol comes next, a token does
pub symbol_some : (c : ℕ) (ts : Tokens) → 0 < c → (symbol ts == c) ≡ true → is_empty ts ≡ false
unfolding symbol is_empty
symbol_some c ts h e = no_symbol c ts.left h e

no_end : (left : List Piece) → by_first true is_close left ≡ false → by_first true (λ _. false) left ≡ false
no_end [] e = e
no_end (t ∷ ts) e = refl

-- where no end comes next, a token does
pub end_some : (ts : Tokens) → is_at_end ts ≡ false → is_empty ts ≡ false
unfolding is_at_end is_empty
end_some ts e = no_end ts.left e

no_word : (left : List Piece) → by_first true (λ _. false) left ≡ true → by_first [] (λ t. word_by t.kind t.text) left ≡ []
no_word [] e = refl
no_word (t ∷ ts) e = absurd cc

-- where nothing comes next, no word does
pub word_none : (ts : Tokens) → is_empty ts ≡ true → word ts ≡ []
unfolding is_empty word
word_none ts e = no_word ts.left e

-- ---- the braces that a text ends with

-- braces that were opened: their `{` is a token between what was given and what is left
data IsOpened : Tokens → Tokens → Option Tokens → Type 0 where
  none : {ts us : Tokens} → IsOpened ts us None
  opened_at : {ts us : Tokens} (b : Tokens) → LeadsTo ts b → is_empty b ≡ false → LeadsTo (bumped b) us → IsOpened ts us (Some b)

-- and their `}` is another behind it
pub data HasBlock : Tokens → Tokens → Option Tokens → Type 0 where
  no_block : {ts us : Tokens} → HasBlock ts us None
  block : {ts us : Tokens} (b : Tokens) → LeadsTo ts b → is_empty b ≡ false → Takes (bumped b) us → HasBlock ts us (Some b)

still_opened : (start ts : Tokens) (o : Option Tokens) → IsOpened start ts o → IsOpened start (bumped ts) o
still_opened start ts None none = none
still_opened start ts (Some a) (opened_at b before some behind) = opened_at b before some (through behind (bumped_leads ts))

opened_next : (start : Tokens) (o : Option Tokens) (nest : Nest) (ts : Tokens) → is_empty ts ≡ false → LeadsTo start ts → IsOpened start ts o → IsOpened start (bumped ts) (opened_behind o nest ts)
opened_next start o nest ts some p h = when (nest.braces == 0 && symbol ts == 123) (λ e. rw e (opened_at ts p some here)) (λ e. rw e (still_opened start ts o h))

closed : (start ts : Tokens) (o : Option Tokens) → is_empty ts ≡ false → IsOpened start ts o → HasBlock start (bumped ts) o
closed start ts None some none = no_block
closed start ts (Some a) some (opened_at b before first behind) = block b before first (takes ts behind some here)

no_brace : (c : ℕ) → (c == 125) ≡ true → (c == 123) ≡ false
no_brace c e = let same : c ≡ 125 = eqb-true c 125 e in rw same refl

pub still_same : (o : Option Tokens) (nest : Nest) (ts : Tokens) → (symbol ts == 125) ≡ true → opened_behind o nest ts ≡ o
still_same o nest ts e = let none = no_brace (symbol ts) e in rw none (if_none (nest.braces == 0))
  where
    if_none : (b : Bool) → (if b && false then Some ts else o) ≡ o
    if_none true = refl
    if_none false = refl

block_closed : (start : Tokens) (o : Option Tokens) (nest : Nest) (ts : Tokens) → is_empty ts ≡ false → IsOpened start ts o → HasBlock start (bumped ts) (block_at (opened_behind o nest ts) ts)
block_closed start o nest ts some h = when (symbol ts == 125) (λ e. let same = still_same o nest ts e in rw (e, same) (closed start ts o some h)) (λ e. rw e no_block)

-- what is taken from here on ends with such braces, or with none
abbrev EndsWithBlock : Extent → Tokens → Tokens → Type 0
EndsWithBlock e start ts =
    (done : List ℕ) (last : ℕ) (opened : Option Tokens) (nest : Nest) → LeadsTo start ts → IsOpened start ts opened
    → HasBlock start (taking e done last opened nest ts).1 (taking e done last opened nest ts).0.block

block_next : (e : Extent) (start ts : Tokens) → is_empty ts ≡ false → EndsWithBlock e start (bumped ts) → EndsWithBlock e start ts
block_next e start ts some inner done last opened nest p h =
    when (stops e nest ts) (λ s. rw (taking_stop e done last opened nest ts s) no_block)
    (λ s. when (ends e (is_mark nest.before) (nest_behind nest ts) ts) (λ f. rw (taking_end e done last opened nest ts s f) (block_closed start opened nest ts some h))
    (λ f. rw (taking_more e done last opened nest ts s f) (inner _ _ _ _ (through p (bumped_leads ts)) (opened_next start opened nest ts some p h))))

pub taken_block : (before : Before) (e : Extent) (ts : Tokens) → HasBlock ts (excerpt_behind before e ts).1 (excerpt_behind before e ts).0.block
unfolding excerpt_behind
taken_block before e ts =
    from_last (EndsWithBlock e ts) (λ us n done last opened nest p h. rw (taking_stop e done last opened nest us (stops_empty e nest us n)) no_block)
    (λ us n inner. block_next e ts us n inner) ts _ _ _ _ here none
