-- The `}` of the braces around, up to which tokens lead.
use Rattle.std.proofs.Common.{◌≡◌, ◌≢◌, ◌≤◌, ◌<◌, ℕ, suc, ◌==◌, ◌&&◌, Bool, true, false, Option, List, [], ◌∷◌, refl, ap, ◌∙◌, sym, subst, arith, if◌then◌else◌, not}
use Rattle.rust_cursor.proofs.Common.{eqb-true, nat_tests, EditionYear, Piece, Nest, Tokens, opens, closes, symbol, is_empty, bumped, opens_other, closes_other, braces_behind, others_behind, nest_behind, behind_closing, is_closing, closing, more}
use Rattle.rust_cursor.specs.declared.cursor.nest.Before.TheVariants as befores
use Rattle.rust_cursor.proofs.TokenRests.{closing_leads, LeadsTo, here, further, when, from_last, closing_empty}
use Rattle.rust_cursor.proofs.Steps.{closing_stop, closing_more}
use Rattle.rust_cursor.proofs.TokenPlaces.{IsLaid, behind, taken_behind, at_behind}
use Rattle.rust_cursor.proofs.BraceWalks.{inside_is, outside_is}
use Rattle.rust_cursor.proofs.Passing.{braces_of}

-- in so many braces, and in so many other brackets around them
abbrev pub deep : ℕ → ℕ → Nest
deep k j = record { braces = k; others = j; free = 0; angles = 0; inner = 0; is_torn = false; before = befores.End }

-- What is left from the bracket on that closes one that was opened by this symbol, or the braces around that, where so many more are closed before it.
abbrev pub upto : ℕ → ℕ → ℕ → Tokens → Tokens
upto c k j ts = closing c (deep k j) ts

abbrev pub is_shut : ℕ → ℕ → ℕ → Tokens → Bool
is_shut c k j ts = is_closing c (deep k j) ts

abbrev pub around : ℕ → Tokens → Tokens
around c ts = upto c 0 0 ts

-- ---- steps

closing_by : (c : ℕ) (n : Nest) (ts : Tokens) → is_closing c (deep n.braces n.others) ts ≡ is_closing c n ts
unfolding is_closing
closing_by c n ts = refl

abbrev pub others_next : ℕ → ℕ → ℕ → ℕ
others_next k j s = if k == 0 then others_behind j s else j

pub others_of : (n : Nest) (ts : Tokens) → (nest_behind n ts).others ≡ others_next n.braces n.others (symbol ts)
others_of n ts = when (n.braces == 0) (λ e. ap (λ (m : Nest). m.others) (outside_is n ts e) ∙ rw e refl) (λ e. ap (λ (m : Nest). m.others) (inside_is n ts e) ∙ rw e refl)

pub next_of : (c : ℕ) (n : Nest) (ts : Tokens) → upto c (nest_behind n ts).braces (nest_behind n ts).others (bumped ts) ≡ upto c (braces_behind n.braces (symbol ts)) (others_next n.braces n.others (symbol ts)) (bumped ts)
next_of c n ts = ap (λ k. upto c k (nest_behind n ts).others (bumped ts)) (braces_of n ts) ∙ ap (λ j. upto c (braces_behind n.braces (symbol ts)) j (bumped ts)) (others_of n ts)

-- brackets alone count
closing_any : (c : ℕ) (ts : Tokens) (n : Nest) → closing c n ts ≡ upto c n.braces n.others ts
closing_any c ts n =
    from_last (λ ts. (n : Nest) → closing c n ts ≡ upto c n.braces n.others ts)
    (λ ts e n. closing_stop c n ts (closing_empty c n ts e) ∙ sym (closing_stop c (deep n.braces n.others) ts (closing_empty c (deep n.braces n.others) ts e)))
    (λ ts e inner n. when (is_closing c n ts)
    (λ s. closing_stop c n ts s ∙ sym (closing_stop c (deep n.braces n.others) ts (closing_by c n ts ∙ s)))
    (λ s. closing_more c n ts s ∙ inner (nest_behind n ts) ∙ next_of c n ts ∙ sym (next_of c (deep n.braces n.others) ts)
    ∙ sym (closing_more c (deep n.braces n.others) ts (closing_by c n ts ∙ s) ∙ inner (nest_behind (deep n.braces n.others) ts))))
    ts n

-- a turn that counts brackets alone
pub closing_counted : (c : ℕ) (n m : Nest) (ts ts' all : Tokens) → is_closing c n ts ≡ false → m.braces ≡ (nest_behind n ts).braces → m.others ≡ (nest_behind n ts).others → ts' ≡ bumped ts
    → closing c n ts ≡ all → closing c m ts' ≡ all
closing_counted c n m ts ts' all s b o t told =
    ap (closing c m) t ∙ closing_any c (bumped ts) m ∙ ap (λ k. upto c k m.others (bumped ts)) b ∙ ap (λ j. upto c (nest_behind n ts).braces j (bumped ts)) o
    ∙ sym (closing_any c (bumped ts) (nest_behind n ts)) ∙ sym (closing_more c n ts s) ∙ told

upto_none : (c k j : ℕ) (ts : Tokens) → is_empty ts ≡ true → upto c k j ts ≡ ts
upto_none c k j ts e = closing_stop c (deep k j) ts (closing_empty c (deep k j) ts e)

pub upto_more : (c k j : ℕ) (ts : Tokens) → is_shut c k j ts ≡ false → upto c k j ts ≡ upto c (braces_behind k (symbol ts)) (others_next k j (symbol ts)) (bumped ts)
upto_more c k j ts s = closing_more c (deep k j) ts s ∙ closing_any c (bumped ts) (nest_behind (deep k j) ts) ∙ next_of c (deep k j) ts

none_by : (past : ℕ) (left : List Piece) (u : Option ℕ) (y : EditionYear) → (let ts : Tokens = record { past = past; left = left; unended = u; edition = y } in is_empty ts ≡ true → bumped ts ≡ ts)
unfolding is_empty bumped
none_by past [] u y e = refl
none_by past (t ∷ left) u y e = absurd cc

bumped_none : (ts : Tokens) → is_empty ts ≡ true → bumped ts ≡ ts
bumped_none ts e = none_by ts.past ts.left ts.unended ts.edition e

-- what ends there, if it is a token
pub data Shuts (c k j : ℕ) (ts : Tokens) : Type 0 where
  by_brace : k ≡ 0 → (symbol ts == 125) ≡ true → Shuts c k j ts
  by_other : k ≡ 0 → j ≡ 0 → (c == 123) ≡ false → closes_other (symbol ts) ≡ true → (symbol ts == 125) ≡ false → Shuts c k j ts

other_parts : (a b d : Bool) → (not a && (b && d)) ≡ true → ((a ≡ false) × (b ≡ true)) × (d ≡ true)
other_parts false true true e = ((refl, refl), refl)
other_parts _ _ _ e = absurd cc

shut_at : (c k j : ℕ) (ts : Tokens) → is_empty ts ≡ false → is_shut c k j ts ≡ true → Shuts c k j ts
unfolding is_closing
shut_at c k j ts some s =
    let t = rw some at s in
    when (k == 0)
    (λ z. let u = rw z at t in
    when (symbol ts == 125) (λ f. by_brace (eqb-true k 0 z) f)
    (λ f. let v = rw f at u in let p = other_parts (c == 123) (j == 0) (closes_other (symbol ts)) v in by_other (eqb-true k 0 z) (eqb-true j 0 p.0.1) p.0.0 p.1 f))
    (λ z. absurd (let no = rw z at t in cc))

pub shut_not : (c k j : ℕ) (ts : Tokens) → is_empty ts ≡ false → (Shuts c k j ts → ⊥) → is_shut c k j ts ≡ false
shut_not c k j ts some h = when (is_shut c k j ts) (λ s. absurd (h (shut_at c k j ts some s))) (λ s. s)

pub shut_by_brace : (c j : ℕ) (ts : Tokens) → (symbol ts == 125) ≡ true → is_shut c 0 j ts ≡ true
unfolding is_closing
shut_by_brace c j ts f = when (is_empty ts) (λ e. rw e refl) (λ e. rw (e, f) refl)

shut_by_other : (c : ℕ) (ts : Tokens) → (c == 123) ≡ false → closes_other (symbol ts) ≡ true → is_shut c 0 0 ts ≡ true
unfolding is_closing
shut_by_other c ts g f = when (is_empty ts) (λ e. rw e refl) (λ e. when (symbol ts == 125) (λ h. rw (e, h) refl) (λ h. rw (e, h, g, f) refl))

pub no_shut : {A : Type 0} (c k j : ℕ) (ts : Tokens) → is_shut c k j ts ≡ false → Shuts c k j ts → A
no_shut c k j ts s (by_brace z f) = absurd (let yes = shut_by_brace c j ts f in let no : is_shut c 0 j ts ≡ false = rw z at s in cc)
no_shut c k j ts s (by_other z y g f h) = absurd (let yes = shut_by_other c ts g f in let no : is_shut c 0 0 ts ≡ false = rw (z, y) at s in cc)

-- ---- what is opened less is closed first

-- the first stands in fewer brackets
pub data Under (k j k' j' : ℕ) : Type 0 where
  level : k ≡ k' → j ≤ j' → Under k j k' j'
  deeper : k < k' → Under k j k' j'

shut_under : (c k j k' j' : ℕ) (ts : Tokens) → Under k j k' j' → Shuts c k' j' ts → Shuts c k j ts
shut_under c k j k' j' ts (level e l) (by_brace z f) = by_brace (e ∙ z) f
shut_under c k j k' j' ts (level e l) (by_other z y g f h) = by_other (e ∙ z) (omega arith) g f h
shut_under c k j k' j' ts (deeper l) (by_brace z f) = absurd (omega arith)
shut_under c k j k' j' ts (deeper l) (by_other z y g f h) = absurd (omega arith)

others_le : (k j j' s : ℕ) → j ≤ j' → others_next k j s ≤ others_next k j' s
others_le k j j' s l =
    when (k == 0)
    (λ z. when (opens_other s) (λ e. rw (z, e) (omega arith))
    (λ e. when (closes_other s) (λ f. rw (z, e, f) (omega arith)) (λ f. when (s == 125) (λ g. rw (z, e, f, g) (omega arith)) (λ g. rw (z, e, f, g) l))))
    (λ z. rw z l)

braces_lt : (k k' s : ℕ) → k < k' → (k ≡ 0 → (s == 125) ≡ false) → braces_behind k s < braces_behind k' s
braces_lt k k' s l h =
    when (s == 123) (λ e. rw e (omega arith))
    (λ e. when (s == 125) (λ f. let some : k ≢ 0 = λ z. let no = h z in cc in rw (e, f) (omega arith)) (λ f. rw (e, f) l))

under_next : (c k j k' j' : ℕ) (ts : Tokens) → is_shut c k j ts ≡ false → Under k j k' j'
    → Under (braces_behind k (symbol ts)) (others_next k j (symbol ts)) (braces_behind k' (symbol ts)) (others_next k' j' (symbol ts))
under_next c k j k' j' ts s (level e l) = level (ap (λ m. braces_behind m (symbol ts)) e) (subst (λ (m : ℕ). others_next k j (symbol ts) ≤ others_next m j' (symbol ts)) e (others_le k j j' (symbol ts) l))
under_next c k j k' j' ts s (deeper l) = deeper (braces_lt k k' (symbol ts) l (λ z. when (symbol ts == 125) (λ f. no_shut c k j ts s (by_brace z f)) (λ f. f)))

pub under_leads : (c : ℕ) (ts : Tokens) (k j k' j' : ℕ) → Under k j k' j' → LeadsTo (upto c k j ts) (upto c k' j' ts)
under_leads c ts k j k' j' u =
    from_last (λ ts. (k j k' j' : ℕ) → Under k j k' j' → LeadsTo (upto c k j ts) (upto c k' j' ts))
    (λ ts e k j k' j' u. rw (upto_none c k j ts e) (closing_leads c (deep k' j') ts))
    (λ ts e inner k j k' j' u. when (is_shut c k j ts)
    (λ s. rw (closing_stop c (deep k j) ts s) (closing_leads c (deep k' j') ts))
    (λ s. let s' = shut_not c k' j' ts e (λ h. no_shut c k j ts s (shut_under c k j k' j' ts u h)) in
    rw (upto_more c k j ts s, upto_more c k' j' ts s') (inner _ _ _ _ (under_next c k j k' j' ts s u))))
    ts k j k' j' u

-- in no bracket
pub from_flat : (c k j : ℕ) (ts : Tokens) → LeadsTo (around c ts) (upto c k j ts)
from_flat c k j ts = under_leads c ts 0 0 k j (when (k == 0) (λ z. level (sym (eqb-true k 0 z)) (omega arith)) (λ z. deeper (grind (arith, nat_tests))))

-- it is left of them
pub to_around : (c : ℕ) (ts : Tokens) → LeadsTo ts (around c ts)
to_around c ts = closing_leads c (deep 0 0) ts

-- ---- one token

-- a token that is no bracket
abbrev pub is_plain : ℕ → Bool
is_plain s = not (s == 123) && (not (s == 125) && (not (opens_other s) && not (closes_other s)))

pub record IsPlain (s : ℕ) : Type 0 where
  pub opens_brace : (s == 123) ≡ false
  pub closes_brace : (s == 125) ≡ false
  pub opens : opens_other s ≡ false
  pub closes : closes_other s ≡ false

plain_parts : (a b d e : Bool) → (not a && (not b && (not d && not e))) ≡ true → ((a ≡ false) × (b ≡ false)) × ((d ≡ false) × (e ≡ false))
plain_parts false false false false h = ((refl, refl), (refl, refl))
plain_parts _ _ _ _ h = absurd cc

pub plain_of : (s : ℕ) → is_plain s ≡ true → IsPlain s
plain_of s e =
    let p = plain_parts (s == 123) (s == 125) (opens_other s) (closes_other s) e in
    record { opens_brace = p.0.0; closes_brace = p.0.1; opens = p.1.0; closes = p.1.1 }

plain_shuts : {A : Type 0} (c k j : ℕ) (ts : Tokens) → IsPlain (symbol ts) → Shuts c k j ts → A
plain_shuts c k j ts p (by_brace z f) = absurd (let no = p.closes_brace in cc)
plain_shuts c k j ts p (by_other z y g f h) = absurd (let no = p.closes in cc)

pub plain_upto : (c : ℕ) (ts : Tokens) → IsPlain (symbol ts) → around c (bumped ts) ≡ around c ts
plain_upto c ts p =
    when (is_empty ts) (λ e. ap (around c) (bumped_none ts e))
    (λ e. let k : braces_behind 0 (symbol ts) ≡ 0 = rw (p.opens_brace, p.closes_brace) refl in
    let j : others_next 0 0 (symbol ts) ≡ 0 = rw (p.opens, p.closes, p.closes_brace) refl in
    sym (upto_more c 0 0 ts (shut_not c 0 0 ts e (plain_shuts c 0 0 ts p)) ∙ ap (λ m. upto c m (others_next 0 0 (symbol ts)) (bumped ts)) k ∙ ap (λ m. upto c 0 m (bumped ts)) j))

-- one that has no symbol
pub plain_around : (c : ℕ) (ts : Tokens) → symbol ts ≡ 0 → around c (bumped ts) ≡ around c ts
plain_around c ts e = plain_upto c ts (subst IsPlain (sym e) (plain_of 0 refl))

pub other_around : (c d : ℕ) (ts : Tokens) → is_plain d ≡ true → (symbol ts == d) ≡ true → around c (bumped ts) ≡ around c ts
other_around c d ts p e = plain_upto c ts (subst IsPlain (sym (eqb-true (symbol ts) d e)) (plain_of d p))

-- ---- out of a bracket

round_at : (c k j s : ℕ) (ts : Tokens) → (k ≡ 0 → j ≡ 0 → closes_other (symbol ts) ≡ false) → (k ≡ 0 → (symbol ts == 125) ≡ false) → others_next k (suc j) (symbol ts) ≡ suc (others_next k j (symbol ts))
round_at c k j s ts h g =
    when (k == 0)
    (λ z. when (opens_other (symbol ts)) (λ e. rw (z, e) (omega arith))
    (λ e. when (closes_other (symbol ts))
    (λ f. let some : j ≢ 0 = λ y. let no = h (eqb-true k 0 z) y in cc in rw (z, e, f) (omega arith))
    (λ f. let i = g (eqb-true k 0 z) in rw (z, e, f, i) refl)))
    (λ z. rw z refl)

-- where one more bracket that is no brace is open
round_shut : {A : Type 0} (c b k j : ℕ) (ts : Tokens) → (b == 123) ≡ false → is_shut b k j ts ≡ false → Shuts c k (suc j) ts → A
round_shut c b k j ts g s (by_brace z f) = no_shut b k j ts s (by_brace z f)
round_shut c b k j ts g s (by_other z y i f h) = absurd (omega arith)

pub out_round : (c b : ℕ) (ts : Tokens) (k j : ℕ) → (b == 123) ≡ false → upto c k (suc j) ts ≡ around c (behind_closing b (upto b k j ts))
out_round c b ts k j g =
    from_last (λ ts. (k j : ℕ) → upto c k (suc j) ts ≡ around c (behind_closing b (upto b k j ts)))
    (λ ts e k j. upto_none c k (suc j) ts e ∙ sym (ap (λ t. around c (behind_closing b t)) (upto_none b k j ts e) ∙ ap (around c) (none_behind ts e) ∙ upto_none c 0 0 ts e))
    (λ ts e inner k j. when (is_shut b k j ts)
    (λ s. at_end ts k j s (shut_at b k j ts e s) e)
    (λ s. let s' = shut_not c k (suc j) ts e (round_shut c b k j ts g s) in
    let same = round_at c k j 0 ts (λ z y. when (closes_other (symbol ts)) (λ f. when (symbol ts == 125) (λ h. no_shut b k j ts s (by_brace z h)) (λ h. no_shut b k j ts s (by_other z y g f h))) (λ f. f))
    (λ z. when (symbol ts == 125) (λ f. no_shut b k j ts s (by_brace z f)) (λ f. f)) in
    upto_more c k (suc j) ts s' ∙ ap (λ m. upto c (braces_behind k (symbol ts)) m (bumped ts)) same ∙ inner (braces_behind k (symbol ts)) (others_next k j (symbol ts))
    ∙ ap (λ t. around c (behind_closing b t)) (sym (upto_more b k j ts s))))
    ts k j
  where
    none_behind : (ts : Tokens) → is_empty ts ≡ true → behind_closing b ts ≡ ts
    none_behind ts e = when (symbol ts == 125) (λ f. rw (g, f) refl) (λ f. rw (g, f) (bumped_none ts e))

    at_end : (ts : Tokens) (k j : ℕ) → is_shut b k j ts ≡ true → Shuts b k j ts → is_empty ts ≡ false → upto c k (suc j) ts ≡ around c (behind_closing b (upto b k j ts))
    at_end ts k j s (by_brace z f) e =
        let closed : is_shut c k (suc j) ts ≡ true = rw z (shut_by_brace c (suc j) ts f) in
        closing_stop c (deep k (suc j)) ts closed ∙ sym (ap (λ t. around c (behind_closing b t)) (closing_stop b (deep k j) ts s) ∙ rw (g, f) (closing_stop c (deep 0 0) ts (shut_by_brace c 0 ts f)))
    at_end ts k j s (by_other z y i f h) e =
        let opened : is_shut c k (suc j) ts ≡ false = shut_not c k (suc j) ts e (not_one ts k j h) in
        let none : opens_other (symbol ts) ≡ false = (closer (symbol ts) f).0 in
        let curly : (symbol ts == 123) ≡ false = (closer (symbol ts) f).1 in
        let ks : braces_behind k (symbol ts) ≡ 0 = rw (z, curly, h) refl in
        let js : others_next k (suc j) (symbol ts) ≡ 0 = rw (z, y, none, f) (omega arith) in
        upto_more c k (suc j) ts opened ∙ ap (λ m. upto c m (others_next k (suc j) (symbol ts)) (bumped ts)) ks ∙ ap (λ m. upto c 0 m (bumped ts)) js
        ∙ sym (ap (λ t. around c (behind_closing b t)) (closing_stop b (deep k j) ts s) ∙ rw (g, h) refl)
      where
        not_one : (ts : Tokens) (k j : ℕ) → (symbol ts == 125) ≡ false → Shuts c k (suc j) ts → ⊥
        not_one ts k j h (by_brace z f) = cc
        not_one ts k j h (by_other z y i f g) = omega arith

        closer : (s : ℕ) → closes_other s ≡ true → (opens_other s ≡ false) × ((s == 123) ≡ false)
        closer s f = when (s == 41) (λ e. rw (eqb-true s 41 e) (refl, refl)) (λ e. let r = rw e at f in rw (eqb-true s 93 r) (refl, refl))

pub one_deeper : (k s : ℕ) → (k ≡ 0 → (s == 125) ≡ false) → braces_behind (suc k) s ≡ suc (braces_behind k s)
one_deeper k s h =
    when (s == 123) (λ e. rw e (omega arith))
    (λ e. when (s == 125) (λ f. let some : k ≢ 0 = λ z. let no = h z in cc in rw (e, f) (omega arith)) (λ f. rw (e, f) refl))

deep_shuts : {A : Type 0} (c k j : ℕ) (ts : Tokens) → Shuts c (suc k) j ts → A
deep_shuts c k j ts (by_brace z f) = absurd (omega arith)
deep_shuts c k j ts (by_other z y g f h) = absurd (omega arith)

frozen : (k s : ℕ) → others_next (suc k) 0 s ≡ 0
frozen k s = let some : (suc k == 0) ≡ false = grind (arith, nat_tests) in rw some refl

-- where a brace is open
pub out_curly : (c : ℕ) (ts : Tokens) (k i : ℕ) → upto c (suc k) 0 ts ≡ around c (bumped (upto 123 k i ts))
out_curly c ts k i =
    from_last (λ ts. (k i : ℕ) → upto c (suc k) 0 ts ≡ around c (bumped (upto 123 k i ts)))
    (λ ts e k i. upto_none c (suc k) 0 ts e ∙ sym (ap (λ t. around c (bumped t)) (upto_none 123 k i ts e) ∙ ap (around c) (bumped_none ts e) ∙ upto_none c 0 0 ts e))
    (λ ts e inner k i. let next = upto_more c (suc k) 0 ts (shut_not c (suc k) 0 ts e (deep_shuts c k 0 ts)) ∙ ap (λ m. upto c (braces_behind (suc k) (symbol ts)) m (bumped ts)) (frozen k (symbol ts)) in
    when (is_shut 123 k i ts)
    (λ s. at_end ts k i s (shut_at 123 k i ts e s) next)
    (λ s. next ∙ ap (λ m. upto c m 0 (bumped ts)) (one_deeper k (symbol ts) (λ z. when (symbol ts == 125) (λ f. no_shut 123 k i ts s (by_brace z f)) (λ f. f)))
    ∙ inner (braces_behind k (symbol ts)) (others_next k i (symbol ts)) ∙ ap (λ t. around c (bumped t)) (sym (upto_more 123 k i ts s))))
    ts k i
  where
    at_end : (ts : Tokens) (k i : ℕ) → is_shut 123 k i ts ≡ true → Shuts 123 k i ts → upto c (suc k) 0 ts ≡ upto c (braces_behind (suc k) (symbol ts)) 0 (bumped ts) → upto c (suc k) 0 ts ≡ around c (bumped (upto 123 k i ts))
    at_end ts k i s (by_brace z f) next =
        let curly : (symbol ts == 123) ≡ false = rw (eqb-true (symbol ts) 125 f) refl in
        let back : braces_behind (suc k) (symbol ts) ≡ 0 = rw (z, curly, f) (omega arith) in
        next ∙ ap (λ m. upto c m 0 (bumped ts)) back ∙ ap (λ t. around c (bumped t)) (sym (closing_stop 123 (deep k i) ts s))
    at_end ts k i s (by_other z y g f h) next = absurd cc

-- ---- where tokens stand

pub still_there : {ts us : Tokens} (end : ℕ) → LeadsTo ts us → IsLaid end ts → us.past ≡ ts.past → us ≡ ts
still_there end here h e = refl
still_there {ts} {us} end (further p) h e =
    when (is_empty ts)
    (λ n. let none = bumped_none ts n in
    let past : (bumped ts).past ≡ ts.past = ap (λ (t : Tokens). t.past) none in
    let laid : IsLaid end (bumped ts) = subst (λ (t : Tokens). IsLaid end t) (sym none) h in
    still_there end p laid (e ∙ sym past) ∙ none)
    (λ n. let laid : IsLaid end (bumped ts) = (behind end (further here) h).laid in
    let strict = taken_behind end ts h n in
    let first = at_behind end ts h in
    let later = (behind end p laid).past in
    absurd (omega (arith, e)))

-- both ways, nothing has moved
same_there : {ts us : Tokens} (end : ℕ) → LeadsTo ts us → LeadsTo us ts → IsLaid end ts → us ≡ ts
same_there end p q h =
    let there = behind end p h in
    let back = behind end q there.laid in
    let first = there.past in
    let second = back.past in
    still_there end p h (omega arith)

-- as many brackets are open there as are closed behind it up to this
pub record Seen (c : ℕ) (t all : Tokens) : Type 0 where
  pub braces : ℕ
  pub others : ℕ
  pub is : upto c braces others t ≡ all

pub seen_at : {ts t : Tokens} (end c : ℕ) → LeadsTo ts t → IsLaid end ts → (k j : ℕ) → LeadsTo t (upto c k j ts) → Seen c t (upto c k j ts)
seen_at end c here h k j q = record { braces = k; others = j; is = refl }
seen_at {ts} {t} end c (further p) h k j q =
    when (is_shut c k j ts)
    (λ s. let stop = closing_stop c (deep k j) ts s in
    let same : t ≡ ts = same_there end (further p) (subst (λ (u : Tokens). LeadsTo t u) stop q) h in
    record { braces = k; others = j; is = ap (upto c k j) same })
    (λ s. let more = upto_more c k j ts s in
    let r = seen_at end c p (behind end (further here) h).laid (braces_behind k (symbol ts)) (others_next k j (symbol ts)) (subst (λ (u : Tokens). LeadsTo t u) more q) in
    record { braces = r.braces; others = r.others; is = r.is ∙ sym more })

-- before the end of a bracket another token may be taken
pub seen_next : (end c : ℕ) (t all : Tokens) → IsLaid end t → Seen c t all → LeadsTo t all → (t ≡ all → ⊥) → LeadsTo (around c (bumped t)) all
seen_next end c t all h s p other =
    when (is_shut c s.braces s.others t)
    (λ e. absurd (other (sym (closing_stop c (deep s.braces s.others) t e) ∙ s.is)))
    (λ e. subst (λ (u : Tokens). LeadsTo (around c (bumped t)) u) (sym (upto_more c s.braces s.others t e) ∙ s.is) (from_flat c (braces_behind s.braces (symbol t)) (others_next s.braces s.others (symbol t)) (bumped t)))
