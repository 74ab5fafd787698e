-- What is left of an item stands behind the `}` of the braces that it ends with.
use Rattle.std.proofs.Common.{◌≡◌, ℕ, suc, ◌+◌, ◌-◌, ◌==◌, Bool, true, false, Option, Some, None, List, [], ap, ◌∙◌, sym, subst, arith, if◌then◌else◌}
use Rattle.rust_cursor.proofs.Common.{eqb-true, nat_tests, Before, Nest, Tokens, symbol, is_empty, bumped, braces_behind, is_mark, nest_behind, ExcerptRead, stops, ends, opened_behind, block_at, taking, excerpt_behind, item_rest, impl_rest}
use Rattle.rust_cursor.specs.declared.cursor.nest.Before.TheVariants as befores
use Rattle.rust_cursor.specs.declared.cursor.texts.Extent.TheVariants as extents
use Rattle.rust_cursor.proofs.TokenRests.{LeadsTo, here, further, when, from_last, HasBlock, no_block, block, taken_block, stops_empty}
use Rattle.rust_cursor.proofs.Steps.{closing_stop}
use Rattle.rust_cursor.proofs.Scans.{taking_stop, taking_end, taking_more}
use Rattle.rust_cursor.proofs.Passing.{braces_of}
use Rattle.rust_cursor.proofs.ClosingBrace.{deep, upto, around, others_next, Shuts, by_brace, by_other, shut_by_brace, shut_not, upto_more, one_deeper}

-- what is left of braces that were opened last stands in them
record Inside (j : ℕ) (ts all : Tokens) : Type 0 where
  others : ℕ
  is : upto 123 j others ts ≡ all

abbrev Opened : Option Tokens → Nest → Tokens → Type 0
Opened o n ts = (a : Tokens) → o ≡ Some a → (j : ℕ) → n.braces ≡ suc j → Inside j ts (around 123 (bumped a))

-- what is left of an item stands behind the `}` of its braces, which is there
abbrev Encloses : ExcerptRead × Tokens → Type 0
Encloses r = (a : Tokens) → r.0.block ≡ Some a → LeadsTo (around 123 (bumped a)) r.1 × (is_empty (around 123 (bumped a)) ≡ false)

pub item_open : (n : Nest) (ts : Tokens) → stops extents.Item n ts ≡ false → (n.braces == 0) ≡ true → (symbol ts == 125) ≡ false
unfolding stops
item_open n ts s z = when (symbol ts == 125) (λ f. when (is_empty ts) (λ e. absurd (let no = rw e at s in cc)) (λ e. absurd (let no = rw (e, z, f) at s in cc))) (λ f. f)

item_ends : (is_call : Bool) (n : Nest) (ts : Tokens) → ends extents.Item is_call n ts ≡ true → n.braces ≡ 0
unfolding ends
item_ends is_call n ts q = when (n.braces == 0) (λ z. eqb-true n.braces 0 z) (λ z. absurd (let no = rw z at q in cc))

some_same : (a b : Tokens) → Some a ≡ Some b → a ≡ b
some_same a b e = cc

last_enclosed : (o : Option Tokens) (n : Nest) (ts : Tokens) → Opened o n ts → is_empty ts ≡ false → stops extents.Item n ts ≡ false → (nest_behind n ts).braces ≡ 0 → (a : Tokens) → block_at (opened_behind o n ts) ts ≡ Some a
    → LeadsTo (around 123 (bumped a)) (bumped ts) × (is_empty (around 123 (bumped a)) ≡ false)
last_enclosed o n ts h some p q a e =
    when (symbol ts == 125)
    (λ f. let other : (symbol ts == 123) ≡ false = grind (arith, nat_tests) in
    let deep_in : (n.braces == 0) ≡ false = when (n.braces == 0) (λ z. let no = item_open n ts p z in absurd cc) (λ z. z) in
    let behind_is : braces_behind n.braces (symbol ts) ≡ 0 = sym (braces_of n ts) ∙ q in
    let last : n.braces - 1 ≡ 0 = rw (other, f) at behind_is in
    let one : n.braces ≡ 1 = grind (arith, nat_tests) in
    let is : o ≡ Some a = rw (f, deep_in) at e in
    let in_it = h a is 0 one in
    let here_shut = closing_stop 123 (deep 0 in_it.others) ts (shut_by_brace 123 in_it.others ts f) in
    subst (λ (t : Tokens). LeadsTo t (bumped ts) × (is_empty t ≡ false)) (sym here_shut ∙ in_it.is) (further here, some))
    (λ f. absurd (let none = rw f at e in cc))

brace_only : (k j : ℕ) (ts : Tokens) → (k ≡ 0 → (symbol ts == 125) ≡ false) → Shuts 123 k j ts → ⊥
brace_only k j ts h (by_brace z f) = let no = h z in cc
brace_only k j ts h (by_other z y g f i) = cc

opened_next : (o : Option Tokens) (n : Nest) (ts : Tokens) → Opened o n ts → is_empty ts ≡ false → Opened (opened_behind o n ts) (nest_behind n ts) (bumped ts)
opened_next o n ts h some a e j d =
    let deeper : braces_behind n.braces (symbol ts) ≡ suc j = sym (braces_of n ts) ∙ d in
    when (n.braces == 0)
    (λ z. let flat : n.braces ≡ 0 = eqb-true n.braces 0 z in
    when (symbol ts == 123)
    (λ f. let same : ts ≡ a = some_same ts a (rw (z, f) at e) in
    let one : 0 + 1 ≡ suc j = rw (flat, f) at deeper in
    let first : j ≡ 0 = omega arith in
    rw first (record { others = 0; is = ap (λ (t : Tokens). around 123 (bumped t)) same }))
    (λ f. absurd (let none = rw (flat, f) at deeper in not_deeper (symbol ts == 125) j none)))
    (λ z. let is : o ≡ Some a = rw z at e in
    let in_braces : n.braces ≡ suc (n.braces - 1) = grind (arith, nat_tests) in
    let k = n.braces - 1 in
    let outer = h a is k in_braces in
    let open_here : k ≡ 0 → (symbol ts == 125) ≡ false = λ y. when (symbol ts == 125) (λ f. absurd (out_of_all (symbol ts) k j y f (subst (λ (m : ℕ). braces_behind m (symbol ts) ≡ suc j) in_braces deeper))) (λ f. f) in
    let one_less : suc (braces_behind k (symbol ts)) ≡ suc j = sym (one_deeper k (symbol ts) open_here) ∙ subst (λ (m : ℕ). braces_behind m (symbol ts) ≡ suc j) in_braces deeper in
    let level : braces_behind k (symbol ts) ≡ j = omega arith in
    let open_still = shut_not 123 k outer.others ts some (brace_only k outer.others ts open_here) in
    record {
      others = others_next k outer.others (symbol ts);
      is = ap (λ m. upto 123 m (others_next k outer.others (symbol ts)) (bumped ts)) (sym level) ∙ sym (upto_more 123 k outer.others ts open_still) ∙ outer.is;
    })
  where
    not_deeper : (t : Bool) (j : ℕ) → (if t then 0 - 1 else 0) ≡ suc j → ⊥
    not_deeper true j e = omega arith
    not_deeper false j e = omega arith

    out_of_all : (c k j : ℕ) → k ≡ 0 → (c == 125) ≡ true → braces_behind (suc k) c ≡ suc j → ⊥
    out_of_all c k j y f d =
        let other : (c == 123) ≡ false = grind (arith, nat_tests) in
        let none : suc k - 1 ≡ suc j = rw (other, f) at d in
        omega arith

taken_enclosed : (ts : Tokens) (done : List ℕ) (last : ℕ) (o : Option Tokens) (n : Nest) → Opened o n ts → Encloses (taking extents.Item done last o n ts)
taken_enclosed ts done last o n h =
    from_last (λ ts. (done : List ℕ) (last : ℕ) (o : Option Tokens) (n : Nest) → Opened o n ts → Encloses (taking extents.Item done last o n ts))
    (λ ts e done last o n h. stopped ts done last o n (stops_empty extents.Item n ts e))
    (λ ts e inner done last o n h. when (stops extents.Item n ts)
    (λ p. stopped ts done last o n p)
    (λ p. when (ends extents.Item (is_mark n.before) (nest_behind n ts) ts)
    (λ q. rw (taking_end extents.Item done last o n ts p q) (last_enclosed o n ts h e p (item_ends (is_mark n.before) (nest_behind n ts) ts q)))
    (λ q. rw (taking_more extents.Item done last o n ts p q) (inner _ _ _ _ (opened_next o n ts h e)))))
    ts done last o n h
  where
    stopped : (ts : Tokens) (done : List ℕ) (last : ℕ) (o : Option Tokens) (n : Nest) → stops extents.Item n ts ≡ true → Encloses (taking extents.Item done last o n ts)
    stopped ts done last o n p = rw (taking_stop extents.Item done last o n ts p) (λ a e. absurd cc)

block_left : {ts us : Tokens} {o : Option Tokens} (a : Tokens) → HasBlock ts us o → o ≡ Some a → LeadsTo ts a
block_left a no_block e = absurd cc
block_left {ts} a (block b before some behind) e = subst (λ (t : Tokens). LeadsTo ts t) (some_same b a e) before

-- braces from their `{` on are left of what was given, their `}` is there, and what is left stands behind it
pub record AreEnclosed (ts us block : Tokens) : Type 0 where
  pub before : LeadsTo ts block
  pub closed : is_empty (around 123 (bumped block)) ≡ false
  pub behind : LeadsTo (around 123 (bumped block)) us

enclosed : (before : Before) (ts a : Tokens) → (excerpt_behind before extents.Item ts).0.block ≡ Some a → AreEnclosed ts (excerpt_behind before extents.Item ts).1 a
unfolding excerpt_behind
enclosed before ts a e =
    let both = taken_enclosed ts [] 0 None _ (λ a e. absurd cc) a e in
    record { before = block_left a (taken_block before extents.Item ts) e; closed = both.1; behind = both.0 }

pub item_enclosed : (ts a : Tokens) → (item_rest ts).0.block ≡ Some a → AreEnclosed ts (item_rest ts).1 a
item_enclosed ts a e = enclosed befores.End ts a e

pub impl_enclosed : (ts a : Tokens) → (impl_rest ts).0.block ≡ Some a → AreEnclosed ts (impl_rest ts).1 a
impl_enclosed ts a e = enclosed befores.Other ts a e
