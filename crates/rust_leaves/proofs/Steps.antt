-- Steps of what is read in turns.
use Rattle.std.proofs.Common.{◌≡◌, ◌≢◌, ◌==◌, ◌<◌, ◌+◌, ◌-◌, ℕ, zero, suc, true, false, List, refl, ap, arith}
use Rattle.rust_leaves.proofs.Common.{ne_eqb, Tokens, text, bumped, behind_other, abi, modifier, modifiers_from, begins_path, behind_segments_from, is_behind_others, behind_others_from, Scan, Step, statement_step, by_step, statement_from, last_text_from}
use Rattle.rust_cursor.specs.Grammar.{reads}
use Rattle.rust_cursor.specs.Looks.{sees}

-- ---- modifiers

pub modifiers_stop : (n : ℕ) (ts : Tokens) → sees modifier ts ≡ false → (reads (modifiers_from n) ts).1 ≡ ts
modifiers_stop zero ts e = refl
modifiers_stop (suc n) ts e = rw e refl

pub modifiers_more : (bound at : ℕ) (ts : Tokens) → at < bound → sees modifier ts ≡ true → (reads (modifiers_from (bound - at)) ts).1 ≡ (reads (modifiers_from (bound - (at + 1))) (reads abi (bumped ts)).1).1
modifiers_more bound at ts below e = let turn : bound - at ≡ suc (bound - (at + 1)) = omega arith in rw (turn, e) refl

pub ruleset modifier_turns = (modifiers_more, modifiers_stop)

-- ---- what is no item

pub segments_stop : (n : ℕ) (ts : Tokens) → sees begins_path ts ≡ false → behind_segments_from n ts ≡ ts
segments_stop zero ts e = refl
segments_stop (suc n) ts e = rw e refl

pub segments_more : (bound at : ℕ) (ts : Tokens) → at < bound → sees begins_path ts ≡ true → behind_segments_from (bound - at) ts ≡ behind_segments_from (bound - (at + 1)) (bumped (bumped (bumped ts)))
segments_more bound at ts below e = let turn : bound - at ≡ suc (bound - (at + 1)) = omega arith in rw (turn, e) refl

pub ruleset segment_turns = (segments_more, segments_stop)

pub others_stop : (n : ℕ) (ts : Tokens) → is_behind_others ts ≡ true → behind_others_from n ts ≡ ts
others_stop zero ts e = refl
others_stop (suc n) ts e = rw e refl

pub others_more : (bound at : ℕ) (ts : Tokens) → at < bound → is_behind_others ts ≡ false → behind_others_from (bound - at) ts ≡ behind_others_from (bound - (at + 1)) (behind_other ts)
others_more bound at ts below e = let turn : bound - at ≡ suc (bound - (at + 1)) = omega arith in rw (turn, e) refl

pub ruleset other_turns = (others_more, others_stop)

-- ---- texts

pub last_stop : (n end : ℕ) (last : List ℕ) (ts : Tokens) → (ts.past == end) ≡ true → last_text_from n end last ts ≡ last
last_stop zero end last ts e = refl
last_stop (suc n) end last ts e = rw e refl

pub last_more : (bound at end : ℕ) (last : List ℕ) (ts : Tokens) → at < bound → ts.past ≢ end → last_text_from (bound - at) end last ts ≡ last_text_from (bound - (at + 1)) end (text ts) (bumped ts)
last_more bound at end last ts below e =
    let turn : bound - at ≡ suc (bound - (at + 1)) = omega arith in
    let other : (ts.past == end) ≡ false = ne_eqb ts.past end e in
    rw (turn, other) refl

pub ruleset last_turns = (last_more, last_stop)

-- ---- statements

pub statement_turn : (bound at : ℕ) (s : Scan) (made : Step) (ts after : Tokens) → at < bound → statement_step s ts ≡ (made, after) → statement_from (bound - at) s ts ≡ by_step made (statement_from (bound - (at + 1))) after
statement_turn bound at s made ts after below told =
    let turn : bound - at ≡ suc (bound - (at + 1)) = omega arith in
    rw turn (ap (λ r. by_step r.0 (statement_from (bound - (at + 1))) r.1) told)
