-- The fields of a struct are the same in a text that ends with a `;` or a `}` and in a longer one, where the struct ends there or before.
use Rattle.std.proofs.Common.{if◌then◌else◌, ◌≡◌, ◌≤◌, ◌+◌, ◌==◌, ◌||◌, ℕ, zero, suc, Bool, true, false, Option, Some, None, List, [], ◌∷◌, ◌++◌, length, refl, ap, sym, ◌∙◌, arith}
use Rattle.rust_edits.proofs.Common.{not, nat_lt, Visibility, tuple_fields, Tokens, end_of, by_first, rest, symbol, is_empty, is_at_end, bumped, eat, behind_angles, behind_field, most_tokens, progress_from, turns_from, turns, one, visibility, outer_attributes, is_before, header_field, are_over, fields, symbol_within, fields_at, struct_fields, Piece, nat_tests, shorter, IsLaid, behind, LeadsTo, here, further, through, when, bumped_leads, eat_leads, behind_angles_leads, beyond_leads, Ending, Near, Gone, fewer, enough_left, past_same, near_twins, behind_angles_near, reached_near, beyond_near, near_parting, near_enters, near_levels, BlockNear, no_block, block, Onward, into, on, onward_leads, by_kept, eat_until, symbol_same, end_same, after_symbol, outer_attributes_until, outer_attributes_leads}
use Rattle.rust_cursor.specs.declared.cursor.generics.Reach.TheVariants as reaches
use Rattle.rust_leaves.proofs.Fields.{type_leads, field_leads, not_before, over_ends, none_seen, symbol_is}
use Rattle.rust_cursor.specs.Grammar.{reads}
use Rattle.rust_cursor.proofs.Rules.{rule_leads, rule_until}

-- ---- places

-- where nothing is left, nothing is behind
empty_stays : {ts us : Tokens} → LeadsTo ts us → ts.left ≡ [] → us.past ≡ ts.past
unfolding bumped
empty_stays here e = refl
empty_stays {ts} (further p) e = empty_stays p (ap rest e) ∙ ap (λ l. by_first ts.past end_of l) e

pub empty_left : (ts : Tokens) → is_empty ts ≡ true → ts.left ≡ []
unfolding is_empty
empty_left ts e = by ts.left e
  where
    by : (left : List Piece) → by_first true (λ _. false) left ≡ true → left ≡ []
    by [] e = refl
    by (t ∷ left) e = absurd cc

-- what leads on, and has no more left, stands no earlier
pub in_order : {n : ℕ} {ts us vs : Tokens} → IsLaid n ts → LeadsTo ts us → LeadsTo ts vs → length vs.left ≤ length us.left → us.past ≤ vs.past
in_order {n = n} l here q le = (behind n q l).past
in_order {n = n} {ts = ts} l (further p) here le =
    let first = fewer p in
    when (is_empty ts)
    (λ e. let same = empty_stays (further p) (empty_left ts e) in omega arith)
    (λ e. let less = shorter ts e in absurd (omega arith))
in_order {n = n} {ts = ts} l (further p) (further q) le = in_order (behind n (bumped_leads ts) l).laid p q le

-- a place is before another in both texts
pub lt_by : (m n d : ℕ) → nat_lt m n ≡ nat_lt (m + d) (n + d)
lt_by m n d = grind (arith, nat_tests)

-- ---- headers

-- the headers of a struct in both texts, from its name on, end at these places, before the end of the short text or there
record Headers (n m : ℕ) (b : Ending) (xs ys e e' : Tokens) : Type 0 where
  laid : IsLaid n xs
  laid_short : IsLaid m ys
  ends : LeadsTo xs e
  ends_short : LeadsTo ys e'
  past : e.past ≡ e'.past + b.by
  long : length b.behind ≤ length e.left

-- what is left of both texts stands behind these places
record AreOver (n m end end' : ℕ) (ts us : Tokens) : Type 0 where
  laid : IsLaid n ts
  laid_short : IsLaid m us
  past : end ≤ ts.past
  past_short : end' ≤ us.past

over_on : {n m end end' : ℕ} {ts us vs ws : Tokens} → AreOver n m end end' ts us → LeadsTo ts vs → LeadsTo us ws → AreOver n m end end' vs ws
over_on {n = n} {m = m} o p q =
    let old = behind n p o.laid in
    let new = behind m q o.laid_short in
    let past = o.past in
    let past_short = o.past_short in
    record { laid = old.laid; laid_short = new.laid; past = omega arith; past_short = omega arith }

-- both are near, or behind the ends of the headers
data Goes (n m end end' : ℕ) (b : Ending) (ts us : Tokens) : Type 0 where
  close : Near b ts us → Goes n m end end' b ts us
  over : AreOver n m end end' ts us → Goes n m end end' b ts us

comma_near : (b : Ending) (ts us : Tokens) → Near b ts us → Onward (Near b) (Gone b) (eat 44 ts).1 (eat 44 us).1
comma_near b ts us h = by_kept (eat_until (near_parting b) 44 refl ts us h) (λ g. into g) (λ k. on k.rest)

type_near : (b : Ending) (ts us : Tokens) → Near b ts us → Onward (Near b) (Gone b) (eat 44 (behind_field ts)).1 (eat 44 (behind_field us)).1
type_near b ts us h = onward_leads (near_parting b) (reached_near b reaches.Field ts us h) (eat_leads 44 _) (eat_leads 44 _) (λ k. comma_near b _ _ k)

record SameRead {A : Type 0} (n m end end' : ℕ) (b : Ending) (p q : A × Tokens) : Type 0 where
  value : q.0 ≡ p.0
  go : Goes n m end end' b p.1 q.1

module _ {n m : ℕ} (b : Ending) (xs ys e e' : Tokens) (hs : Headers n m b xs ys e e') where
  -- what has passed the end of the short text stands behind both headers
  passed : (ts us : Tokens) → LeadsTo xs ts → LeadsTo ys us → Gone b ts us → AreOver n m e.past e'.past ts us
  passed ts us p q g =
      let few = g.few in
      let long = hs.long in
      let none : length us.left ≡ 0 = ap length g.none in
      record {
        laid = (behind n p hs.laid).laid;
        laid_short = (behind m q hs.laid_short).laid;
        past = in_order hs.laid hs.ends p (omega arith);
        past_short = in_order hs.laid_short hs.ends_short q (omega arith);
      }

  goes : (ts us : Tokens) → LeadsTo xs ts → LeadsTo ys us → Onward (Near b) (Gone b) ts us → Goes n m e.past e'.past b ts us
  goes ts us p q (into g) = over (passed ts us p q g)
  goes ts us p q (on h) = close h

  before_both : (ts us : Tokens) → Near b ts us → is_before e'.past us ≡ is_before e.past ts
  before_both ts us h = lt_by us.past e'.past b.by ∙ sym (ap (λ z. nat_lt z e.past) (past_same b ts us h) ∙ ap (λ z. nat_lt (us.past + b.by) z) hs.past)

  field_read : (ts us : Tokens) → LeadsTo xs ts → LeadsTo ys us → Near b ts us → SameRead n m e.past e'.past b (header_field e.past ts) (header_field e'.past us)
  unfolding header_field
  field_read ts us p q h =
      by_kept (outer_attributes_until (near_parting b) (near_enters b) (near_levels b) ts us h)
      (λ g. behind_it (over_on (passed _ _ (through p (outer_attributes_leads ts)) (through q (outer_attributes_leads us)) g) (rule_leads visibility _) (rule_leads visibility _)))
      (λ k. by_kept (rule_until (near_parting b) visibility _ _ k.rest)
      (λ g. behind_it (passed _ _ to to' g))
      (λ v. record {
        value = ap (λ t. if t then (reads visibility (outer_attributes us).1).0 else None) (before_both _ _ v.rest) ∙ ap (λ o. if is_before e.past (reads visibility (outer_attributes ts).1).1 then o else None) v.value;
        go = goes _ _ (through to (type_leads _)) (through to' (type_leads _)) (type_near b _ _ v.rest);
      }))
    where
      to : LeadsTo xs (reads visibility (outer_attributes ts).1).1
      to = through p (through (outer_attributes_leads ts) (rule_leads visibility _))

      to' : LeadsTo ys (reads visibility (outer_attributes us).1).1
      to' = through q (through (outer_attributes_leads us) (rule_leads visibility _))

      behind_it : AreOver n m e.past e'.past (reads visibility (outer_attributes ts).1).1 (reads visibility (outer_attributes us).1).1 → SameRead n m e.past e'.past b (header_field e.past ts) (header_field e'.past us)
      behind_it o = record {
        value = none_seen _ _ _ _ (not_before e.past (reads visibility (outer_attributes ts).1).1 o.past) (not_before e'.past (reads visibility (outer_attributes us).1).1 o.past_short);
        go = over (over_on o (type_leads _) (type_leads _));
      }

  over_same : (ts us : Tokens) → Near b ts us → are_over e'.past us ≡ are_over e.past ts
  over_same ts us h = ap (λ t. t || not (is_before e'.past us)) (end_same (near_twins b) ts us h) ∙ ap (λ t. is_at_end ts || not t) (before_both ts us h)

  fields_from : (k : ℕ) (done done' : List (Option Visibility)) (ts us : Tokens) → LeadsTo xs ts → LeadsTo ys us → done' ≡ done → Goes n m e.past e'.past b ts us
      → (turns_from (are_over e'.past) (one (header_field e'.past)) k done' us).0 ≡ (turns_from (are_over e.past) (one (header_field e.past)) k done ts).0
  fields_from zero done done' ts us p q d g = d
  fields_from (suc k) done done' ts us p q d (over o) = rw (over_ends e.past ts o.past, over_ends e'.past us o.past_short) d
  fields_from (suc k) done done' ts us p q d (close h) =
      let r = field_read ts us p q h in
      let to = through (field_leads e.past ts) (beyond_leads ts.past (header_field e.past ts).1) in
      let to' = through (field_leads e'.past us) (beyond_leads us.past (header_field e'.past us).1) in
      when (are_over e.past ts) (λ t. rw (over_same ts us h, t) d)
      (λ t. rw (over_same ts us h, t)
      (fields_from k (done ++ (header_field e.past ts).0 ∷ []) (done' ++ (header_field e'.past us).0 ∷ []) (progress_from ts.past (header_field e.past ts).1) (progress_from us.past (header_field e'.past us).1) (through p to) (through q to')
      (ap (λ l. l ++ (header_field e'.past us).0 ∷ []) d ∙ ap (λ o. done ++ o ∷ []) r.value) (next to to' r.go)))
    where
      next : LeadsTo ts (progress_from ts.past (header_field e.past ts).1) → LeadsTo us (progress_from us.past (header_field e'.past us).1) → Goes n m e.past e'.past b (header_field e.past ts).1 (header_field e'.past us).1
          → Goes n m e.past e'.past b (progress_from ts.past (header_field e.past ts).1) (progress_from us.past (header_field e'.past us).1)
      next to to' (close k) = goes _ _ (through p to) (through q to') (beyond_near b ts us _ _ h k)
      next to to' (over o) = over (over_on o (beyond_leads ts.past _) (beyond_leads us.past _))

  same_fields : (ts us : Tokens) → LeadsTo xs ts → LeadsTo ys us → Near b ts us → (fields e'.past us).0 ≡ (fields e.past ts).0
  unfolding fields turns
  same_fields ts us p q h = fields_from most_tokens [] [] ts us p q refl (close h)

  fields_at_same : (has : Bool) (ts us : Tokens) → LeadsTo xs ts → LeadsTo ys us → Goes n m e.past e'.past b ts us → fields_at has e'.past us ≡ fields_at has e.past ts
  fields_at_same has ts us p q (over o) = rw (not_before e.past ts o.past, not_before e'.past us o.past_short) refl
  fields_at_same has ts us p q (close h) =
      when (symbol_within e.past ts == 40)
      (λ f. rw (symbols, f) (ap tuple_fields (same_fields (bumped ts) (bumped us) (through p (bumped_leads ts)) (through q (bumped_leads us)) (after_symbol (near_twins b) 40 ts us refl h (symbol_is e.past ts f)))))
      (λ f. rw (symbols, f) refl)
    where
      symbols : symbol_within e'.past us ≡ symbol_within e.past ts
      symbols = ap (λ t. if t then symbol us else 0) (before_both ts us h) ∙ ap (λ s. if is_before e.past ts then s else 0) (symbol_same (near_twins b) ts us h)

  header_same : (has : Bool) → Near b xs ys → fields_at has e'.past (behind_angles ys) ≡ fields_at has e.past (behind_angles xs)
  header_same has h =
      fields_at_same has (behind_angles xs) (behind_angles ys) (behind_angles_leads xs) (behind_angles_leads ys)
      (goes _ _ (behind_angles_leads xs) (behind_angles_leads ys) (behind_angles_near b xs ys h))

-- the fields of a struct that ends here in both texts, with these braces or with none
pub struct_fields_near : {n m : ℕ} (b : Ending) (ts us es fs : Tokens) (o o' : Option Tokens) → IsLaid n ts → IsLaid m us → Near b ts us → BlockNear b o o' → ((a : Tokens) → o ≡ Some a → LeadsTo ts a) → ((a : Tokens) → o' ≡ Some a → LeadsTo us a)
    → LeadsTo ts es → LeadsTo us fs → es.past ≡ fs.past + b.by → length b.behind ≤ length es.left → struct_fields fs.past o' us ≡ struct_fields es.past o ts
unfolding struct_fields
struct_fields_near b ts us es fs _ _ l l' h no_block before before' p q e le =
    header_same b ts us es fs (record { laid = l; laid_short = l'; ends = p; ends_short = q; past = e; long = le }) false h
struct_fields_near b ts us es fs _ _ l l' h (block {ts = t} {us = u} k) before before' p q e le =
    let more = enough_left b t u k in
    header_same b ts us t u (record { laid = l; laid_short = l'; ends = before t refl; ends_short = before' u refl; past = past_same b t u k; long = omega arith }) true h
