-- The fields of a struct in tokens beside are the same, or the struct's header goes into the braces.
use Rattle.std.proofs.Common.{◌≡◌, ◌≤◌, ◌==◌, ◌||◌, ℕ, zero, suc, Bool, true, false, Option, Some, None, List, [], ◌∷◌, ◌++◌, refl, ap, ◌∙◌, arith, if◌then◌else◌, not}
use Rattle.rust_items.proofs.Common.{Visibility, FieldsView, tuple_fields, Piece, Tokens, end_of, symbol, at, is_at_end, bumped, most_tokens, progress_from, turns_from, turns, one, Bodies, AreBehind, Beside, ahead, behind, LeadsTo, when, bumped_leads, beyond_leads, HasBlock, no_block, block, takes_leads, IsLaid, at_behind, before_at, behind_at, symbol_same, end_same, before_same, BothBeside, behind_angles_beside, behind_field_beside, beyond_beside, eat_local, after_symbol, over_leads, over_moved, Gone, gone_on, by_kept, visibility, outer_attributes, outer_attributes_until, is_before, header_field, are_over, fields, symbol_within, fields_at, struct_fields}
use Rattle.rust_cursor.specs.Angles.{behind_angles}
use Rattle.rust_cursor.proofs.TokenPlaces as laid
use Rattle.rust_cursor.proofs.Passing as passing
use Rattle.rust_leaves.proofs.Fields.{type_leads, not_before, over_ends, none_seen, symbol_is}
use Rattle.rust_cursor.specs.Grammar.{reads}
use Rattle.rust_cursor.proofs.Rules.{rule_leads, rule_local}

-- ---- the other text first

-- what stands between the braces of the other text stands behind their `{`
abbrev pub NewBehind : Bodies → Type 0
NewBehind b = AreBehind (suc b.opening.at) (end_of b.opening) b.new

turned : (b : Bodies) → NewBehind b → Bodies
turned b n = record b {
  old = b.new;
  new = b.old;
  by = b.by_new;
  by_new = b.by;
  old_behind = n;
  apart = b.apart_new;
  apart_new = b.apart;
  old_matched = b.new_matched;
  new_matched = b.old_matched;
}

turn : (b : Bodies) (n : NewBehind b) (ts us : Tokens) → Beside b ts us → Beside (turned b n) us ts
unfolding turned
turn b n ts us (ahead past x r u v i j) = ahead past x r v u i (record { unpassed = j.unpassed; behind = j.behind })
turn b n ts us (behind past r u v i) = behind past r v u i

turn_back : (b : Bodies) (n : NewBehind b) (ts us : Tokens) → Beside (turned b n) us ts → Beside b ts us
unfolding turned
turn_back b n ts us (ahead past x r u v i j) = ahead past x r v u i (record { unpassed = j.unpassed; behind = j.behind })
turn_back b n ts us (behind past r u v i) = behind past r v u i

-- ---- where the headers end

-- what is left of both texts stands behind these places
record AreOver (end end' : ℕ) (ts us : Tokens) : Type 0 where
  old : AreBehind end ts.past ts.left
  new : AreBehind end' us.past us.left

over_on : {end end' : ℕ} {ts us vs ws : Tokens} → AreOver end end' ts us → LeadsTo ts vs → LeadsTo us ws → AreOver end end' vs ws
over_on {end} {end'} o p q = record { old = over_leads end p o.old; new = over_leads end' q o.new }

lower : (low low' past : ℕ) (left : List Piece) → low' ≤ low → AreBehind low past left → AreBehind low' past left
lower low low' past [] l h = omega arith
lower low low' past (t ∷ left) l h = let first : low ≤ past = h.0.0 in let begins : low ≤ t.at = h.0.1 in ((omega arith, omega arith), lower low low' (end_of t) left l h.1)

-- both headers end before the `{`, or the one behind it
data Lies (b : Bodies) (e e' : Tokens) : Type 0 where
  low : e.past ≤ b.opening.at → e'.past ≤ b.opening.at → Lies b e e'
  high : AreBehind (suc b.opening.at) e.past e.left → Lies b e e'

lies : (b : Bodies) (e e' : Tokens) → Beside b e e' → Lies b e e'
lies b e e' (ahead past x r u v i j) = let before = before_at b.opening.at past x i in low before before
lies b e e' (behind past r u v i) = let far = b.apart in high (over_moved (end_of b.closing) (suc b.opening.at) past b.by r (omega arith) i)

-- both stand beside, or behind the ends of the headers
data Goes (b : Bodies) (end end' : ℕ) (ts us : Tokens) : Type 0 where
  beside : Beside b ts us → Goes b end end' ts us
  over : AreOver end end' ts us → Goes b end end' ts us

-- what is read of both is the same, or the one header goes into the braces
data Same {A : Type 0} (b : Bodies) (e : Tokens) (x x' : A) : Type 0 where
  into : Gone b e → Same b e x x'
  same : x' ≡ x → Same b e x x'

data SameRead {A : Type 0} (b : Bodies) (e e' : Tokens) (p q : A × Tokens) : Type 0 where
  went : Gone b e → SameRead b e e' p q
  read : q.0 ≡ p.0 → Goes b e.past e'.past p.1 q.1 → SameRead b e e' p q

by_read : {A P : Type 0} {b : Bodies} {e e' : Tokens} {p q : A × Tokens} → SameRead b e e' p q → (Gone b e → P) → (q.0 ≡ p.0 → Goes b e.past e'.past p.1 q.1 → P) → P
by_read (went g) lost kept = lost g
by_read (read v g) lost kept = kept v g

goes_beyond : (b : Bodies) {end end' : ℕ} {ts us vs ws : Tokens} → Beside b ts us → Goes b end end' vs ws → Goes b end end' (progress_from ts.past vs) (progress_from us.past ws)
goes_beyond b {ts = ts} {us = us} h (beside m) = beside (beyond_beside b ts us _ _ h m)
goes_beyond b {ts = ts} {us = us} h (over o) = over (over_on o (beyond_leads ts.past _) (beyond_leads us.past _))

module _ (b : Bodies) (n : NewBehind b) (e e' : Tokens) (ends : Beside b e e') where
  -- what is read behind the attributes
  attributes_go : {A : Type 0} (ts us : Tokens) (p q : A × Tokens) → Beside b ts us → (Gone b e → SameRead b e e' p q) → (AreOver e.past e'.past (outer_attributes ts).1 (outer_attributes us).1 → SameRead b e e' p q)
      → (Beside b (outer_attributes ts).1 (outer_attributes us).1 → SameRead b e e' p q) → SameRead b e e' p q
  unfolding turned
  attributes_go ts us p q h lost far near = by_kept (outer_attributes_until b ts us h) (λ g. by (lies b e e' ends) g) (λ k. near k.rest)
    where
      by : Lies b e e' → Gone b (outer_attributes ts).1 → SameRead b e e' p q
      by (high o) g = lost (record { unpassed = g.unpassed; over = o })
      by (low l l') g =
          by_kept (outer_attributes_until (turned b n) us ts (turn b n ts us h))
          (λ g'. far (record { old = lower (suc b.opening.at) e.past _ _ (omega arith) g.over; new = lower (suc b.opening.at) e'.past _ _ (omega arith) g'.over }))
          (λ k. near (turn_back b n _ _ k.rest))

  field_read : (ts us : Tokens) → Beside b ts us → SameRead b e e' (header_field e.past ts) (header_field e'.past us)
  unfolding header_field
  field_read ts us h =
      attributes_go ts us (header_field e.past ts) (header_field e'.past us) h (λ g. went g)
      (λ o. let o' = over_on o (rule_leads visibility (outer_attributes ts).1) (rule_leads visibility (outer_attributes us).1) in
      read (none_seen _ _ _ _ (not_before e.past (reads visibility (outer_attributes ts).1).1 (behind_at e.past _ _ o'.old)) (not_before e'.past (reads visibility (outer_attributes us).1).1 (behind_at e'.past _ _ o'.new)))
      (over (over_on o' (type_leads _) (type_leads _))))
      (λ k. let v = rule_local b visibility (outer_attributes ts).1 (outer_attributes us).1 k in
      let test = before_same b (reads visibility (outer_attributes ts).1).1 (reads visibility (outer_attributes us).1).1 e e' v.rest ends in
      read (ap (λ t. if t then (reads visibility (outer_attributes us).1).0 else None) test ∙ ap (λ o. if is_before e.past (reads visibility (outer_attributes ts).1).1 then o else None) v.value)
      (beside (eat_local b 44 refl _ _ (behind_field_beside b _ _ v.rest)).rest))

  over_same : (ts us : Tokens) → Beside b ts us → are_over e'.past us ≡ are_over e.past ts
  over_same ts us h = ap (λ t. t || not (is_before e'.past us)) (end_same b ts us h) ∙ ap (λ t. is_at_end ts || not t) (before_same b ts us e e' h ends)

  fields_from : (k : ℕ) (done done' : List (Option Visibility)) (ts us : Tokens) → done' ≡ done → Goes b e.past e'.past ts us
      → Same b e (turns_from (are_over e.past) (one (header_field e.past)) k done ts).0 (turns_from (are_over e'.past) (one (header_field e'.past)) k done' us).0
  fields_from zero done done' ts us d g = same d
  fields_from (suc k) done done' ts us d (over o) = rw (over_ends e.past ts (behind_at e.past _ _ o.old), over_ends e'.past us (behind_at e'.past _ _ o.new)) (same d)
  fields_from (suc k) done done' ts us d (beside h) =
      when (are_over e.past ts) (λ t. rw (over_same ts us h, t) (same d))
      (λ t. rw (over_same ts us h, t)
      (by_read (field_read ts us h) (λ g. into g)
      (λ v g. fields_from k (done ++ (header_field e.past ts).0 ∷ []) (done' ++ (header_field e'.past us).0 ∷ []) (progress_from ts.past (header_field e.past ts).1) (progress_from us.past (header_field e'.past us).1)
      (ap (λ l. l ++ (header_field e'.past us).0 ∷ []) d ∙ ap (λ o. done ++ o ∷ []) v) (goes_beyond b h g))))

  same_fields : (ts us : Tokens) → Beside b ts us → Same b e (fields e.past ts).0 (fields e'.past us).0
  unfolding fields turns
  same_fields ts us h = fields_from most_tokens [] [] ts us refl (beside h)

  fields_at_same : (has : Bool) (ts us : Tokens) → Beside b ts us → Same b e (fields_at has e.past ts) (fields_at has e'.past us)
  fields_at_same has ts us h =
      when (symbol_within e.past ts == 40)
      (λ f. rw (symbols, f) (by (same_fields (bumped ts) (bumped us) (after_symbol b 40 ts us refl h (symbol_is e.past ts f)))))
      (λ f. rw (symbols, f) (same refl))
    where
      symbols : symbol_within e'.past us ≡ symbol_within e.past ts
      symbols = ap (λ t. if t then symbol us else 0) (before_same b ts us e e' h ends) ∙ ap (λ s. if is_before e.past ts then s else 0) (symbol_same b ts us h)

      by : Same b e (fields e.past (bumped ts)).0 (fields e'.past (bumped us)).0 → Same b e (tuple_fields (fields e.past (bumped ts)).0) (tuple_fields (fields e'.past (bumped us)).0)
      by (into g) = into g
      by (same v) = same (ap tuple_fields v)

-- ---- structs

-- from where a struct's header ends on, which ends before its braces, if it ends with some
abbrev pub header_rest : Option Tokens → Tokens → Tokens
header_rest None ts = ts
header_rest (Some opened) ts = opened

-- the fields of both are the same, or the one header goes into the braces
pub data SameFields (b : Bodies) (o : Option Tokens) (es : Tokens) (f f' : FieldsView) : Type 0 where
  header_gone : Gone b (header_rest o es) → SameFields b o es f f'
  fields_same : f' ≡ f → SameFields b o es f f'

found : {b : Bodies} {o : Option Tokens} {es : Tokens} {f f' : FieldsView} → Same b (header_rest o es) f f' → SameFields b o es f f'
found (into g) = header_gone g
found (same e) = fields_same e

pub struct_fields_same : (b : Bodies) → NewBehind b → (ts us es fs : Tokens) (o o' : Option Tokens) → Beside b ts us → Beside b es fs → BothBeside b o o' → SameFields b o es (struct_fields es.past o ts) (struct_fields fs.past o' us)
unfolding struct_fields
struct_fields_same b n ts us es fs _ _ h r passing.neither = found (fields_at_same b n es fs r false (behind_angles ts) (behind_angles us) (behind_angles_beside b ts us h))
struct_fields_same b n ts us es fs _ _ h r (passing.both t u k) = found (fields_at_same b n t u k true (behind_angles ts) (behind_angles us) (behind_angles_beside b ts us h))

-- then so does the item, and its own braces begin elsewhere
pub record ItemGone (b : Bodies) (o : Option Tokens) (es : Tokens) : Type 0 where
  pub gone : Gone b es
  pub free : (t : Tokens) → o ≡ Some t → at t ≡ b.opening.at → ⊥

pub item_gone : (b : Bodies) (end : ℕ) {ts es : Tokens} {o : Option Tokens} → IsLaid end ts → HasBlock ts es o → Gone b (header_rest o es) → ItemGone b o es
item_gone b end l no_block g = record { gone = g; free = λ t e. absurd cc }
item_gone b end l (block t before some close) g =
    let place = at_behind end t (laid.behind end before l).laid in
    let later = behind_at (suc b.opening.at) t.past t.left g.over in
    record {
      gone = gone_on (gone_on g (bumped_leads t)) (takes_leads close);
      free = λ s e z. let equal : t ≡ s = cc in let there : at t ≡ b.opening.at = ap at equal ∙ z in absurd (omega arith);
    }
