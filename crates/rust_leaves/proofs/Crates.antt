-- Extern crates, and what a macro is called by, of tokens beside are the same.
use Rattle.std.proofs.Common.{arith, ◌≡◌, ◌==◌, ℕ, zero, suc, Bool, true, false, Option, Some, None, List, [], refl, ap, ◌∙◌, codes, bytes_eq}
use Rattle.rust_leaves.proofs.Common.{nat_tests, Visibility, MetaView, item_without_bodies, extern_crate, Tokens, word, text, bumped, eat_word, Bodies, Beside, LeadsTo, here, further, when, text_same, taken_same, word_test, after_word, eat_local, eat_word_local, KeptBy, no_more, IsAlike, neither, both, alike_or, TextRange, NameRead, named_or, crate_alias, crate_alias_if, written_rename, rename_of, named_node, told_at, crate_item, is_called, called_skipped, last_text_from, last_text}
use Rattle.rust_cursor.specs.Looks.{sees}
use Rattle.rust_cursor.proofs.Looks.{skipped_are, skipped_same}
use Rattle.rust_cursor.proofs.Views.{beside_twins}
use Rattle.rust_cursor.proofs.BodyReaders.{Gone, gone_on, Onward, into, on, bumped_onward}
use Rattle.rust_leaves.proofs.BodyParts.{LocalBy, RangeAlike, next_alike, NameAlike, named_local, named_or_local, LeafAlike}

-- ---- extern crates

-- the same rename, where it stands in each
abbrev AliasAlike : Bodies → Option NameRead → Option NameRead → Type 0
AliasAlike b = IsAlike (NameAlike b)

alias_local : (b : Bodies) → LocalBy (NameAlike b) b crate_alias
unfolding crate_alias
alias_local b ts us h =
    when (bytes_eq (word ts) (codes "_"))
    (λ e. let f : bytes_eq (word us) (codes "_") ≡ true = word_test b (codes "_") ts us h ∙ e in
    let next = after_word b (codes "_") ts us refl h e in
    rw (e, f) (record { value = record { name = refl; hashed = refl; range = next_alike b ts us h next }; rest = next }))
    (λ e. let f : bytes_eq (word us) (codes "_") ≡ false = word_test b (codes "_") ts us h ∙ e in rw (e, f) (named_local b ts us h))

alias_if_local : (b : Bodies) (found found' : Bool) (ts us : Tokens) → found' ≡ found → Beside b ts us → KeptBy (AliasAlike b) b (crate_alias_if found ts) (crate_alias_if found' us)
alias_if_local b true found' ts us e h = rw e (let k = alias_local b ts us h in record { value = both k.value; rest = k.rest })
alias_if_local b false found' ts us e h = rw e (record { value = neither; rest = h })

renamed_local : (b : Bodies) → LocalBy (AliasAlike b) b written_rename
unfolding written_rename
renamed_local b ts us h =
    let k = eat_word_local b (codes "as") refl ts us h in
    alias_if_local b (eat_word (codes "as") ts).0 (eat_word (codes "as") us).0 (eat_word (codes "as") ts).1 (eat_word (codes "as") us).1 k.value k.rest

rename_same : {b : Bodies} {o o' : Option NameRead} → AliasAlike b o o' → rename_of o' ≡ rename_of o
rename_same neither = refl
rename_same (both a) = ap (λ z. rename_of (Some (record { name = z; hashed = []; range = None }))) a.name

told_same : {b : Bodies} {o o' : Option NameRead} (r r' : Option TextRange) → RangeAlike b r r' → AliasAlike b o o' → RangeAlike b (told_at r o) (told_at r' o')
told_same r r' e neither = e
told_same r r' e (both a) = alike_or a.range e

pub crate_item_local : (b : Bodies) (attrs : List MetaView) (v : Option Visibility) → LocalBy (LeafAlike b) b (crate_item attrs v)
unfolding crate_item
crate_item_local b attrs v ts us h =
    let n = named_or_local b (codes "self") refl ts us h in
    let a = renamed_local b (named_or (codes "self") ts).1 (named_or (codes "self") us).1 n.rest in
    let s = eat_local b 59 refl (written_rename (named_or (codes "self") ts).1).1 (written_rename (named_or (codes "self") us).1).1 a.rest in
    let r = (written_rename (named_or (codes "self") ts).1).0 in
    let r' = (written_rename (named_or (codes "self") us).1).0 in
    record {
      value = record {
        item = ap (λ z. item_without_bodies (extern_crate (named_node attrs z v []) (rename_of r'))) n.value.name ∙ ap (λ z. item_without_bodies (extern_crate (named_node attrs (named_or (codes "self") ts).0.name v []) z)) (rename_same a.value);
        kind = refl;
        name = n.value.hashed;
        named = told_same (named_or (codes "self") ts).0.range (named_or (codes "self") us).0.range n.value.range a.value;
        body = neither;
        use_trees = no_more;
      };
      rest = s.rest;
    }

-- ---- macro calls

pub is_called_same : (b : Bodies) (ts us : Tokens) → Beside b ts us → sees is_called us ≡ sees is_called ts
is_called_same b ts us h = skipped_same (beside_twins b) is_called 1 called_skipped ts us h

pub called_next : (b : Bodies) (ts us : Tokens) → Beside b ts us → sees is_called ts ≡ true → Beside b (bumped ts) (bumped us)
called_next b ts us h e = skipped_are (beside_twins b) is_called 1 ts us called_skipped h e

-- the last text up to what is left, or that went into the braces
pub data SameLast (b : Bodies) (v : Tokens) (z z' : List ℕ) : Type 0 where
  beyond_braces : Gone b v → SameLast b v z z'
  same_text : z' ≡ z → SameLast b v z z'

eq_itself : (n : ℕ) → (n == n) ≡ false → ⊥
eq_itself n e = grind (arith, nat_tests)

last_from : {b : Bodies} {ts v : Tokens} (us v' : Tokens) (n : ℕ) (last last' : List ℕ) → LeadsTo ts v → Beside b v v' → Beside b ts us → last' ≡ last
    → SameLast b v (last_text_from n v.past last ts) (last_text_from n v'.past last' us)
last_from us v' zero last last' p k h e = same_text e
last_from {b} {ts} us v' (suc n) last last' here k h e =
    let same = taken_same b ts v' ts us k h in
    when (ts.past == ts.past) (λ f. rw (same, f) (same_text e)) (λ f. absurd (eq_itself ts.past f))
last_from {b} {ts} {v} us v' (suc n) last last' (further q) k h e =
    let same = taken_same b v v' ts us k h in
    when (ts.past == v.past)
    (λ f. rw (same, f) (same_text e))
    (λ f. rw (same, f) (onward (bumped_onward b ts us h) (λ g. beyond_braces (gone_on g q)) (λ next. last_from {ts = bumped ts} (bumped us) v' n (text ts) (text us) q k next (text_same b ts us h))))
  where
    onward : {P : Type 0} {xs ys : Tokens} → Onward b xs ys → (Gone b xs → P) → (Beside b xs ys → P) → P
    onward (into g) lost same = lost g
    onward (on k) lost same = same k

pub last_same : (b : Bodies) (ts us v v' : Tokens) → LeadsTo ts v → Beside b v v' → Beside b ts us → SameLast b v (last_text v.past ts) (last_text v'.past us)
unfolding last_text
last_same b ts us v v' p k h = last_from us v' _ [] [] p k h refl
