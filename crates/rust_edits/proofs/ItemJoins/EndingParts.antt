-- The names and ends of items are the same in a text that ends with a `;` or a `}` and in a longer one, where they end there or before.
use Rattle.std.specs.Option.{option_or}
use Rattle.std.proofs.Common.{◌≡◌, ◌≤◌, ◌<◌, ◌+◌, ◌==◌, ◌&&◌, ℕ, Bool, true, false, Option, Some, None, List, [], length, refl, ap, ◌∙◌, arith, codes}
use Rattle.rust_edits.proofs.Common.{option_map, bytes_eq, ExcerptRead, ends, tree_body, Reader, Tokens, symbol, text, bumped, eat, is_at_open, TextRange, Placed, as_name, inner_attributes, NameRead, RestRead, LeafRead, name_read, written_name, next_range, named_or, crate_alias, crate_alias_if, written_rename, rename_of, range_to, rest_read, semicolon_end, call_end, block_attributes, told_at, Head, and_parts, and_right, IsSound, sound_on, IsLaid, behind, LeadsTo, Forwards, when, eat_leads, taken_leads_on, Ending, Near, nothing, bumped_onward, fewer, at_same, past_same, near_twins, near_parting, UntilBy, Outcome, lost, stays, comes, map_outcome, then_outcome, eat_outcome, eat_fewer, gone, kept, by_next, by_kept, cond_until, then_until, eat_word_until, symbol_same, word_same, text_same, BlockNear, no_block, block, SameText, item_so, macro_so, value_so, tree_so, taken_outcome, taken_until, taken_fewer, next_past, near_enters, near_levels, inner_attributes_until, inner_attributes_leads, alias_if_leads, rest_by, rest_of, by_taken}
use Rattle.hir_input.specs.declared.ast.PlainKind.TheVariants as plain_kind
use Rattle.rust_cursor.proofs.TwinTokens.{open_same, word_test, after_word}
use Rattle.rust_leaves.specs.declared.head.Head.TheVariants as heads
use Rattle.rust_edits.proofs.ItemJoins.EndingFronts.{PlacedNear, no_place, placed_near, placed_name_until, further_on}

-- ---- places

-- so much further on
abbrev pub range_on : Ending → TextRange → TextRange
range_on b r = record { start = r.start + b.by; end = r.end + b.by }

abbrev pub some_on : Ending → Option TextRange → Option TextRange
some_on b = option_map (range_on b)

pub record NameNear (b : Ending) (n m : NameRead) : Type 0 where
  pub name : m.name ≡ n.name
  pub hashed : m.hashed ≡ n.hashed
  pub range : n.range ≡ some_on b m.range

pub record RestNear (b : Ending) (r s : RestRead) : Type 0 where
  pub body : s.body ≡ r.body
  pub ended : s.is_ended ≡ r.is_ended
  pub block : BlockNear b r.block s.block
  pub braces : r.braces ≡ some_on b s.braces

pub record LeafNear (b : Ending) (l m : LeafRead) : Type 0 where
  pub item : m.item ≡ l.item
  pub kind : m.kind ≡ l.kind
  pub name : m.name ≡ l.name
  pub named : l.named ≡ some_on b m.named
  pub body : l.body ≡ some_on b m.body
  pub ended : m.is_ended ≡ l.is_ended
  pub too_deep : l.too_deep ≡ option_map (λ n. n + b.by) m.too_deep
  pub use_trees : l.use_trees ≡ further_on b m.use_trees

-- ---- names

name_near : (b : Ending) (o o' : Option Placed) (z z' : List ℕ) → z' ≡ z → PlacedNear b o o' → NameNear b (name_read o z) (name_read o' z')
name_near b _ _ z z' e no_place = record { name = refl; hashed = refl; range = refl }
name_near b _ _ z z' e (placed_near n s t) = rw (e, n, s, t) (record { name = refl; hashed = refl; range = refl })

pub named_until : (b : Ending) (ts us : Tokens) → Near b ts us → UntilBy (NameNear b) b (written_name ts) (written_name us)
unfolding written_name
named_until b ts us h =
    by_kept (placed_name_until b ts us h) (λ g. gone g) (λ k. kept (record { value = name_near b _ _ (text ts) (text us) (text_same (near_twins b) ts us h) k.value; rest = k.rest }))

next_range_near : (b : Ending) (ts us : Tokens) → Near b ts us → next_range ts ≡ range_on b (next_range us)
next_range_near b ts us h = rw (at_same b ts us h, next_past b ts us h) refl

pub named_or_until : (b : Ending) (w : List ℕ) → bytes_eq [] w ≡ false → (ts us : Tokens) → Near b ts us → UntilBy (NameNear b) b (named_or w ts) (named_or w us)
unfolding named_or
named_or_until b w empty ts us h =
    cond_until (word_test (near_twins b) w ts us h)
    (λ e. kept (record { value = record { name = ap (λ z. as_name (Some z)) (word_same (near_twins b) ts us h); hashed = word_same (near_twins b) ts us h; range = ap Some (next_range_near b ts us h) }; rest = after_word (near_twins b) w ts us empty h e }))
    (λ _. named_until b ts us h)

alias_until : (b : Ending) (ts us : Tokens) → Near b ts us → UntilBy (NameNear b) b (crate_alias ts) (crate_alias us)
unfolding crate_alias
alias_until b ts us h =
    cond_until (word_test (near_twins b) (codes "_") ts us h)
    (λ e. kept (record { value = record { name = refl; hashed = refl; range = ap Some (next_range_near b ts us h) }; rest = after_word (near_twins b) (codes "_") ts us refl h e }))
    (λ _. named_until b ts us h)

pub data AliasNear (b : Ending) : Option NameRead → Option NameRead → Type 0 where
  no_alias : AliasNear b None None
  one_alias : {n m : NameRead} → NameNear b n m → AliasNear b (Some n) (Some m)

alias_if_until : (b : Ending) (found : Bool) (ts us : Tokens) → Near b ts us → UntilBy (AliasNear b) b (crate_alias_if found ts) (crate_alias_if found us)
alias_if_until b true ts us h = by_kept (alias_until b ts us h) (λ g. gone g) (λ k. kept (record { value = one_alias k.value; rest = k.rest }))
alias_if_until b false ts us h = kept (record { value = no_alias; rest = h })

pub renamed_until : (b : Ending) (ts us : Tokens) → Near b ts us → UntilBy (AliasNear b) b (written_rename ts) (written_rename us)
unfolding written_rename
renamed_until b ts us h = then_until (near_parting b) crate_alias_if crate_alias_if alias_if_leads alias_if_leads (alias_if_until b) (eat_word_until (near_parting b) (codes "as") refl ts us h)

pub rename_same : (b : Ending) (o o' : Option NameRead) → AliasNear b o o' → rename_of o' ≡ rename_of o
rename_same b _ _ no_alias = refl
rename_same b _ _ (one_alias k) = ap (λ (z : _). Some (record { name = z })) k.name

or_near : (b : Ending) (o o' p p' : Option TextRange) → o ≡ some_on b o' → p ≡ some_on b p' → option_or o p ≡ some_on b (option_or o' p')
or_near b o None p p' e f = rw (e, f) refl
or_near b o (Some r) p p' e f = rw e refl

pub told_near : (b : Ending) (r r' : Option TextRange) (o o' : Option NameRead) → r ≡ some_on b r' → AliasNear b o o' → told_at r o ≡ some_on b (told_at r' o')
told_near b r r' _ _ e no_alias = e
told_near b r r' _ _ e (one_alias {n = n} {m = m} k) = or_near b n.range m.range r r' k.range e

-- ---- ends

range_near : (b : Ending) (o o' : Option Tokens) (end end' : ℕ) → end ≡ end' + b.by → BlockNear b o o' → range_to end o ≡ some_on b (range_to end' o')
range_near b _ _ end end' e no_block = refl
range_near b _ _ end end' e (block {ts = ts} {us = us} h) = rw (e, at_same b ts us h) refl

rest_near : (b : Ending) (r s : ExcerptRead) (end end' : ℕ) → end ≡ end' + b.by → SameText b r s → RestNear b (rest_read r end) (rest_read s end')
rest_near b r s end end' e k = record { body = k.text; ended = k.ended; block = k.braces; braces = range_near b r.block s.block end end' e k.braces }

abbrev pub RestOutcome : Ending → RestRead × Tokens → RestRead × Tokens → Type 0
RestOutcome b p q = Outcome (RestNear b) (λ r. r.is_ended) b p q

rest_outcome : (b : Ending) {p q : ExcerptRead × Tokens} → Outcome (SameText b) (λ r. r.is_ended) b p q → RestOutcome b (rest_read p.0 p.1.past, p.1) (rest_read q.0 q.1.past, q.1)
rest_outcome b (lost g f n) = lost g f n
rest_outcome b {p = p} {q = q} (stays k) = stays (record { value = rest_near b p.0 q.0 p.1.past q.1.past (past_same b p.1 q.1 k.rest) k.value; rest = k.rest })
rest_outcome b {p = p} {q = q} (comes t a) = comes (rest_near b p.0 q.0 p.1.past q.1.past a.past t) a

pub rest_of_outcome : (b : Ending) (h : Head) (ts us : Tokens) → Near b ts us → RestOutcome b (rest_of h ts) (rest_of h us)
unfolding rest_by ends
rest_of_outcome b heads.Impl ts us h = rest_outcome b (taken_outcome b _ _ (item_so b) ts us h)
rest_of_outcome b heads.Const ts us h = rest_outcome b (taken_outcome b _ _ (value_so b) ts us h)
rest_of_outcome b (heads.Plain plain_kind.MacroDef) ts us h = rest_outcome b (taken_outcome b _ _ (macro_so b) ts us h)
rest_of_outcome b (heads.Plain plain_kind.Static) ts us h = rest_outcome b (taken_outcome b _ _ (value_so b) ts us h)
rest_of_outcome b (heads.Plain plain_kind.TypeAlias) ts us h = rest_outcome b (taken_outcome b _ _ (value_so b) ts us h)
rest_of_outcome b _ ts us h = rest_outcome b (taken_outcome b _ _ (item_so b) ts us h)

-- what is ended takes a token
abbrev pub TakesEnded : Reader RestRead → Type 0
TakesEnded end = (ts : Tokens) → (end ts).0.is_ended ≡ true → length (end ts).1.left < length ts.left

pub rest_fewer : (h : Head) → TakesEnded (rest_of h)
unfolding rest_by
rest_fewer = by_taken (λ r. TakesEnded (rest_by r)) (λ before e ts f. taken_fewer before e ts f)

semicolon_leads : (read : ExcerptRead) → Forwards (semicolon_end read)
semicolon_leads read ts = eat_leads 59 ts

semicolon_fewer : (read : ExcerptRead) → TakesEnded (semicolon_end read)
semicolon_fewer read ts e = eat_fewer 59 ts (omega arith) (and_parts read.is_ended (eat 59 ts).0 e).1

semicolon_outcome : (b : Ending) (r s : ExcerptRead) → SameText b r s → (ts us : Tokens) → Near b ts us → RestOutcome b (semicolon_end r ts) (semicolon_end s us)
semicolon_outcome b r s k ts us h =
    map_outcome (λ c. record { body = r.text; is_ended = r.is_ended && c; block = None; braces = None }) (λ c. record { body = s.text; is_ended = s.is_ended && c; block = None; braces = None })
    (λ e. rw (k.text, k.ended) (record { body = refl; ended = ap (λ c. r.is_ended && c) e; block = no_block; braces = refl })) (λ e. (and_parts r.is_ended (eat 59 ts).0 e).1) (λ e. ap (λ c. s.is_ended && c) e ∙ and_right s.is_ended false refl) (eat_outcome b 59 ts us h)

pub call_end_outcome : (b : Ending) (ts us : Tokens) → Near b ts us → RestOutcome b (call_end ts) (call_end us)
unfolding call_end ends
call_end_outcome b ts us h =
    when (is_at_open ts)
    (λ e. when (symbol ts == 123)
    (λ f. rw (open_same (near_twins b) ts us h, symbol_same (near_twins b) ts us h, e, f) (rest_outcome b (taken_outcome b _ _ (tree_so b) ts us h)))
    (λ f. rw (open_same (near_twins b) ts us h, symbol_same (near_twins b) ts us h, e, f)
    (then_outcome semicolon_end semicolon_end semicolon_leads semicolon_leads semicolon_fewer semicolon_fewer (semicolon_outcome b) (taken_until b _ _ (tree_so b) ts us h))))
    (λ e. rw (open_same (near_twins b) ts us h, e) (stays (record { value = record { body = refl; ended = refl; block = no_block; braces = refl }; rest = h })))

pub call_end_fewer : TakesEnded call_end
unfolding call_end
call_end_fewer ts e =
    when (is_at_open ts)
    (λ f. when (symbol ts == 123)
    (λ g. rw (f, g) (taken_fewer _ _ ts (rw (f, g) at e)))
    (λ g. rw (f, g) (let less : length (tree_body ts).1.left ≤ length ts.left = fewer (taken_leads_on _ _ ts) in let strict = semicolon_fewer (tree_body ts).0 (tree_body ts).1 (rw (f, g) at e) in omega arith)))
    (λ f. absurd (let no = rw f at e in cc))

-- ---- what stands in the braces that an item ends with

pub attributes_same : (b : Ending) (o o' : Option Tokens) → BlockNear b o o' → ((a : Tokens) → o' ≡ Some a → (inner_attributes (bumped a)).1.left ≡ [] → ⊥) → block_attributes o' ≡ block_attributes o
unfolding block_attributes
attributes_same b _ _ no_block some = refl
attributes_same b _ _ (block {ts = ts} {us = us} h) some =
    by_next (bumped_onward b ts us h) (λ g. absurd (some us refl (nothing (inner_attributes_leads (bumped us)) g.none)))
    (λ k. by_kept (inner_attributes_until (near_parting b) (near_enters b) (near_levels b) (bumped ts) (bumped us) k)
    (λ g. absurd (some us refl g.none)) (λ m. m.value))

-- ---- what is given of both texts

pub record Given (n m : ℕ) (ts us : Tokens) : Type 0 where
  pub laid : IsLaid n ts
  pub short : IsSound m us

pub given_on : {n m : ℕ} {ts us vs ws : Tokens} → Given n m ts us → LeadsTo ts vs → LeadsTo us ws → Given n m vs ws
given_on {n = n} {m = m} g p q = record { laid = (behind n p g.laid).laid; short = sound_on m q g.short }
