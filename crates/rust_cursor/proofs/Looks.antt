-- What a look shows of the tokens that it sees, and that the same is seen of tokens that look alike.
use Rattle.std.proofs.Common.{◌≡◌, ◌≤◌, ℕ, zero, suc, ◌+◌, max, Bool, true, false, not, ◌==◌, ◌&&◌, ◌||◌, nat_le, if◌then◌else◌, Option, None, Some, List, [], ◌∷◌, refl, sym, ap, ◌∙◌, subst, arith, bytes_eq}
use Rattle.std.proofs.Math.Nat.{max-eq_left, max-eq_right, min-le_left, min-le_right}
use Rattle.rust_cursor.proofs.Common.{and_parts, eqb-true, nat_tests, not-true, TokenKind, Piece, symbol_of, Tokens, identifies, by_first, symbol, kind, text, bumped, is_at_identifier, is_glued, is_pair}
use Rattle.rust_lexer.specs.declared.kind.TokenKind.TheVariants as kinds
use Rattle.rust_cursor.specs.Elements.{most_tokens}
use Rattle.rust_cursor.specs.Looks.{is_edge, View, Lookahead, fixed_look, token_is, kind_is, symbol_is, word_is, word_meets, at_identifier, at_open, at_end, at_item, pair_is, not_seen, both_seen, either_seen, look_by, then_seen, past_seen, skip, past_from, sees, is_flat_kind, clear_of, stays_short, may_skip}
use Rattle.rust_cursor.proofs.WithinBrackets.{word_symbol}
use Rattle.rust_cursor.proofs.TokenRests.{when}
use Rattle.rust_cursor.proofs.Tests.{begins_item_same}
use Rattle.rust_cursor.proofs.TwinTokens.{Twins, kind_same, text_same, word_same, end_same, open_same, identifier_same, symbol_test, word_test, pair_same}

-- ---- tokens without such a symbol

-- none of so many tokens, from the next on, has such a symbol
abbrev pub AreClear : (ℕ → Bool) → ℕ → Tokens → Type 0
AreClear bars zero ts = Unit {0}
AreClear bars (suc n) ts = (bars (symbol ts) ≡ false) × AreClear bars n (bumped ts)

clear_fewer : (bars : ℕ → Bool) (n m : ℕ) (ts : Tokens) → n ≤ m → AreClear bars m ts → AreClear bars n ts
clear_fewer bars zero m ts h w = tt
clear_fewer bars (suc n) zero ts h w = absurd (omega arith)
clear_fewer bars (suc n) (suc m) ts h w = (w.0, clear_fewer bars n m (bumped ts) (omega arith) w.1)

clear_join : (bars : ℕ → Bool) (n m : ℕ) (ts : Tokens) → AreClear bars n ts → AreClear bars m (skip n ts) → AreClear bars (n + m) ts
clear_join bars zero m ts h k = let none : m ≡ 0 + m = omega arith in subst (λ i. AreClear bars i ts) none k
clear_join bars (suc n) m ts h k =
    let next : suc (n + m) ≡ suc n + m = omega arith in
    subst (λ i. AreClear bars i ts) next (h.0, clear_join bars n m (bumped ts) h.1 k)

clear_more : (bars : ℕ → Bool) (n m : ℕ) (ts : Tokens) → AreClear bars n ts → AreClear bars m ts → AreClear bars (max n m) ts
clear_more bars n m ts h k =
    when (nat_le n m)
    (λ e. let less : n ≤ m = grind (arith, nat_tests) in subst (λ i. AreClear bars i ts) (sym (max-eq_right less)) k)
    (λ e. let less : m ≤ n = grind (arith, nat_tests) in subst (λ i. AreClear bars i ts) (sym (max-eq_left less)) h)

clear_if : (bars : ℕ → Bool) (t : Bool) (n m : ℕ) (ts : Tokens) → (t ≡ true → AreClear bars n ts) → AreClear bars m ts → AreClear bars (if t then n else m) ts
clear_if bars true n m ts h k = h refl
clear_if bars false n m ts h k = k

-- ---- where something is seen

one_if : (bars : ℕ → Bool) (t : Bool) (ts : Tokens) → (t ≡ true → bars (symbol ts) ≡ false) → AreClear bars (if t then 1 else 0) ts
one_if bars true ts h = (h refl, tt)
one_if bars false ts h = tt

one_unless : (bars : ℕ → Bool) (t : Bool) (ts : Tokens) → (t ≡ false → bars (symbol ts) ≡ false) → AreClear bars (if t then 0 else 1) ts
one_unless bars true ts h = tt
one_unless bars false ts h = (h refl, tt)

two_unless : (bars : ℕ → Bool) (t u : Bool) (ts : Tokens) → (t ≡ false → bars (symbol ts) ≡ false) → (u ≡ false → bars (symbol (bumped ts)) ≡ false) → AreClear bars (if t then 0 else (if u then 1 else 2)) ts
two_unless bars true u ts h k = tt
two_unless bars false true ts h k = (h refl, tt)
two_unless bars false false ts h k = (h refl, (k refl, tt))

flat_parts : (a b c d : Bool) → (not a && (not b && (not c && not d))) ≡ true → (a ≡ false) × (b ≡ false) × (c ≡ false)
flat_parts false false false d e = (refl, refl, refl)
flat_parts _ _ _ _ e = absurd cc

kind_first : (f : Option TokenKind → Bool) → is_flat_kind f ≡ true → (left : List Piece) → f (by_first None (λ t. Some t.kind) left) ≡ true → by_first 0 symbol_of left ≡ 0
kind_first f p [] e = refl
kind_first f p (t ∷ left) e =
    by t.kind t.text (flat_parts (f (Some kinds.OpenDelim)) (f (Some kinds.CloseDelim)) (f (Some kinds.Punct)) (f None) p) e
  where
    by : (k : TokenKind) (z : List ℕ) → (f (Some kinds.OpenDelim) ≡ false) × (f (Some kinds.CloseDelim) ≡ false) × (f (Some kinds.Punct) ≡ false) → f (Some k) ≡ true → symbol_of (record { kind = k; text = z; at = 0 }) ≡ 0
    by kinds.OpenDelim z (n, o, q) e = absurd cc
    by kinds.CloseDelim z (o, n, q) e = absurd cc
    by kinds.Punct z (o, q, n) e = absurd cc
    by _ z q e = refl

-- a token of such a kind has no symbol
pub kind_symbol : (f : Option TokenKind → Bool) → is_flat_kind f ≡ true → (ts : Tokens) → f (kind ts) ≡ true → symbol ts ≡ 0
unfolding kind symbol
kind_symbol f p ts e = kind_first f p ts.left e

identifier_first : (left : List Piece) → by_first false (λ t. identifies t.kind) left ≡ true → by_first 0 symbol_of left ≡ 0
identifier_first [] e = refl
identifier_first (t ∷ left) e = by t.kind t.text e
  where
    by : (k : TokenKind) (z : List ℕ) → identifies k ≡ true → symbol_of (record { kind = k; text = z; at = 0 }) ≡ 0
    by kinds.Ident z e = refl
    by kinds.RawIdent z e = refl
    by _ z e = absurd cc

pub at_identifier_symbol : (ts : Tokens) → is_at_identifier ts ≡ true → symbol ts ≡ 0
unfolding is_at_identifier symbol
at_identifier_symbol ts e = identifier_first ts.left e

pub under : (n m : ℕ) → nat_le n m ≡ true → n ≤ m
under n m e = grind (arith, nat_tests)

-- a kind of symbols to which none belongs
module _ (bars : ℕ → Bool) (free : bars 0 ≡ false) where
  no_symbol : (ts : Tokens) → symbol ts ≡ 0 → bars (symbol ts) ≡ false
  no_symbol ts e = ap bars e ∙ free

  other_symbol : (c : ℕ) (ts : Tokens) → (symbol ts == c) ≡ true → bars c ≡ false → bars (symbol ts) ≡ false
  other_symbol c ts e f = ap bars (eqb-true (symbol ts) c e) ∙ f

  pair_clear : (c d : ℕ) (ts : Tokens) → is_pair c d ts ≡ true → AreClear bars (if bars c then 0 else (if bars d then 1 else 2)) ts
  unfolding is_pair
  pair_clear c d ts e =
      let p = and_parts (symbol ts == c) (is_glued (bumped ts) && symbol (bumped ts) == d) e in
      two_unless bars (bars c) (bars d) ts (other_symbol c ts p.0) (other_symbol d (bumped ts) (and_parts (is_glued (bumped ts)) (symbol (bumped ts) == d) p.1).1)

  pub seen_clear : (l : Lookahead) (ts : Tokens) → sees l ts ≡ true → AreClear bars (clear_of bars l) ts
  seen_clear (kind_is f) ts e = one_if bars (is_flat_kind f) ts (λ k. no_symbol ts (kind_symbol f k ts e))
  seen_clear (symbol_is c) ts e = one_unless bars (bars c) ts (other_symbol c ts e)
  seen_clear (word_is w) ts e = one_unless bars (bytes_eq [] w) ts (λ k. no_symbol ts (word_symbol w ts k e))
  seen_clear at_identifier ts e = (no_symbol ts (at_identifier_symbol ts e), tt)
  seen_clear (pair_is c d) ts e = pair_clear c d ts e
  seen_clear (both_seen l m) ts e =
      let s = and_parts (sees l ts) (sees m ts) e in
      clear_more bars (clear_of bars l) (clear_of bars m) ts (seen_clear l ts s.0) (seen_clear m ts s.1)
  seen_clear (either_seen l m) ts e =
      when (sees l ts)
      (λ s. clear_fewer bars _ (clear_of bars l) ts (min-le_left (clear_of bars l) (clear_of bars m)) (seen_clear l ts s))
      (λ s. let t : sees m ts ≡ true = rw s at e in clear_fewer bars _ (clear_of bars m) ts (min-le_right (clear_of bars l) (clear_of bars m)) (seen_clear m ts t))
  seen_clear (look_by l m k) ts e =
      let n = max (clear_of bars l) (clear_of bars m) in
      when (sees l ts)
      (λ s. let t : sees m ts ≡ true = rw s at e in clear_fewer bars _ n ts (min-le_left n (clear_of bars k)) (clear_more bars (clear_of bars l) (clear_of bars m) ts (seen_clear l ts s) (seen_clear m ts t)))
      (λ s. let t : sees k ts ≡ true = rw s at e in clear_fewer bars _ (clear_of bars k) ts (min-le_right n (clear_of bars k)) (seen_clear k ts t))
  seen_clear (then_seen l n m) ts e =
      let s = and_parts (sees l ts) (sees m (skip n ts)) e in
      clear_if bars (nat_le n (clear_of bars l)) (n + clear_of bars m) (clear_of bars l) ts
      (λ u. clear_join bars n (clear_of bars m) ts (clear_fewer bars n (clear_of bars l) ts (under n (clear_of bars l) u) (seen_clear l ts s.0)) (seen_clear m (skip n ts) s.1))
      (seen_clear l ts s.0)
  seen_clear _ ts e = tt

  -- the first so many
  pub first_clear : (l : Lookahead) (n : ℕ) (ts : Tokens) → nat_le n (clear_of bars l) ≡ true → sees l ts ≡ true → AreClear bars n ts
  first_clear l n ts u e = clear_fewer bars n (clear_of bars l) ts (under n (clear_of bars l) u) (seen_clear l ts e)

-- ---- the same is seen

skip_are : (b : Twins) (n : ℕ) (ts us : Tokens) → b.are ts us → AreClear is_edge n ts → b.are (skip n ts) (skip n us)
skip_are b zero ts us h w = h
skip_are b (suc n) ts us h w = skip_are b n (bumped ts) (bumped us) (b.next ts us h w.0) w.1

and_same : (p' p q' q : Bool) → p' ≡ p → (p ≡ true → q' ≡ q) → (p' && q') ≡ (p && q)
and_same p' true q' q e f = rw e (f refl)
and_same p' false q' q e f = rw e refl

pub token_same : {A : Type 0} (b : Twins) (view : View A) (ts us : Tokens) → b.are ts us → view us.edition (kind us) (text us) ≡ view ts.edition (kind ts) (text ts)
token_same b view ts us h =
    ap (λ y. view y (kind us) (text us)) (b.edition ts us h) ∙ ap (λ k. view ts.edition k (text us)) (kind_same b ts us h) ∙ ap (λ z. view ts.edition (kind ts) z) (text_same b ts us h)

pub past_are : (b : Twins) (test : Tokens → Bool) → ((ts us : Tokens) → b.are ts us → test us ≡ test ts) → ((ts : Tokens) → test ts ≡ true → is_edge (symbol ts) ≡ false)
    → (n : ℕ) (ts us : Tokens) → b.are ts us → b.are (past_from test n ts) (past_from test n us)
past_are b test alike off zero ts us h = h
past_are b test alike off (suc n) ts us h =
    when (test ts)
    (λ e. rw (alike ts us h, e) (past_are b test alike off n (bumped ts) (bumped us) (b.next ts us h (off ts e))))
    (λ e. rw (alike ts us h, e) h)

pub look_same : (b : Twins) (l : Lookahead) → stays_short l ≡ true → (ts us : Tokens) → b.are ts us → sees l us ≡ sees l ts
look_same b (fixed_look t) p ts us h = refl
look_same b (token_is view) p ts us h = token_same b view ts us h
look_same b (kind_is f) p ts us h = ap f (kind_same b ts us h)
look_same b (symbol_is c) p ts us h = symbol_test b c ts us h
look_same b (word_is w) p ts us h = word_test b w ts us h
look_same b (word_meets f) p ts us h = ap f (word_same b ts us h)
look_same b at_identifier p ts us h = identifier_same b ts us h
look_same b at_open p ts us h = open_same b ts us h
look_same b at_end p ts us h = end_same b ts us h
look_same b at_item p ts us h = begins_item_same b ts us h
look_same b (pair_is c d) p ts us h = pair_same b c d ts us (not-true (is_edge c) p) h
look_same b (not_seen l) p ts us h = ap not (look_same b l p ts us h)
look_same b (both_seen l m) p ts us h =
    let q = and_parts (stays_short l) (stays_short m) p in
    and_same (sees l us) (sees l ts) (sees m us) (sees m ts) (look_same b l q.0 ts us h) (λ _. look_same b m q.1 ts us h)
look_same b (either_seen l m) p ts us h =
    let q = and_parts (stays_short l) (stays_short m) p in
    ap (λ t. t || sees m us) (look_same b l q.0 ts us h) ∙ ap (λ t. sees l ts || t) (look_same b m q.1 ts us h)
look_same b (look_by l m k) p ts us h =
    let q = and_parts (stays_short l) (stays_short m && stays_short k) p in
    let r = and_parts (stays_short m) (stays_short k) q.1 in
    ap (λ t. if t then sees m us else sees k us) (look_same b l q.0 ts us h) ∙ ap (λ t. if sees l ts then t else sees k us) (look_same b m r.0 ts us h)
    ∙ ap (λ t. if sees l ts then sees m ts else t) (look_same b k r.1 ts us h)
look_same b (then_seen l n m) p ts us h =
    let q = and_parts (stays_short l) (nat_le n (clear_of is_edge l) && stays_short m) p in
    let r = and_parts (nat_le n (clear_of is_edge l)) (stays_short m) q.1 in
    and_same (sees l us) (sees l ts) (sees m (skip n us)) (sees m (skip n ts)) (look_same b l q.0 ts us h)
    (λ e. look_same b m r.1 (skip n ts) (skip n us) (skip_are b n ts us h (first_clear is_edge refl l n ts r.0 e)))
look_same b (past_seen l m) p ts us h =
    let q = and_parts (stays_short l) (nat_le 1 (clear_of is_edge l) && stays_short m) p in
    let r = and_parts (nat_le 1 (clear_of is_edge l)) (stays_short m) q.1 in
    look_same b m r.1 _ _ (past_are b (sees l) (look_same b l q.0) (λ ts e. (first_clear is_edge refl l 1 ts r.0 e).0) most_tokens ts us h)

-- what skips tokens is seen of both, and behind them they look alike too
pub skipped_same : (b : Twins) (l : Lookahead) (n : ℕ) → may_skip l n ≡ true → (ts us : Tokens) → b.are ts us → sees l us ≡ sees l ts
skipped_same b l n p = look_same b l (and_parts (stays_short l) (nat_le n (clear_of is_edge l)) p).0

pub skipped_are : (b : Twins) (l : Lookahead) (n : ℕ) (ts us : Tokens) → may_skip l n ≡ true → b.are ts us → sees l ts ≡ true → b.are (skip n ts) (skip n us)
skipped_are b l n ts us p h e = skip_are b n ts us h (first_clear is_edge refl l n ts (and_parts (stays_short l) (nat_le n (clear_of is_edge l)) p).1 e)

-- the next token is no edge
pub seen_no_edge : (l : Lookahead) (ts : Tokens) → may_skip l 1 ≡ true → sees l ts ≡ true → is_edge (symbol ts) ≡ false
seen_no_edge l ts p e = (first_clear is_edge refl l 1 ts (and_parts (stays_short l) (nat_le 1 (clear_of is_edge l)) p).1 e).0
