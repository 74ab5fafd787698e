-- The laws of all rules: what is left is left of what was given, and tokens that look alike are read alike.
use Rattle.std.proofs.Common.{◌≡◌, ℕ, zero, suc, Bool, true, false, Option, Some, None, List, [], ◌∷◌, refl, ap, if◌then◌else◌}
use Rattle.rust_cursor.proofs.Common.{EditionYear, TokenKind, Piece, symbol_of, Bodies, behind_closed, one, Reader, Tokens, by_first, symbol, kind, text, bumped}
use Rattle.rust_lexer.specs.declared.kind.TokenKind.TheVariants as kinds
use Rattle.rust_cursor.specs.Grammar.{Identifier, by_identifier, taken_with, Region, outside, inside, Grammar, gives, and_then, shows, takes_identifier, on_seen, eats, eats_word, eats_pair, passes_closed, passes_tree, passes_angles, passes_field, repeats, from_outside, takes_any, takes_text, in_bracket, reads}
use Rattle.rust_cursor.specs.Looks.{is_edge, past_from, sees, skip}
use Rattle.rust_cursor.proofs.TokenRests.{LeadsTo, here, further, through, Forwards, when, bumped_leads, eat_leads, eat_word_leads, eat_pair_leads, behind_closed_leads, behind_tree_leads, behind_angles_leads, reached_leads, turns_leads, taken_leads_on}
use Rattle.rust_cursor.proofs.LocalReaders.{Local}
use Rattle.rust_cursor.proofs.Looks.{look_same, skipped_are, skipped_same, token_same}
use Rattle.rust_cursor.proofs.PartingReaders.{Parting, Until, UpTo, Entering, gone, kept, by_kept, by_next, with_rest, then_until, cond_until, eat_until, eat_word_until, eat_pair_until, turns_until}
use Rattle.rust_cursor.proofs.SideReaders.{alongside, is_local}
use Rattle.rust_cursor.proofs.TwinTokens.{symbol_same}

-- ---- what is left

pub skip_leads : (n : ℕ) (ts : Tokens) → LeadsTo ts (skip n ts)
skip_leads zero ts = here
skip_leads (suc n) ts = further (skip_leads n (bumped ts))

pub past_leads : (test : Tokens → Bool) (n : ℕ) (ts : Tokens) → LeadsTo ts (past_from test n ts)
past_leads test zero ts = here
past_leads test (suc n) ts = when (test ts) (λ e. rw e (further (past_leads test n (bumped ts)))) (λ e. rw e here)

taken_leads : {A : Type 0} (o : Option A) → Forwards (taken_with o)
taken_leads None ts = here
taken_leads (Some a) ts = bumped_leads ts

pub by_test : {A : Type 0} (t : Bool) (ts : Tokens) (p q : A × Tokens) → LeadsTo ts p.1 → LeadsTo ts q.1 → LeadsTo ts (if t then p else q).1
by_test true ts p q h k = h
by_test false ts p q h k = k

pub rule_leads : {s : Region} {A : Type 0} (g : Grammar s A) → Forwards (reads g)
rule_leads (gives a) ts = here
rule_leads (and_then m f) ts = through (rule_leads m ts) (rule_leads (f (reads m ts).0) (reads m ts).1)
rule_leads (shows view) ts = here
rule_leads (takes_identifier view) ts = taken_leads (by_identifier view ts.edition (kind ts) (text ts)) ts
rule_leads (on_seen l n p g h) ts = by_test (sees l ts) ts (reads g (skip n ts)) (reads h ts) (through (skip_leads n ts) (rule_leads g (skip n ts))) (rule_leads h ts)
rule_leads (eats c p) ts = eat_leads c ts
rule_leads (eats_word w p) ts = eat_word_leads w ts
rule_leads (eats_pair c d p q) ts = eat_pair_leads c d ts
rule_leads (passes_closed c) ts = behind_closed_leads c ts
rule_leads passes_tree ts = behind_tree_leads ts
rule_leads passes_angles ts = behind_angles_leads ts
rule_leads passes_field ts = reached_leads _ ts
rule_leads (repeats l p g) ts = turns_leads (sees l) (one (reads g)) (λ us. rule_leads g us) ts
rule_leads (from_outside g) ts = rule_leads g ts
rule_leads takes_any ts = bumped_leads ts
rule_leads takes_text ts = taken_leads_on _ _ ts
rule_leads (in_bracket g) ts = further (through (rule_leads g (bumped ts)) (behind_closed_leads (symbol ts) _))

-- ---- tokens that look alike

identifier_first : {A : Type 0} (view : Identifier A) (y : EditionYear) (a : A) (z : List ℕ) (left : List Piece) → by_identifier view y (by_first None (λ t. Some t.kind) left) z ≡ Some a → by_first 0 symbol_of left ≡ 0
identifier_first view y a z [] e = refl
identifier_first view y a z (t ∷ left) e = by t.kind t.text e
  where
    by : (k : TokenKind) (x : List ℕ) → by_identifier view y (Some k) z ≡ Some a → symbol_of (record { kind = k; text = x; at = 0 }) ≡ 0
    by kinds.Ident x e = refl
    by kinds.RawIdent x e = refl
    by _ x e = absurd cc

-- an identifier has no symbol
pub identifier_symbol : {A : Type 0} (view : Identifier A) (a : A) (ts : Tokens) → by_identifier view ts.edition (kind ts) (text ts) ≡ Some a → symbol ts ≡ 0
unfolding kind symbol
identifier_symbol view a ts e = identifier_first view ts.edition a (text ts) ts.left e

taken_until : {A : Type 0} (b : Parting) (o o' : Option A) (ts us : Tokens) → o' ≡ o → b.twins.are ts us → ((a : A) → o ≡ Some a → b.twins.are (bumped ts) (bumped us)) → Until b (taken_with o ts) (taken_with o' us)
taken_until b None o' ts us e h next = rw e (kept (record { value = refl; rest = h }))
taken_until b (Some a) o' ts us e h next = rw e (kept (record { value = refl; rest = next a refl }))

-- readers of what stands in a bracket
pub inside_until : {A : Type 0} (b : Parting) → Entering b → (m m' : Reader A) → Forwards m → Forwards m' → UpTo b m m'
    → UpTo b (λ ts. ((m (bumped ts)).0, behind_closed (symbol ts) (m (bumped ts)).1)) (λ ts. ((m' (bumped ts)).0, behind_closed (symbol ts) (m' (bumped ts)).1))
inside_until b e m m' f f' u ts us h =
    let r = m (bumped ts) in
    let r' = m' (bumped us) in
    by_next (e.onward ts us h)
    (λ g. gone (b.lost_on (bumped ts) (bumped us) _ _ g (through (f (bumped ts)) (behind_closed_leads (symbol ts) r.1)) (through (f' (bumped us)) (behind_closed_leads (symbol us) r'.1))))
    (λ n. by_kept (u (bumped ts) (bumped us) n)
    (λ g. gone (b.lost_on r.1 r'.1 _ _ g (behind_closed_leads (symbol ts) r.1) (behind_closed_leads (symbol us) r'.1)))
    (λ k. rw (symbol_same b.twins ts us h) (by_next (b.closed (symbol ts) r.1 r'.1 k.rest) (λ g. gone g) (λ k'. kept (record { value = k.value; rest = k' })))))

from_outside_none : (b : Parting) → outside ≡ inside → Entering b
from_outside_none b e = absurd cc

-- a rule reads both alike, until one goes past where the texts part; only one of the inside asks what is known of any token
pub rule_until_by : {s : Region} {A : Type 0} (b : Parting) → (s ≡ inside → Entering b) → (g : Grammar s A) → UpTo b (reads g) (reads g)
rule_until_by b e (gives a) ts us h = kept (record { value = refl; rest = h })
rule_until_by b e (and_then m f) ts us h =
    then_until b (λ a. reads (f a)) (λ a. reads (f a)) (λ a. rule_leads (f a)) (λ a. rule_leads (f a)) (λ a. rule_until_by b e (f a)) (rule_until_by b e m ts us h)
rule_until_by b e (shows view) ts us h = kept (record { value = token_same b.twins view ts us h; rest = h })
rule_until_by b e (takes_identifier view) ts us h =
    taken_until b (by_identifier view ts.edition (kind ts) (text ts)) (by_identifier view us.edition (kind us) (text us)) ts us (token_same b.twins (by_identifier view) ts us h) h
    (λ a t. b.twins.next ts us h (ap is_edge (identifier_symbol view a ts t)))
rule_until_by b e (on_seen l n p g k) ts us h =
    cond_until (skipped_same b.twins l n p ts us h) (λ t. rule_until_by b e g (skip n ts) (skip n us) (skipped_are b.twins l n ts us p h t)) (λ _. rule_until_by b e k ts us h)
rule_until_by b e (eats c p) ts us h = eat_until b c p ts us h
rule_until_by b e (eats_word w p) ts us h = eat_word_until b w p ts us h
rule_until_by b e (eats_pair c d p q) ts us h = eat_pair_until b c d p q ts us h
rule_until_by b e (passes_closed c) ts us h = with_rest tt (b.closed c ts us h)
rule_until_by b e passes_tree ts us h = with_rest tt (b.tree ts us h)
rule_until_by b e passes_angles ts us h = with_rest tt (b.angles ts us h)
rule_until_by b e passes_field ts us h = with_rest tt (b.field ts us h)
rule_until_by b e (repeats l p g) ts us h =
    turns_until b (sees l) (reads g) (reads g) (look_same b.twins l p) (rule_until_by b e g) (λ ts. rule_leads g ts) (λ ts. rule_leads g ts) ts us h
rule_until_by b e (from_outside g) ts us h = rule_until_by b (from_outside_none b) g ts us h
rule_until_by b e takes_any ts us h = with_rest tt ((e refl).onward ts us h)
rule_until_by b e takes_text ts us h = (e refl).text ts us h
rule_until_by b e (in_bracket g) ts us h = inside_until b (e refl) (reads g) (reads g) (rule_leads g) (rule_leads g) (rule_until_by b e g) ts us h

pub rule_until : {A : Type 0} (b : Parting) (g : Grammar outside A) → UpTo b (reads g) (reads g)
rule_until b g = rule_until_by b (from_outside_none b) g

-- what a rule reads of tokens beside is the same
pub rule_local : {A : Type 0} (b : Bodies) (g : Grammar outside A) → Local b (reads g)
rule_local b g = is_local b (reads g) (rule_until (alongside b) g)
