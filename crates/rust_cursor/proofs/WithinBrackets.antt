-- What reads in braces and stays in them leaves the `}` of the braces around where it is.
use Rattle.std.proofs.Common.{◌≡◌, ◌≢◌, ℕ, zero, suc, ◌==◌, ◌&&◌, Bool, true, false, Option, None, List, [], ◌∷◌, refl, ap, ◌∙◌, sym, subst, arith, bytes_eq}
use Rattle.rust_cursor.proofs.Common.{eqb-true, or_parts, nat_tests, TokenKind, Piece, symbol_of, Nest, Reach, Tokens, Reader, opens, closes, word_by, by_first, symbol, word, is_empty, is_at_open, is_at_end, bumped, is_glued, is_pair, eat_pair, opens_other, braces_behind, is_flat, is_mark, nest_behind, behind_closing, to_closing, behind_closed, behind_tree, progress_from, turns_from, turns, elements, stops, ends, opened_behind, more, taking, excerpt_behind, tree_text, closes_around, is_reached, is_closed, reach_from, reach_end, behind_angles}
use Rattle.rust_lexer.specs.declared.kind.TokenKind.TheVariants as kinds
use Rattle.rust_cursor.specs.declared.cursor.generics.Reach.TheVariants as reaches
use Rattle.rust_cursor.specs.declared.cursor.texts.Extent.TheVariants as extents
use Rattle.rust_cursor.proofs.TokenRests.{behind_closing_leads, bumped_leads, LeadsTo, here, through, Forwards, when, from_last, symbol_some, beyond_leads, stops_empty, reached_empty}
use Rattle.rust_cursor.proofs.Scans.{taking_stop, taking_end, taking_more}
use Rattle.rust_cursor.proofs.Reaches.{reaching_stop, reaching_end, reaching_more}
use Rattle.rust_cursor.proofs.TokenPlaces.{IsLaid, behind}
use Rattle.rust_cursor.proofs.LocalReaders.{both_true}
use Rattle.rust_cursor.proofs.ClosingBrace.{Seen, Shuts, around, by_brace, by_other, from_flat, is_plain, next_of, other_around, others_next, out_curly, out_round, plain_upto, seen_at, seen_next, shut_not, still_there, to_around, upto, upto_more}
use Rattle.rust_cursor.proofs.SoundTokens.{IsSound, NoCloser, OpensAt, closer_shuts, curly, end_is, not_end, open_is, opens_at, opens_no_closer, other_opens, round, sound_on}

-- ---- what stands in brackets

-- what ends around the one ends around the other, or before
abbrev pub Within : ℕ → Tokens → Tokens → Type 0
Within c us ts = LeadsTo (around c us) (around c ts)

pub same_within : (c : ℕ) (us ts : Tokens) → around c us ≡ around c ts → Within c us ts
same_within c us ts e = rw e here

-- where so many are open behind a bracket
record Enters (c : ℕ) (ts : Tokens) : Type 0 where
  braces : ℕ
  others : ℕ
  is : upto c braces others (bumped ts) ≡ around c ts
  out : around c ts ≡ around c (behind_closed (symbol ts) (bumped ts))

round_some : (ts : Tokens) → opens_other (symbol ts) ≡ true → is_empty ts ≡ false
round_some ts f = when (symbol ts == 40) (λ e. symbol_some 40 ts (omega arith) e) (λ e. let r = rw e at f in symbol_some 91 ts (omega arith) r)

enters : (c : ℕ) (ts : Tokens) → OpensAt (symbol ts) → Enters c ts
unfolding behind_closed to_closing
enters c ts (curly e) =
    let none = opens_no_closer (symbol ts) (curly e) in
    let is = eqb-true (symbol ts) 123 e in
    let first : around c ts ≡ upto c 1 0 (bumped ts) = upto_more c 0 0 ts (shut_not c 0 0 ts (symbol_some 123 ts (omega arith) e) (closer_shuts c 0 0 ts none)) ∙ ap (λ s. upto c (braces_behind 0 s) (others_next 0 0 s) (bumped ts)) is in
    record { braces = 1; others = 0; is = sym first; out = first ∙ out_curly c (bumped ts) 0 0 ∙ ap (λ s. around c (behind_closing s (upto s 0 0 (bumped ts)))) (sym is) }
enters c ts (round e f) =
    let none = other_opens (symbol ts) f in
    let b = symbol ts in
    let k : braces_behind 0 b ≡ 0 = rw (e, none.no_brace) refl in
    let j : others_next 0 0 b ≡ 1 = rw f refl in
    let first : around c ts ≡ upto c 0 1 (bumped ts) = upto_more c 0 0 ts (shut_not c 0 0 ts (round_some ts f) (closer_shuts c 0 0 ts none)) ∙ ap (λ m. upto c m (others_next 0 0 b) (bumped ts)) k ∙ ap (λ m. upto c 0 m (bumped ts)) j in
    record { braces = 0; others = 1; is = sym first; out = first ∙ out_round c b (bumped ts) 0 0 e }

-- behind the bracket
pub entered_within : (c : ℕ) (ts : Tokens) → OpensAt (symbol ts) → Within c (bumped ts) ts
entered_within c ts o = let e = enters c ts o in subst (λ (t : Tokens). LeadsTo (around c (bumped ts)) t) e.is (from_flat c e.braces e.others (bumped ts))

closing_within : (end c b : ℕ) (t all : Tokens) → IsLaid end t → Seen c t all → LeadsTo t all → (t ≡ all → ⊥) → LeadsTo (around c (behind_closing b t)) all
closing_within end c b t all h s p other =
    let next = seen_next end c t all h s p other in
    when (b == 123) (λ e. rw e next)
    (λ e. when (symbol t == 125) (λ f. rw (e, f) (subst (λ (u : Tokens). LeadsTo (around c t) u) s.is (from_flat c s.braces s.others t))) (λ f. rw (e, f) next))

-- behind the bracket that closes it, when this stands in it
pub inside_within : (end c : ℕ) (ts us : Tokens) → IsSound end ts → OpensAt (symbol ts) → LeadsTo (bumped ts) us → Within (symbol ts) us (bumped ts) → Within c (behind_closed (symbol ts) us) ts
unfolding behind_closed to_closing
inside_within end c ts us s o p w =
    let b = symbol ts in
    let e = enters c ts o in
    let last = around b (bumped ts) in
    let first = around b us in
    let out_last : around c ts ≡ around c (behind_closing b last) = e.out in
    let laid = (sound_on end (bumped_leads ts) s).laid in
    let reaches : LeadsTo (bumped ts) first = through p (to_around b us) in
    let first_laid = (behind end reaches laid).laid in
    let to_all : LeadsTo last (around c ts) = subst (λ (t : Tokens). LeadsTo last t) (sym out_last) (through (behind_closing_leads b last) (to_around c (behind_closing b last))) in
    when (first.past == last.past)
    (λ g. let same : last ≡ first = still_there end w first_laid (sym (eqb-true first.past last.past g)) in
    subst (λ (t : Tokens). LeadsTo (around c (behind_closing b t)) (around c ts)) same (rw out_last here))
    (λ g. let to_end : LeadsTo first (around c ts) = through w to_all in
    let seen = seen_at end c reaches laid e.braces e.others (subst (λ (t : Tokens). LeadsTo first t) (sym e.is) to_end) in
    let seen' : Seen c first (around c ts) = record { braces = seen.braces; others = seen.others; is = seen.is ∙ e.is } in
    closing_within end c b first (around c ts) first_laid seen' to_end (λ h. not_back end first last (around c ts) w to_all first_laid g h))
  where
    not_back : (end : ℕ) (first last all : Tokens) → LeadsTo first last → LeadsTo last all → IsLaid end first → (first.past == last.past) ≡ false → first ≡ all → ⊥
    not_back end first last all p q h g e =
        let one = (behind end p h).past in
        let two = (behind end q (behind end p h).laid).past in
        let same : first.past ≡ all.past = ap (λ (t : Tokens). t.past) e in
        let no : first.past ≢ last.past = grind (arith, nat_tests) in
        no (omega arith)

pub tree_within : (end c : ℕ) (ts : Tokens) → IsSound end ts → NoCloser (symbol ts) → Within c (behind_tree ts) ts
unfolding behind_tree
tree_within end c ts s n =
    when (is_at_open ts)
    (λ e. rw e (inside_within end c ts (bumped ts) s (opens_at end ts s e) here here))
    (λ e. let p = or_parts (symbol ts == 123) (opens_other (symbol ts)) (sym (open_is end ts s) ∙ e) in
    rw e (same_within c (bumped ts) ts (plain_upto c ts (record { opens_brace = p.0; closes_brace = n.no_brace; opens = p.1; closes = n.no_other }))))

beyond_within : (end c : ℕ) (ts us : Tokens) → IsSound end ts → LeadsTo ts us → NoCloser (symbol ts) → Within c us ts → Within c (progress_from ts.past us) ts
unfolding progress_from
beyond_within end c ts us s p n w =
    when (us.past == ts.past)
    (λ e. let same : us ≡ ts = still_there end p s.laid (eqb-true us.past ts.past e) in rw e (subst (λ (t : Tokens). Within c (behind_tree t) ts) (sym same) (tree_within end c ts s n)))
    (λ e. rw e w)

-- ---- readers

-- what it leaves stands in the same brackets, or in more
abbrev pub Remains : {A : Type 0} → ℕ → ℕ → Reader A → Type 0
Remains end c reader = (ts : Tokens) → IsSound end ts → Within c (reader ts).1 ts

turns_from_within : {A : Type 0} (end c : ℕ) (ends : Tokens → Bool) (reader : Reader (List A)) → Forwards reader → ((ts : Tokens) → IsSound end ts → ends ts ≡ false → Within c (reader ts).1 ts)
    → ((ts : Tokens) → IsSound end ts → ends ts ≡ false → NoCloser (symbol ts)) → (n : ℕ) (done : List A) → Remains end c (turns_from ends reader n done)
turns_from_within end c ends reader leads each shuts zero done ts s = here
turns_from_within end c ends reader leads each shuts (suc n) done ts s =
    when (ends ts) (λ e. rw e here)
    (λ e. rw e (through (turns_from_within end c ends reader leads each shuts n _ (progress_from ts.past (reader ts).1) (sound_on end (through (leads ts) (beyond_leads ts.past (reader ts).1)) s))
    (beyond_within end c ts (reader ts).1 s (leads ts) (shuts ts s e) (each ts s e))))

pub turns_within : {A : Type 0} (end c : ℕ) (ends : Tokens → Bool) (reader : Reader (List A)) → Forwards reader → ((ts : Tokens) → IsSound end ts → ends ts ≡ false → Within c (reader ts).1 ts)
    → ((ts : Tokens) → IsSound end ts → ends ts ≡ false → NoCloser (symbol ts)) → Remains end c (turns ends reader)
unfolding turns
turns_within end c ends reader leads each shuts ts s = turns_from_within end c ends reader leads each shuts _ [] ts s

pub elements_within : {A : Type 0} (end c : ℕ) (reader : Reader (List A)) → Forwards reader → Remains end c reader → Remains end c (elements reader)
elements_within end c reader leads each = turns_within end c is_at_end reader leads (λ ts s e. each ts s) (not_end end)

-- ---- walks

module _ {S : Type 0} (c : ℕ) (go : S → Nest → Tokens → Tokens) (step : S → Nest → Tokens → S) (stops ends : Nest → Tokens → Bool)
    (stop : (s : S) (n : Nest) (ts : Tokens) → stops n ts ≡ true → go s n ts ≡ ts)
    (end : (s : S) (n : Nest) (ts : Tokens) → stops n ts ≡ false → ends n ts ≡ true → go s n ts ≡ bumped ts)
    (more : (s : S) (n : Nest) (ts : Tokens) → stops n ts ≡ false → ends n ts ≡ false → go s n ts ≡ go (step s n ts) (nest_behind n ts) (bumped ts))
    (none : (n : Nest) (ts : Tokens) → is_empty ts ≡ true → stops n ts ≡ true)
    (Open : Nest → Tokens → Type 0) (shuts : (n : Nest) (ts : Tokens) → Open n ts → stops n ts ≡ false → Shuts c n.braces n.others ts → ⊥)
    (on : (n : Nest) (ts : Tokens) → Open n ts → stops n ts ≡ false → ends n ts ≡ false → Open (nest_behind n ts) (bumped ts)) where
  -- one that passes nothing that closes what is around
  go_within : (ts : Tokens) (s : S) (n : Nest) → Open n ts → LeadsTo (around c (go s n ts)) (upto c n.braces n.others ts)
  go_within ts s n o =
      from_last (λ ts. (s : S) (n : Nest) → Open n ts → LeadsTo (around c (go s n ts)) (upto c n.braces n.others ts))
      (λ ts e s n o. rw (stop s n ts (none n ts e)) (from_flat c n.braces n.others ts))
      (λ ts e inner s n o. when (stops n ts)
      (λ p. rw (stop s n ts p) (from_flat c n.braces n.others ts))
      (λ p. let next : upto c n.braces n.others ts ≡ upto c (nest_behind n ts).braces (nest_behind n ts).others (bumped ts) = upto_more c n.braces n.others ts (shut_not c n.braces n.others ts e (shuts n ts o p)) ∙ sym (next_of c n ts) in
      when (ends n ts)
      (λ q. rw (end s n ts p q) (subst (λ (t : Tokens). LeadsTo (around c (bumped ts)) t) (sym next) (from_flat c (nest_behind n ts).braces (nest_behind n ts).others (bumped ts))))
      (λ q. rw (more s n ts p q) (subst (λ (t : Tokens). LeadsTo (around c (go (step s n ts) (nest_behind n ts) (bumped ts))) t) (sym next) (inner (step s n ts) (nest_behind n ts) (on n ts o p q))))))
      ts s n o

-- the end of what is around
around_closed : (end c : ℕ) (n : Nest) (ts : Tokens) → IsSound end ts → Shuts c n.braces n.others ts → is_empty ts ≡ false → closes_around n ts ≡ true
around_closed end c n ts s (by_brace z f) e = rw f refl
around_closed end c n ts s (by_other z y g f h) e =
    let here_end : is_at_end ts ≡ true = end_is end ts s e ∙ rw (h, f) refl in
    rw (h, y, here_end) refl

not_shut : {A : Type 0} (end c : ℕ) (n : Nest) (ts : Tokens) → IsSound end ts → is_empty ts ≡ false → (n.braces ≡ 0 → closes_around n ts ≡ false) → Shuts c n.braces n.others ts → A
not_shut end c n ts s e p (by_brace z f) = absurd (let yes = around_closed end c n ts s (by_brace z f) e in let no = p z in cc)
not_shut end c n ts s e p (by_other z y g f h) = absurd (let yes = around_closed end c n ts s (by_other z y g f h) e in let no = p z in cc)

-- one that stops at the end of what is around
abbrev Bars : Reach → Type 0
Bars r = (n : Nest) (ts : Tokens) → is_empty ts ≡ false → n.braces ≡ 0 → closes_around n ts ≡ true → is_reached r n ts ≡ true

angles_bar : Bars reaches.Angles
unfolding is_reached
angles_bar n ts e z f = rw (e, z, f) refl

module _ (end c : ℕ) (r : Reach) (bars : Bars r) where
  no_bar : (n : Nest) (ts : Tokens) → is_reached r n ts ≡ false → is_empty ts ≡ false → n.braces ≡ 0 → closes_around n ts ≡ false
  no_bar n ts p e z = when (closes_around n ts) (λ f. let yes = bars n ts e z f in absurd cc) (λ f. f)

  not_none : (n : Nest) (ts : Tokens) → is_reached r n ts ≡ false → is_empty ts ≡ false
  not_none n ts p = when (is_empty ts) (λ e. let yes = reached_empty r n ts e in absurd cc) (λ e. e)

  reached_within : (ts : Tokens) → IsSound end ts → Within c (reach_end r ts) ts
  unfolding reach_end
  reached_within ts s =
      go_within c (λ (s : Unit {0}) n ts. reach_from r n ts) (λ s n ts. s) (is_reached r) (λ n ts. is_closed r (nest_behind n ts))
      (λ s n ts p. reaching_stop r n ts p) (λ s n ts p q. reaching_end r n ts p q) (λ s n ts p q. reaching_more r n ts p q) (reached_empty r)
      (λ n ts. IsSound end ts) (λ n ts o p h. not_shut end c n ts o (not_none n ts p) (no_bar n ts p (not_none n ts p)) h) (λ n ts o p q. sound_on end (bumped_leads ts) o) ts tt _ s

pub behind_angles_within : (end c : ℕ) (ts : Tokens) → IsSound end ts → Within c (behind_angles ts) ts
unfolding behind_angles
behind_angles_within end c ts s = when (symbol ts == 60) (λ e. rw e (reached_within end c reaches.Angles angles_bar ts s)) (λ e. rw e here)

-- the next token closes nothing that a tree stands in
abbrev NoEnd : Nest → Tokens → Type 0
NoEnd n ts = is_flat n ≡ true → NoCloser (symbol ts)

tree_shuts : (c : ℕ) (n : Nest) (ts : Tokens) → NoEnd n ts → stops extents.Tree n ts ≡ false → Shuts c n.braces n.others ts → ⊥
unfolding stops
tree_shuts c n ts o p (by_other z y g f h) = let none = o (rw (z, y) refl) in closer_shuts c 0 0 ts none (by_other refl refl g f h)
tree_shuts c n ts o p (by_brace z f) =
    when (n.others == 0)
    (λ y. let none = o (rw (z, y) refl) in closer_shuts c 0 0 ts none (by_brace refl f))
    (λ y. when (is_empty ts) (λ e. absurd (let no = rw e at p in cc)) (λ e. absurd (let no = rw (e, z, y, f) at p in cc)))

tree_on : (n : Nest) (ts : Tokens) → ends extents.Tree (is_mark n.before) (nest_behind n ts) ts ≡ false → NoEnd (nest_behind n ts) (bumped ts)
unfolding ends
tree_on n ts q f = absurd (let no = rw f at q in cc)

abbrev State : Type 0
State = List ℕ × ℕ × Option Tokens

pub tree_text_within : (c : ℕ) (ts : Tokens) → NoCloser (symbol ts) → Within c (tree_text ts).1 ts
unfolding excerpt_behind
tree_text_within c ts f =
    go_within c (λ (s : State) n ts. (taking extents.Tree s.0 s.1 s.2 n ts).1) (λ s n ts. (more extents.Tree s.1 s.0 ts, symbol ts, opened_behind s.2 n ts)) (stops extents.Tree) (λ n ts. ends extents.Tree (is_mark n.before) (nest_behind n ts) ts)
    (λ s n ts p. ap (λ r. r.1) (taking_stop extents.Tree s.0 s.1 s.2 n ts p)) (λ s n ts p q. ap (λ r. r.1) (taking_end extents.Tree s.0 s.1 s.2 n ts p q)) (λ s n ts p q. ap (λ r. r.1) (taking_more extents.Tree s.0 s.1 s.2 n ts p q))
    (stops_empty extents.Tree) NoEnd (λ n ts o p h. tree_shuts c n ts o p h) (λ n ts o p q. tree_on n ts q) ts ([], 0, None) _ (λ _. f)

-- ---- words

word_first : (w : List ℕ) (left : List Piece) → bytes_eq [] w ≡ false → bytes_eq (by_first [] (λ t. word_by t.kind t.text) left) w ≡ true → by_first 0 symbol_of left ≡ 0
word_first w [] empty e = absurd cc
word_first w (t ∷ left) empty e = by t.kind t.text e
  where
    by : (k : TokenKind) (z : List ℕ) → bytes_eq (word_by k z) w ≡ true → symbol_of (record { kind = k; text = z; at = 0 }) ≡ 0
    by kinds.Ident z e = refl
    by _ z e = absurd cc

-- a word has no symbol
pub word_symbol : (w : List ℕ) (ts : Tokens) → bytes_eq [] w ≡ false → bytes_eq (word ts) w ≡ true → symbol ts ≡ 0
unfolding word symbol
word_symbol w ts empty e = word_first w ts.left empty e

pub pair_around : (c a b : ℕ) (ts : Tokens) → is_plain a ≡ true → is_plain b ≡ true → is_pair a b ts ≡ true → around c (bumped (bumped ts)) ≡ around c ts
unfolding is_pair
pair_around c a b ts f g e =
    let first = both_true (symbol ts == a) (is_glued (bumped ts) && symbol (bumped ts) == b) e in
    let second = both_true (is_glued (bumped ts)) (symbol (bumped ts) == b) first.1 in
    other_around c b (bumped ts) g second.1 ∙ other_around c a ts f first.0

pub eat_pair_around : (c a b : ℕ) (ts : Tokens) → is_plain a ≡ true → is_plain b ≡ true → around c (eat_pair a b ts).1 ≡ around c ts
unfolding eat_pair
eat_pair_around c a b ts f g = when (is_pair a b ts) (λ e. rw e (pair_around c a b ts f g e)) (λ e. rw e refl)
