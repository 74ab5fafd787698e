-- Problems stand in the text.
use Rattle.std.proofs.Common.{◌≡◌, ◌≤◌, ◌+◌, ◌&&◌, ℕ, true, Option, Some, None, List, [], ◌∷◌, ◌++◌, length, refl, ap, sym, subst, ◌∙◌, arith, length-append, map}
use Rattle.rust_edits.proofs.Common.{is_some, Visibility, EditionYear, MetaView, Piece, is_terminated, tokens, text_of, AreInPlace, behind_closed, behind_tree, behind_angles, progress_from, tree_text, Tokens, end_of, last_unended, tokens_of, at, by_first, is_glued, bumped, use_tree, path, inner_attributes, Head, FrontRead, LeafRead, is_called, begins_call, leaf_by, leaf, constant, structure, implementation, crate_item, use_declaration, macro_definition, invocation, item_call, Problem, nothing_found, found_in, read_of, All, with_feeds, place_in, moved_problem, AreLaid, IsLaid, behind, tokens_laid, LeadsTo, here, further, through, when, bumped_leads, behind_closed_leads, behind_tree_leads, behind_angles_leads, beyond_leads, taken_leads_on, on, gone, kept, Parting, Entering, IsAlike, neither, both, inner_attributes_leads, items_found, All-nil, All-cons, place_le, place_rises_in, place_within, tokens_lossless, tokens_placed, SameFound, use_tree_until, behind_field, reached_leads, plain_leaf}
use Rattle.rust_cursor.proofs.PartingReaders.{UntilBy}
use Rattle.rust_edits.proofs.Adding.{IfPlace, IfLeaf, Keeping, maybe, items_keeps}
use Rattle.rust_edits.specs.Typing.Problems.{ProblemsStand}
use Rattle.rust_leaves.specs.declared.head.Head.TheVariants as heads
use Rattle.rust_items.specs.declared.log.ProblemKind.TheVariants as problem
use Rattle.rust_cursor.specs.Grammar.{reads}
use Rattle.rust_cursor.specs.Looks.{sees}

-- ---- where tokens stand

past_in : (end past : ℕ) (left : List Piece) → AreLaid end past left → past ≤ end
past_in end past [] h = h
past_in end past (t ∷ ts) h = let rest = past_in end (end_of t) ts h.1 in let first : past ≤ t.at = h.0.0 in omega (arith, rest, first)

first_in : (end past : ℕ) (left : List Piece) → AreLaid end past left → by_first past (λ (t : Piece). t.at) left ≤ end
first_in end past [] h = h
first_in end past (t ∷ ts) h = let rest = past_in end (end_of t) ts h.1 in omega (arith, rest)

at_in : (end : ℕ) (ts : Tokens) → IsLaid end ts → at ts ≤ end
unfolding at
at_in end ts h = first_in end ts.past ts.left h.laid

-- a place that there may be
abbrev pub MaybeIn : ℕ → Option ℕ → Type 0
MaybeIn end o = IfPlace (λ n. n ≤ end) o

-- ---- use trees: a text is read as it is itself

module _ (end : ℕ) where
  abbrev Itself : Tokens → Tokens → Type 0
  Itself ts us = (us ≡ ts) × IsLaid end ts

  itself_on : (f : Tokens → Tokens) → ((ts : Tokens) → LeadsTo ts (f ts)) → (ts us : Tokens) → Itself ts us → Itself (f ts) (f us)
  itself_on f leads ts us h = (ap f h.0, (behind end (leads ts) h.1).laid)

  abbrev itself : Parting
  itself = record {
    twins = record {
      are = Itself;
      edition = λ ts us h. ap (λ (t : Tokens). t.edition) h.0;
      first = λ A d v s ts us h. ap (λ (t : Tokens). by_first d v t.left) h.0;
      glued = λ ts us h. ap is_glued h.0;
      next = λ ts us h f. itself_on bumped bumped_leads ts us h;
    };
    lost = λ ts us. ⊥;
    lost_on = λ ts us vs ws g p q. g;
    closed = λ c ts us h. on (itself_on (behind_closed c) (behind_closed_leads c) ts us h);
    tree = λ ts us h. on (itself_on behind_tree behind_tree_leads ts us h);
    angles = λ ts us h. on (itself_on behind_angles behind_angles_leads ts us h);
    field = λ ts us h. on (itself_on behind_field (reached_leads _) ts us h);
    passed = λ ts us ts' us' h k. on (ap (λ (t : Tokens). progress_from t.past us') h.0 ∙ ap (progress_from ts.past) k.0, (behind end (beyond_leads ts.past ts') k.1).laid);
  }

  abbrev enters : Entering itself
  enters = record {
    onward = λ ts us h. on (itself_on bumped bumped_leads ts us h);
    text = λ ts us h. kept (record { value = ap (λ (t : Tokens). (tree_text t).0) h.0; rest = (ap (λ (t : Tokens). (tree_text t).1) h.0, (behind end (taken_leads_on _ _ ts) h.1).laid) });
    place = λ n k. n ≤ end;
    at_place = λ ts us h. at_in end ts h.1;
  }

  maybe_in : {o o' : Option ℕ} → IsAlike (λ n k. n ≤ end) o o' → MaybeIn end o
  maybe_in neither = tt
  maybe_in (both h) = h

  tree_in : (ts : Tokens) → IsLaid end ts → MaybeIn end (use_tree ts).0.too_deep
  tree_in ts l = by (use_tree_until itself enters ts ts (refl, l))
    where
      by : UntilBy (SameFound (λ n k. n ≤ end)) Itself (λ ts us. ⊥) (use_tree ts) (use_tree ts) → MaybeIn end (use_tree ts).0.too_deep
      by (gone g) = absurd g
      by (kept k) = maybe_in k.value.too_deep

-- ---- items that hold none

abbrev LeafIn : ℕ → Option LeafRead → Type 0
LeafIn end o = IfLeaf (λ _. Unit {0}) (λ n. n ≤ end) o

call_in : (end : ℕ) (attrs : List MetaView) (ts : Tokens) → LeafIn end (item_call attrs ts).0
unfolding item_call invocation
call_in end attrs ts =
    when (begins_call ts) (λ e. rw e (when (is_some (reads path ts).0 && sees is_called (reads path ts).1) (λ f. rw f (tt, tt)) (λ f. rw f tt))) (λ e. rw e tt)

leaf_by_in : (end : ℕ) (k : Head) (attrs : List MetaView) (v : Option Visibility) (ts : Tokens) → IsLaid end ts → LeafIn end (leaf_by k attrs v ts).0
unfolding plain_leaf constant structure implementation crate_item use_declaration macro_definition
leaf_by_in end heads.Use attrs v ts l = (tt, tree_in end ts l)
leaf_by_in end heads.ExternBlock attrs v ts l = call_in end attrs ts
leaf_by_in end heads.Module attrs v ts l = call_in end attrs ts
leaf_by_in end heads.Other attrs v ts l = call_in end attrs ts
leaf_by_in end _ attrs v ts l = (tt, tt)

leaf_in : (end : ℕ) (h : FrontRead) (ts : Tokens) → IsLaid end ts → LeafIn end (leaf h ts).0
unfolding leaf
leaf_in end h ts l = leaf_by_in end h.head h.attrs h.visibility ts l

-- ---- what is found

abbrev pub AreIn : ℕ → List Problem → Type 0
AreIn end [] = Unit {0}
AreIn end (p ∷ ps) = (p.at ≤ end) × AreIn end ps

in_join : (end : ℕ) (ps qs : List Problem) → AreIn end ps → AreIn end qs → AreIn end (ps ++ qs)
in_join end [] qs h k = k
in_join end (p ∷ ps) qs h k = (h.0, in_join end ps qs h.1 k)

-- what is found stands there, if what was found does
abbrev standing : (end : ℕ) → Keeping end
standing end = record {
  keeps = λ f g. AreIn end f.problems → AreIn end g.problems;
  place = λ n. n ≤ end;
  body = λ o. Unit {0};
  reached = IsLaid end;
  same = λ f h. h;
  joined = λ f g h i j k. j (i k);
  told = λ f g k n s h i. in_join end g.problems (record { kind = k; at = n } ∷ []) (h i) (s, tt);
  row = λ f g r s b h. h;
  uses = λ f g ns h. h;
  held = λ f g more i h k. in_join end g.problems more.problems (h k) (i tt);
  none = tt;
  on = λ ts us q l. (behind end q l).laid;
  behind = λ each finds f ts l. (behind end (finds f ts l).leads l).laid;
  starts = λ ts l. at_in end ts l;
  leaves = λ h ts l. leaf_in end h ts l;
}

-- ---- whole texts

-- the last token is the same all along
pub unended_kept : {ts us : Tokens} → LeadsTo ts us → us.unended ≡ ts.unended
unfolding bumped
unended_kept here = refl
unended_kept (further p) = unended_kept p

last_in : (end place : ℕ) (last : Option ℕ) (ts : List Piece) → MaybeIn end last → AreInPlace place ts → place + length (text_of ts) ≤ end → MaybeIn end (last_unended last ts)
last_in end place last [] h p l = h
last_in end place last (t ∷ ts) h p l =
    let first : t.at ≡ place = p.0 in
    let long : length (t.text ++ text_of ts) ≡ length t.text + length (text_of ts) = length-append t.text (text_of ts) in
    when (is_terminated t)
    (λ e. rw e (last_in end (place + length t.text) None ts tt p.1 (omega (arith, long, l))))
    (λ e. rw e (last_in end (place + length t.text) (Some t.at) ts (omega (arith, first, long, l)) p.1 (omega (arith, long, l))))

unended_in : (edition : EditionYear) (x : List ℕ) → MaybeIn (length x) (tokens_of edition x).unended
unfolding tokens_of
unended_in edition x =
    let whole : length (text_of (tokens x)) ≡ length x = ap length (tokens_lossless x) in
    last_in (length x) 0 None (tokens x) tt (tokens_placed x) (omega (arith, whole))

pub read_leads : (edition : EditionYear) (x : List ℕ) → LeadsTo (tokens_of edition x) (read_of edition x).1.1
read_leads edition x =
    let p = inner_attributes_leads (tokens_of edition x) in
    let first = behind (length x) p (tokens_laid edition x) in
    through p (items_found (length x) true 128 nothing_found (inner_attributes (tokens_of edition x)).1 first.laid).leads

pub problems_in : (edition : EditionYear) (x : List ℕ) → AreIn (length x) (found_in edition x).problems
unfolding found_in
problems_in edition x =
    let p = inner_attributes_leads (tokens_of edition x) in
    let first = behind (length x) p (tokens_laid edition x) in
    maybe (length x) (standing (length x)) nothing_found (read_of edition x).1.0 problem.Unterminated (read_of edition x).1.1.unended
    (subst (MaybeIn (length x)) (sym (unended_kept (read_leads edition x))) (unended_in edition x))
    (items_keeps (length x) (standing (length x)) true 128 nothing_found (inner_attributes (tokens_of edition x)).1 first.laid) tt

-- ---- problems stand in the text

all_stand : (place : ℕ → ℕ) (end top : ℕ) → ((n : ℕ) → n ≤ end → place n ≤ top) → (ps : List Problem) → AreIn end ps → All (λ (p : Problem). p.at ≤ top) (map (moved_problem place) ps)
all_stand place end top f [] h = All-nil (λ (p : Problem). p.at ≤ top)
all_stand place end top f (p ∷ ps) h = All-cons (λ (p : Problem). p.at ≤ top) (moved_problem place p) (map (moved_problem place) ps) (f p.at h.0) (all_stand place end top f ps h.1)

place_top : (text : List ℕ) (n : ℕ) → n ≤ length (with_feeds text) → place_in text n ≤ length text
place_top text n l =
    let below = place_le (place_in text) (length (with_feeds text)) (place_rises_in text) n (length (with_feeds text)) l (omega arith) in
    let end = place_within text in
    omega (arith, below, end)

pub problems_stand : ProblemsStand
problems_stand edition text read f =
    subst (All (λ (p : Problem). p.at ≤ length text)) (sym f.problems)
    (all_stand (place_in text) (length (with_feeds text)) (length text) (place_top text) (found_in edition (with_feeds text)).problems (problems_in edition (with_feeds text)))
