-- What a turn finds: problems that were told stay, and an item has a byte at least.
use Rattle.std.proofs.Common.{append-nil, length, arith, ◌≤◌, length-append, ◌≡◌, ◌<◌, ℕ, Bool, Option, Some, None, List, [], ◌∷◌, ◌++◌, map, refl, sym, ap, ◌∙◌, subst, append_assoc}
use Rattle.rust_edits.proofs.Common.{Problem, and_problem, and_all, option_to_list, AstIdKind, ItemView, no_items, item_and, items_from, Tokens, at, is_at_end, TextRange, Head, FrontRead, front, leaf, LeafRead, NameRead, written_name, no_name, ItemPlace, Found, Finder, BlockRead, span_of, and_parent, leaf_found, leaf_turn, extern_block, by_head, inside, depth_of, turn, Telling, ArePlaces, placed, append_cancel_left, IsLaid, behind, when, front_start, Span, place_span, adds_use_trees, adds_problem_at, adds_item, turn_found}
use Rattle.hir_input.specs.declared.ids.AstIdKind.TheVariants as kind
use Rattle.rust_leaves.specs.declared.head.Head.TheVariants as heads
use Rattle.rust_items.specs.declared.log.ProblemKind.TheVariants as problem
use Rattle.rust_edits.proofs.Adding.{IfLeaf, any_place, Keeping}
use Rattle.rust_edits.proofs.Adding as adding
use Rattle.rust_edits.proofs.ItemJoins.EndingItems.{told}

-- ---- problems stay

any_leaf : (o : Option LeafRead) → IfLeaf (λ _. Unit {0}) (λ _. Unit {0}) o
any_leaf None = tt
any_leaf (Some l) = (tt, any_place l.too_deep)

-- behind the problems that were told, more are
pub record Keeps (f g : Found) : Type 0 where
  pub more : List Problem
  pub is : g.problems ≡ f.problems ++ more

pub keeps_same : (f : Found) → Keeps f f
keeps_same f = record { more = []; is = sym (append-nil f.problems) }

pub keeps_both : (f g h : Found) → Keeps f g → Keeps g h → Keeps f h
keeps_both f g h i j = record { more = i.more ++ j.more; is = j.is ∙ ap (λ l. l ++ j.more) i.is ∙ append_assoc f.problems i.more j.more }

keeps_on : (f g h : Found) (ps : List Problem) → h.problems ≡ g.problems ++ ps → Keeps f g → Keeps f h
keeps_on f g h ps e i = keeps_both f g h i (record { more = ps; is = e })

abbrev keeping : Keeping 0
keeping = record {
  keeps = Keeps;
  place = λ n. Unit {0};
  body = λ o. Unit {0};
  reached = λ ts. Unit {0};
  same = keeps_same;
  joined = keeps_both;
  told = λ f g k n s h. keeps_on f g (and_problem k n g) _ refl h;
  row = λ f g r s b h. record { more = h.more; is = h.is };
  uses = λ f g ns h. record { more = h.more; is = h.is };
  held = λ f g more i h. keeps_on f g (and_all more g) more.problems refl h;
  none = tt;
  on = λ ts us q l. tt;
  behind = λ each finds f ts l. tt;
  starts = λ ts l. tt;
  leaves = λ h ts l. any_leaf (leaf h ts).0;
}

pub turn_kept : (left : ℕ) (f : Found) (ts : Tokens) → Keeps f (turn left f ts).1.0
turn_kept left f ts = adding.turn_keeps 0 keeping left f ts tt

-- no fewer are told
pub turn_keeps : (left : ℕ) (f : Found) (ts : Tokens) → told f ≤ told (turn left f ts).1.0
turn_keeps left f ts = let k = turn_kept left f ts in let sum = length-append f.problems k.more in let all = ap length k.is in omega arith

-- ---- the range of an item

-- an item was found that begins and ends there
pub record IsFound (f g : Found) (start end : ℕ) : Type 0 where
  pub span : Span
  pub more : List Span
  pub spans : g.spans ≡ f.spans ++ span ∷ more
  pub range : span.range ≡ record { start = start; end = end }

leaf_is : (depth start : ℕ) (o : Option LeafRead) (f : Found) (ts : Tokens) (i : ItemView) → (leaf_found depth start o f ts).0 ≡ Some i → IsFound f (leaf_found depth start o f ts).1.0 start (leaf_found depth start o f ts).1.1.past
leaf_is depth start None f ts i e = absurd cc
leaf_is depth start (Some l) f ts i e = record {
  span = span_of start ts.past l.body l.named;
  more = [];
  spans = (adds_use_trees l.use_trees (adds_problem_at problem.TooDeep l.too_deep (adds_item f depth start ts.past l.body l.kind l.name l.named l.is_ended))).spans;
  range = refl;
}

parent_is : (depth start end : ℕ) (k : AstIdKind) (n : NameRead) (ended : Bool) (inner f : Found) → IsFound f (and_parent depth start end k n ended inner f) start end
parent_is depth start end k n ended inner f = record {
  span = span_of start end None n.range;
  more = inner.spans;
  spans = ap (λ l. l ++ inner.spans) (adds_item f depth start end None k n.hashed n.range ended).spans ∙ append_assoc f.spans (span_of start end None n.range ∷ []) inner.spans;
  range = refl;
}

head_is : (inside : Finder BlockRead) (depth : ℕ) (w : Head) (h : FrontRead) (f : Found) (ts : Tokens) (i : ItemView) → (by_head inside depth w h f ts).0 ≡ Some i
    → IsFound f (by_head inside depth w h f ts).1.0 h.start (by_head inside depth w h f ts).1.1.past
unfolding extern_block leaf_turn
head_is inside depth heads.Module h f ts i e = parent_is depth h.start _ kind.Module (written_name ts).0 _ _ f
head_is inside depth heads.ExternBlock h f ts i e = parent_is depth h.start _ kind.ExternBlock no_name _ _ f
head_is inside depth _ h f ts i e = leaf_is depth h.start (leaf h ts).0 f (leaf h ts).1 i e

pub turn_is : (left : ℕ) (f : Found) (ts : Tokens) (i : ItemView) → (turn left f ts).0 ≡ Some i → IsFound f (turn left f ts).1.0 (at ts) (turn left f ts).1.1.past
unfolding turn
turn_is left f ts i e =
    when (is_at_end ts) (λ g. absurd (let no = rw g at e in cc))
    (λ g. rw g (subst (λ (n : ℕ). IsFound f (by_head (inside left) (depth_of left) (front ts).0.head (front ts).0 f (front ts).1).1.0 n (by_head (inside left) (depth_of left) (front ts).0.head (front ts).0 f (front ts).1).1.1.past) (front_start ts)
    (head_is (inside left) (depth_of left) (front ts).0.head (front ts).0 f (front ts).1 i (rw g at e))))

pub same_first : {A : Type 0} (a b : A) (xs ys : List A) → a ∷ xs ≡ b ∷ ys → a ≡ b
same_first a b xs ys e = cc

strict_from : {N : Telling} {from to : ℕ} {i : ItemView} {ps : List ItemPlace} → ArePlaces N from to (item_and i no_items) ps [] → (s : Span) (more : List Span) → s ∷ more ≡ map place_span ps → s.range.start < s.range.end
strict_from (placed {p = p} {ps = ps} place inside behind) s more e = subst (λ (t : Span). t.range.start < t.range.end) (sym (same_first s (place_span p) more (map place_span ps) e)) place.some

strict_by : {N : Telling} {from to : ℕ} {ps : List ItemPlace} (o : Option ItemView) (i : ItemView) → o ≡ Some i → ArePlaces N from to (items_from (option_to_list o)) ps [] → (s : Span) (more : List Span) → s ∷ more ≡ map place_span ps
    → s.range.start < s.range.end
strict_by None i e are s more f = absurd cc
strict_by (Some j) i e are s more f = strict_from are s more f

-- it has a byte at least
pub turn_strict : (end left : ℕ) (f : Found) (ts : Tokens) (i : ItemView) → IsLaid end ts → (turn left f ts).0 ≡ Some i → at ts < (turn left f ts).1.1.past
turn_strict end left f ts i laid e =
    let a = turn_found end left f ts laid in
    let r = turn_is left f ts i e in
    let same : r.span ∷ r.more ≡ map place_span a.places = append_cancel_left f.spans (r.span ∷ r.more) (map place_span a.places) (sym r.spans ∙ a.adds.spans) in
    let less = strict_by (turn left f ts).0 i e a.are r.span r.more same in
    subst (λ (t : TextRange). t.start < t.end) r.range less
