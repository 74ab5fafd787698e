-- The problems of two texts that differ between the braces of one item are the same, where they stood or moved with the text.
use Rattle.std.proofs.Common.{◌≡◌, ◌≤◌, ◌<◌, ◌==◌, ◌||◌, ◌&&◌, ℕ, zero, suc, Bool, true, false, Option, Some, None, List, [], ◌∷◌, ◌++◌, map, refl, ap, sym, ◌∙◌, arith}
use Rattle.rust_edits.proofs.Common.{is_none, is_some, option_to_list, AstIdKind, MetaView, ItemView, ItemViews, Tokens, symbol, eat, is_at_end, bumped, most_tokens, progress_from, Bodies, Beside, TextRange, inner_attributes, Head, FrontRead, front, NameRead, LeafRead, no_name, written_name, leaf, Problem, ProblemKind, ItemPlace, Found, Finder, nothing_found, and_problem, and_problem_at, BlockRead, span_of, needs_name, and_flaw, and_item, and_leaf, and_parent, leaf_found, leaf_turn, finding_from, finding, is_list_end, block_of, as_extern, extern_kept, extern_found, extern_turn, extern_inside, extern_block, unmatched_token, inside_unless, module_with, some_item, by_head, turn_with, inside, turn, depth_of, items, begins_at, has_body, Telling, IsBodyIn, ArePlaces, placed, nat_tests, IsSound, sound_on, LeadsTo, further, through, when, eat_leads, AreAlike, no_more, one_more, alike_join, IsAlike, neither, both, SamePlace, at_place, behind_at, inner_attributes_leads, LeafAlike, named_leads, behind_others_leads, front_takes, front_start, Span, adds_item, adds_problem_at, adds_use_trees, AreFound, Finds, FindsIn, list_from, list_found, place_span, inside_found, turn_found, turn_with_found, extern_turn_found, extern_inside_found, unless_found, FrontAlike, front_until, BeginPlain, LeafLost, leaf_gone, item_without_bodies, eat_local, by_stayed, beyond_beside, behind_tree_beside, gone_on}
use Rattle.hir_input.specs.declared.ids.AstIdKind.TheVariants as kind
use Rattle.rust_cursor.proofs.BodyReaders.{Gone, by_kept, by_next, bumped_onward}
use Rattle.rust_cursor.proofs.Views.{symbol_same, empty_same, end_same}
use Rattle.rust_metas.proofs.BodyAttributes.{inner_attributes_until}
use Rattle.rust_leaves.specs.declared.head.Head.TheVariants as heads
use Rattle.rust_leaves.proofs.BodyFronts.{behind_others_beside}
use Rattle.rust_items.specs.declared.log.ProblemKind.TheVariants as problem
use Rattle.rust_items.specs.Items.{one_more as one_deeper}
use Rattle.rust_items.specs.Places.{nothing}
use Rattle.rust_items.proofs.BodyItems.{passed, plain_passed, side, unpassed_beside, turn_on, named_alike}
use Rattle.rust_edits.proofs.Typing.EndedRests.{SameLoose, SameFlaws, LeafTold, lost as leaf_lost, told as told_leaf, leaf_told}

-- ---- whose braces they are

-- of what was found behind the first, no item has its braces there
abbrev Misses : ℕ → Found → Found → Type 0
Misses at f g = has_body at g.spans ≡ has_body at f.spans

has_join : (at : ℕ) (xs ys : List Span) → has_body at (xs ++ ys) ≡ (has_body at xs || has_body at ys)
has_join at [] ys = refl
has_join at (x ∷ xs) ys = when (begins_at at x.body) (λ e. rw e refl) (λ e. rw e (has_join at xs ys))

pub or_none : (t : Bool) → (t || false) ≡ t
or_none t = grind (arith, nat_tests)

misses_more : (at : ℕ) (f g : Found) (more : List Span) → g.spans ≡ f.spans ++ more → has_body at more ≡ false → Misses at f g
misses_more at f g more is none = ap (has_body at) is ∙ has_join at f.spans more ∙ ap (λ t. has_body at f.spans || t) none ∙ or_none (has_body at f.spans)

body_behind : (at : ℕ) (range : TextRange) (body : Option TextRange) → IsBodyIn range body → at < range.start → begins_at at body ≡ false
body_behind at range body e f = grind (arith, nat_tests)

body_before : (at : ℕ) (range : TextRange) (body : Option TextRange) → IsBodyIn range body → range.end ≤ at → begins_at at body ≡ false
body_before at range body e f = grind (arith, nat_tests)

all_behind : {N : Telling} {from to : ℕ} {is : ItemViews} {ps rest : List ItemPlace} (at : ℕ) → ArePlaces N from to is ps rest → at < from → has_body at (map place_span rest) ≡ false → has_body at (map place_span ps) ≡ false
all_behind at nothing l h = h
all_behind at (placed {p = p} place inside later) l h =
    let begins = place.begins in
    let some = place.some in
    rw (body_behind at p.range p.body place.body (omega arith)) (all_behind at inside (omega arith) (all_behind at later (omega arith) h))

all_before : {N : Telling} {from to : ℕ} {is : ItemViews} {ps rest : List ItemPlace} (at : ℕ) → ArePlaces N from to is ps rest → to ≤ at → has_body at (map place_span rest) ≡ false → has_body at (map place_span ps) ≡ false
all_before at nothing l h = h
all_before at (placed {p = p} place inside later) l h =
    let ends = place.ends in
    rw (body_before at p.range p.body place.body (omega arith)) (all_before at inside (omega arith) (all_before at later l h))

found_gone : {b : Bodies} {ts us : Tokens} {f g : Found} {is : ItemViews} → AreFound ts us f g is → Gone b ts → Misses b.opening.at f g
found_gone {b} {ts} {f = f} {g = g} a x =
    let low = behind_at (suc b.opening.at) ts.past ts.left x.over in
    misses_more b.opening.at f g (map place_span a.places) a.adds.spans (all_behind b.opening.at a.are (omega arith) refl)

found_before : (b : Bodies) {ts us : Tokens} {f g : Found} {is : ItemViews} → AreFound ts us f g is → us.past ≤ b.opening.at → Misses b.opening.at f g
found_before b {f = f} {g = g} a l = misses_more b.opening.at f g (map place_span a.places) a.adds.spans (all_before b.opening.at a.are l refl)

leaf_misses : (at depth start end : ℕ) (l : LeafRead) (f : Found) → begins_at at l.body ≡ false → Misses at f (and_leaf depth start end l f)
leaf_misses at depth start end l f h =
    misses_more at f (and_leaf depth start end l f) (span_of start end l.body l.named ∷ [])
    (adds_use_trees l.use_trees (adds_problem_at problem.TooDeep l.too_deep (adds_item f depth start end l.body l.kind l.name l.named l.is_ended))).spans (rw h refl)

parent_misses : (at depth start end : ℕ) (k : AstIdKind) (n : NameRead) (is_ended : Bool) (g f : Found) → Misses at nothing_found g → Misses at f (and_parent depth start end k n is_ended g f)
parent_misses at depth start end k n is_ended g f m =
    let own = and_item depth start end None k n.hashed n.range is_ended f in
    misses_more at own (and_parent depth start end k n is_ended g f) g.spans refl m
    ∙ misses_more at f own (span_of start end None n.range ∷ []) (adds_item f depth start end None k n.hashed n.range is_ended).spans refl

elsewhere : (at : ℕ) (o : Option TextRange) → ((r : TextRange) → o ≡ Some r → r.start ≡ at → ⊥) → begins_at at o ≡ false
elsewhere at o e = grind (arith, nat_tests)

-- ---- problems

-- the same problem, where it stands in each text
pub record ProblemAlike (same : ℕ → ℕ → Type 0) (p q : Problem) : Type 0 where
  pub kind : q.kind ≡ p.kind
  pub place : same p.at q.at

abbrev pub ProblemsAlike : Bodies → Found → Found → Type 0
ProblemsAlike b f g = AreAlike (ProblemAlike (SamePlace b)) f.problems g.problems

module _ (b : Bodies) (f f' : Found) (e : ProblemsAlike b f f') where
  pub problem_same : (k : ProblemKind) (n m : ℕ) → SamePlace b n m → ProblemsAlike b (and_problem k n f) (and_problem k m f')
  problem_same k n m i = alike_join e (one_more (record { kind = refl; place = i }) no_more)

  flaw_same : (is_ended is_ended' is_nameless is_nameless' : Bool) (n m : ℕ) → is_ended' ≡ is_ended → is_nameless' ≡ is_nameless → SamePlace b n m → ProblemsAlike b (and_flaw is_ended is_nameless n f) (and_flaw is_ended' is_nameless' m f')
  flaw_same true is_ended' true is_nameless' n m d c i = rw (d, c) (problem_same problem.Nameless n m i)
  flaw_same true is_ended' false is_nameless' n m d c i = rw (d, c) e
  flaw_same false is_ended' is_nameless is_nameless' n m d c i = rw d (problem_same problem.Unfinished n m i)

  pub maybe_same : (k : ProblemKind) (o o' : Option ℕ) → IsAlike (SamePlace b) o o' → ProblemsAlike b (and_problem_at k o f) (and_problem_at k o' f')
  maybe_same k o o' neither = e
  maybe_same k o o' (both {x = n} {y = m} i) = problem_same k n m i

none_same : {A : Type 0} {alike : A → A → Type 0} (o o' : Option A) → IsAlike alike o o' → is_none o' ≡ is_none o
none_same o o' e = grind (arith, nat_tests)

module _ (b : Bodies) (depth start start' : ℕ) (i : SamePlace b start start') (f f' : Found) (e : ProblemsAlike b f f') where
  item_same : (end end' : ℕ) (body body' written_name named' : Option TextRange) (k k' : AstIdKind) (name name' : List ℕ) (is_ended is_ended' : Bool) → k' ≡ k → is_none named' ≡ is_none written_name → is_ended' ≡ is_ended
      → ProblemsAlike b (and_item depth start end body k name written_name is_ended f) (and_item depth start' end' body' k' name' named' is_ended' f')
  item_same end end' body body' written_name named' k k' name name' is_ended is_ended' c n d =
      flaw_same b _ _ e is_ended is_ended' (is_none written_name && needs_name k) (is_none named' && needs_name k') start start' d (ap (λ t. t && needs_name k') n ∙ ap (λ (j : AstIdKind). is_none written_name && needs_name j) c) i

  leaf_same : (end end' : ℕ) (l m : LeafRead) → LeafAlike b l m → SameFlaws b (Some l) (Some m) → ProblemsAlike b (and_leaf depth start end l f) (and_leaf depth start' end' m f')
  leaf_same end end' l m a s =
      maybe_same b (and_item depth start end l.body l.kind l.name l.named l.is_ended f) (and_item depth start' end' m.body m.kind m.name m.named m.is_ended f')
      (item_same end end' l.body m.body l.named m.named l.kind m.kind l.name m.name l.is_ended m.is_ended a.kind (none_same l.named m.named a.named) s.ended) problem.TooDeep l.too_deep m.too_deep s.deep

  parent_same : (end end' : ℕ) (k : AstIdKind) (n n' : NameRead) (is_ended is_ended' : Bool) (g g' : Found) → is_none n'.range ≡ is_none n.range → is_ended' ≡ is_ended → ProblemsAlike b g g'
      → ProblemsAlike b (and_parent depth start end k n is_ended g f) (and_parent depth start' end' k n' is_ended' g' f')
  parent_same end end' k n n' is_ended is_ended' g g' r d j = alike_join (item_same end end' None None n.range n'.range k k n.hashed n'.hashed is_ended is_ended' refl r d) j

-- ---- what is found

-- the one went into the braces, and they are of no item that was found
abbrev Lost : {A : Type 0} → Bodies → Found → A × (Found × Tokens) → Type 0
Lost b f p = Gone b p.1.1 × Misses b.opening.at f p.1.0

-- this, or the same problems are found, and what is left stands beside
data Told {A : Type 0} (alike : A → A → Type 0) (b : Bodies) (f : Found) (p q : A × (Found × Tokens)) : Type 0 where
  lost : Lost b f p → Told alike b f p q
  told : alike p.0 q.0 → ProblemsAlike b p.1.0 q.1.0 → Beside b p.1.1 q.1.1 → Told alike b f p q

by_told : {A P : Type 0} {alike : A → A → Type 0} {b : Bodies} {f : Found} {p q : A × (Found × Tokens)} → Told alike b f p q
    → (Lost b f p → P) → (alike p.0 q.0 → ProblemsAlike b p.1.0 q.1.0 → Beside b p.1.1 q.1.1 → P) → P
by_told (lost x) y z = y x
by_told (told a e r) y z = z a e r

-- nothing is said of what is read
abbrev Any : {A : Type 0} → A → A → Type 0
Any a a' = Unit {0}

abbrev UpTo : ℕ → Bodies → Finder (Option ItemView) → Type 0
UpTo end b turn = (f f' : Found) (ts us : Tokens) → IsSound end ts → ProblemsAlike b f f' → Beside b ts us → Told Any b f (turn f ts) (turn f' us)

-- ---- items that hold none

leaf_found_lost : (b : Bodies) (depth start : ℕ) (f : Found) (p : Option LeafRead × Tokens) → LeafLost b p → Lost b f (leaf_found depth start p.0 f p.1)
leaf_found_lost b depth start f p x = by p.0 x.free
  where
    by : (o : Option LeafRead) → ((l : LeafRead) (r : TextRange) → o ≡ Some l → l.body ≡ Some r → r.start ≡ b.opening.at → ⊥) → Lost b f (leaf_found depth start o f p.1)
    by None k = (gone_on x.gone (behind_others_leads p.1), refl)
    by (Some l) k = (x.gone, leaf_misses b.opening.at depth start p.1.past l f (elsewhere b.opening.at l.body (λ r d s. k l r refl d s)))

extern_found_lost : (b : Bodies) (depth start : ℕ) (f : Found) (p : Option LeafRead × Tokens) → LeafLost b p → Lost b f (extern_found depth start p.0 f p.1)
extern_found_lost b depth start f p x = by p.0 x.free
  where
    kept : (l : LeafRead) (o : Option ItemView) → begins_at b.opening.at l.body ≡ false → Misses b.opening.at f (extern_kept depth start p.1.past l o f).1
    kept l None h = refl
    kept l (Some i) h = leaf_misses b.opening.at depth start p.1.past l f h

    by : (o : Option LeafRead) → ((l : LeafRead) (r : TextRange) → o ≡ Some l → l.body ≡ Some r → r.start ≡ b.opening.at → ⊥) → Lost b f (extern_found depth start o f p.1)
    by None k = (gone_on x.gone (behind_others_leads p.1), refl)
    by (Some l) k = (x.gone, kept l (as_extern l.item) (elsewhere b.opening.at l.body (λ r d s. k l r refl d s)))

extern_some : (i : ItemView) → is_some (as_extern (item_without_bodies i)) ≡ is_some (as_extern i)
extern_some i = grind (arith, nat_tests)

module _ (b : Bodies) (depth start start' : ℕ) (i : SamePlace b start start') (f f' : Found) (e : ProblemsAlike b f f') where
  leaf_found_told : (p q : Option LeafRead × Tokens) → LeafTold b p q → Told Any b f (leaf_found depth start p.0 f p.1) (leaf_found depth start' q.0 f' q.1)
  leaf_found_told p q (leaf_lost x) = lost (leaf_found_lost b depth start f p x)
  leaf_found_told p q (told_leaf a s h) = by p.0 q.0 a s
    where
      by : (o o' : Option LeafRead) → IsAlike (LeafAlike b) o o' → SameFlaws b o o' → Told Any b f (leaf_found depth start o f p.1) (leaf_found depth start' o' f' q.1)
      by o o' neither s = told tt (problem_same b f f' e problem.NoItem start start' i) (behind_others_beside b p.1 q.1 h)
      by o o' (both {x = l} {y = m} k) s = told tt (leaf_same b depth start start' i f f' e p.1.past q.1.past l m k s) h

  kept_same : (end end' : ℕ) (l m : LeafRead) (o o' : Option ItemView) → LeafAlike b l m → SameFlaws b (Some l) (Some m) → is_some o' ≡ is_some o
      → ProblemsAlike b (extern_kept depth start end l o f).1 (extern_kept depth start' end' m o' f').1
  kept_same end end' l m None None a s d = problem_same b f f' e problem.NoItem start start' i
  kept_same end end' l m (Some _) (Some _) a s d = leaf_same b depth start start' i f f' e end end' l m a s
  kept_same end end' l m None (Some _) a s d = absurd cc
  kept_same end end' l m (Some _) None a s d = absurd cc

  extern_found_told : (p q : Option LeafRead × Tokens) → LeafTold b p q → Told Any b f (extern_found depth start p.0 f p.1) (extern_found depth start' q.0 f' q.1)
  extern_found_told p q (leaf_lost x) = lost (extern_found_lost b depth start f p x)
  extern_found_told p q (told_leaf a s h) = by p.0 q.0 a s
    where
      by : (o o' : Option LeafRead) → IsAlike (LeafAlike b) o o' → SameFlaws b o o' → Told Any b f (extern_found depth start o f p.1) (extern_found depth start' o' f' q.1)
      by o o' neither s = told tt (problem_same b f f' e problem.NoItem start start' i) (behind_others_beside b p.1 q.1 h)
      by o o' (both {x = l} {y = m} k) s =
          told tt (kept_same p.1.past q.1.past l m (as_extern l.item) (as_extern m.item) k s (sym (extern_some m.item) ∙ ap (λ j. is_some (as_extern j)) k.item ∙ extern_some l.item)) h

-- ---- turns

front_sound : (end : ℕ) (ts : Tokens) → IsSound end ts → IsSound end (front ts).1
front_sound end ts l = sound_on end (front_takes ts).leads l

front_place : (b : Bodies) (ts us : Tokens) → Beside b ts us → SamePlace b (front ts).0.start (front us).0.start
front_place b ts us h = rw (front_start ts, front_start us) (at_place b ts us h)

unmatched_told : (b : Bodies) (f f' : Found) (ts us : Tokens) → ProblemsAlike b f f' → Beside b ts us → Told Any b f (unmatched_token f ts) (unmatched_token f' us)
unmatched_told b f f' ts us e h = by_next (bumped_onward b ts us h) (λ g. lost (g, refl)) (λ n. told tt (problem_same b f f' e problem.Unmatched _ _ (at_place b ts us h)) n)

extern_turn_told : (end depth : ℕ) (b : Bodies) → SameLoose b → BeginPlain b → UpTo end b (extern_turn depth)
unfolding extern_turn
extern_turn_told end depth b loose plain f f' ts us l e h =
    when (is_at_end ts)
    (λ t. rw (end_same b ts us h, t) (unmatched_told b f f' ts us e h))
    (λ t. rw (end_same b ts us h, t) (by_stayed (front_until b ts us h)
    (λ g. lost (extern_found_lost b depth (front ts).0.start f (leaf (front ts).0 (front ts).1) (leaf_gone b end (front ts).0 (front ts).1 (front_sound end ts l) g)))
    (λ k. extern_found_told b depth (front ts).0.start (front us).0.start (front_place b ts us h) f f' e (leaf (front ts).0 (front ts).1) (leaf (front us).0 (front us).1)
    (leaf_told b loose plain end (front ts).0 (front us).0 (front ts).1 (front us).1 k.value (front_sound end ts l) k.rest))))

leaf_turn_told : (end depth : ℕ) (b : Bodies) → SameLoose b → BeginPlain b → (h h' : FrontRead) (f f' : Found) (ts us : Tokens) → IsSound end ts → ProblemsAlike b f f' → FrontAlike b h h' → Beside b ts us
    → Told Any b f (leaf_turn depth h f ts) (leaf_turn depth h' f' us)
unfolding leaf_turn
leaf_turn_told end depth b loose plain h h' f f' ts us l e a k =
    leaf_found_told b depth h.start h'.start a.start f f' e (leaf h ts) (leaf h' us) (leaf_told b loose plain end h h' ts us a l k)

leaf_turn_lost : (end depth : ℕ) (b : Bodies) (h : FrontRead) (f : Found) (ts : Tokens) → IsSound end ts → Gone b ts → Lost b f (leaf_turn depth h f ts)
unfolding leaf_turn
leaf_turn_lost end depth b h f ts l g = leaf_found_lost b depth h.start f (leaf h ts) (leaf_gone b end h ts l g)

-- ---- lists

module _ (end : ℕ) (ends : Tokens → Bool) (ends_same : (b : Bodies) (ts us : Tokens) → Beside b ts us → ends us ≡ ends ts) (turn : Finder (Option ItemView)) (finds : Finds end turn)
    (each : (b : Bodies) → SameLoose b → BeginPlain b → UpTo end b turn) where
  abbrev Lists : ℕ → Bodies → Type 0
  Lists n b = (done done' : List ItemView) (f f' : Found) (ts us : Tokens) → IsSound end ts → ProblemsAlike b f f' → Beside b ts us → Told Any b f (finding_from ends turn n done f ts) (finding_from ends turn n done' f' us)

  far_told : (n : ℕ) (b : Bodies) → SameLoose b → BeginPlain b → ((b : Bodies) → SameLoose b → BeginPlain b → Lists n b) → (done done' : List ItemView) (f g f' : Found) (ts us : Tokens) → IsSound end ts → ProblemsAlike b f f' → Beside (passed b) ts us
      → Told Any b g (finding_from ends turn n done f ts) (finding_from ends turn n done' f' us)
  unfolding passed
  far_told n b loose plain more done done' f g f' ts us l e h =
      by_told (more (passed b) loose (plain_passed b plain) done done' f f' ts us l e h)
      (λ x. absurd (let no : true ≡ false = x.0.unpassed in cc)) (λ a d r. told a d (unpassed_beside b _ _ r))

  list_told : (n : ℕ) (b : Bodies) → SameLoose b → BeginPlain b → Lists n b
  list_told zero b loose plain done done' f f' ts us l e h = told tt e h
  list_told (suc n) b loose plain done done' f f' ts us l e h =
      let o = done ++ option_to_list (turn f ts).0 in
      let o' = done' ++ option_to_list (turn f' us).0 in
      let g = (turn f ts).1.0 in
      let g' = (turn f' us).1.0 in
      let next = progress_from ts.past (turn f ts).1.1 in
      let next' = progress_from us.past (turn f' us).1.1 in
      let one = turn_on end turn finds f ts l in
      let rest = list_from end ends turn finds n o g next one.sound.laid in
      when (ends ts)
      (λ z. rw (ends_same b ts us h, z) (told tt e h))
      (λ z. rw (ends_same b ts us h, z) (by_told (each b loose plain f f' ts us l e h)
      (λ x. let k = gone_on x.0 one.leads in lost (gone_on k rest.found.leads, found_gone rest.found k ∙ x.1))
      (λ a k r. let both = beyond_beside b ts us _ _ h r in
      side b next next' both
      (λ low. by_told (list_told n b loose plain o o' g g' next next' one.sound k both)
      (λ x. lost (x.0, x.1 ∙ found_before b one.found (let past = one.past in omega arith))) (λ a d r. told a d r))
      (λ far. far_told n b loose plain (list_told n) o o' g f g' next next' one.sound k far))))

-- ---- blocks

abbrev SameEnd : BlockRead → BlockRead → Type 0
SameEnd r s = s.is_ended ≡ r.is_ended

abbrev UpToBlock : ℕ → Bodies → Finder BlockRead → Type 0
UpToBlock end b inside = (f f' : Found) (ts us : Tokens) → IsSound end ts → ProblemsAlike b f f' → Beside b ts us → Told SameEnd b f (inside f ts) (inside f' us)

list_end_same : (is_top : Bool) (b : Bodies) (ts us : Tokens) → Beside b ts us → is_list_end is_top us ≡ is_list_end is_top ts
unfolding is_list_end
list_end_same is_top b ts us h = rw (empty_same b ts us h, symbol_same b ts us h) refl

block_told : (end : ℕ) (turn : Finder (Option ItemView)) → Finds end turn → ((b : Bodies) → SameLoose b → BeginPlain b → UpTo end b turn) → (b : Bodies) → SameLoose b → BeginPlain b → UpToBlock end b (block_of turn)
unfolding finding
block_told end turn finds each b loose plain f f' ts us l e h =
    let inner = inner_attributes (bumped ts) in
    let open_leads : LeadsTo ts inner.1 = further (inner_attributes_leads (bumped ts)) in
    let sound = sound_on end open_leads l in
    let list = list_found end (is_list_end false) turn finds f inner.1 sound.laid in
    by_next (bumped_onward b ts us h)
    (λ g. let k = gone_on g (inner_attributes_leads (bumped ts)) in lost (gone_on (gone_on k list.leads) (eat_leads 125 _), found_gone list k))
    (λ n. by_kept (inner_attributes_until b (bumped ts) (bumped us) n)
    (λ k. lost (gone_on (gone_on k list.leads) (eat_leads 125 _), found_gone list k))
    (λ k. by_told (list_told end (is_list_end false) (list_end_same false) turn finds each most_tokens b loose plain [] [] f f' inner.1 (inner_attributes (bumped us)).1 sound e k.rest)
    (λ x. lost (gone_on x.0 (eat_leads 125 _), x.1))
    (λ a d r. let c = eat_local b 125 refl _ _ r in told c.value d c.rest)))

-- ---- items that hold others

extern_inside_told : (end depth : ℕ) (b : Bodies) → SameLoose b → BeginPlain b → UpToBlock end b (extern_inside depth)
unfolding extern_inside
extern_inside_told end depth b loose plain f f' ts us l e h =
    when (symbol ts == 123)
    (λ z. rw (symbol_same b ts us h, z) (block_told end (extern_turn depth) (extern_turn_found end depth) (extern_turn_told end depth) b loose plain f f' ts us l e h))
    (λ z. rw (symbol_same b ts us h, z) (told refl e h))

extern_block_told : (end depth start start' : ℕ) (attrs attrs' : List MetaView) (b : Bodies) → SameLoose b → BeginPlain b → SamePlace b start start' → (f f' : Found) (ts us : Tokens) → IsSound end ts → ProblemsAlike b f f' → Beside b ts us
    → Told Any b f (some_item (extern_block depth start attrs f ts)) (some_item (extern_block depth start' attrs' f' us))
unfolding extern_block
extern_block_told end depth start start' attrs attrs' b loose plain i f f' ts us l e h =
    let x = extern_inside (one_deeper depth) nothing_found ts in
    let y = extern_inside (one_deeper depth) nothing_found us in
    by_told (extern_inside_told end (one_deeper depth) b loose plain nothing_found nothing_found ts us l no_more h)
    (λ z. lost (z.0, parent_misses b.opening.at depth start x.1.1.past kind.ExternBlock no_name x.0.is_ended x.1.0 f z.1))
    (λ a d r. told tt (parent_same b depth start start' i f f' e x.1.1.past y.1.1.past kind.ExternBlock no_name no_name x.0.is_ended y.0.is_ended x.1.0 y.1.0 refl a d) r)

extern_block_lost : (end depth start : ℕ) (attrs : List MetaView) (b : Bodies) (f : Found) (ts : Tokens) → IsSound end ts → Gone b ts → Lost b f (some_item (extern_block depth start attrs f ts))
unfolding extern_block
extern_block_lost end depth start attrs b f ts l g =
    let x = extern_inside (one_deeper depth) nothing_found ts in
    let found = extern_inside_found end (one_deeper depth) nothing_found ts l.laid in
    (gone_on g found.leads, parent_misses b.opening.at depth start x.1.1.past kind.ExternBlock no_name x.0.is_ended x.1.0 f (found_gone found g))

module _ (end : ℕ) (inside : Finder BlockRead) (finds : FindsIn end inside) (each : (b : Bodies) → SameLoose b → BeginPlain b → UpToBlock end b inside) (depth : ℕ) where
  unless_told : (b : Bodies) → SameLoose b → BeginPlain b → (s s' : Bool) → s' ≡ s → (f f' : Found) (ts us : Tokens) → IsSound end ts → ProblemsAlike b f f' → Beside b ts us → Told SameEnd b f (inside_unless s inside f ts) (inside_unless s' inside f' us)
  unless_told b loose plain true s' d f f' ts us l e h = rw d (told refl e h)
  unless_told b loose plain false s' d f f' ts us l e h = rw d (each b loose plain f f' ts us l e h)

  module_told : (b : Bodies) → SameLoose b → BeginPlain b → (h h' : FrontRead) → FrontAlike b h h' → (f f' : Found) (ts us : Tokens) → IsSound end ts → ProblemsAlike b f f' → Beside b ts us
      → Told Any b f (some_item (module_with inside depth h f ts)) (some_item (module_with inside depth h' f' us))
  module_told b loose plain h h' a f f' ts us l e k =
      let n = named_alike b ts us k in
      let c = eat 59 (written_name ts).1 in
      let c' = eat 59 (written_name us).1 in
      let x = inside_unless c.0 inside nothing_found c.1 in
      let y = inside_unless c'.0 inside nothing_found c'.1 in
      by_told (unless_told b loose plain c.0 c'.0 n.ended nothing_found nothing_found c.1 c'.1 (sound_on end (through (named_leads ts) (eat_leads 59 (written_name ts).1)) l) no_more n.rest)
      (λ z. lost (z.0, parent_misses b.opening.at depth h.start x.1.1.past kind.Module (written_name ts).0 (c.0 || x.0.is_ended) x.1.0 f z.1))
      (λ j d r. told tt (parent_same b depth h.start h'.start a.start f f' e x.1.1.past y.1.1.past kind.Module (written_name ts).0 (written_name us).0 (c.0 || x.0.is_ended) (c'.0 || y.0.is_ended) x.1.0 y.1.0 (none_same _ _ n.name.range)
      (ap (λ t. t || y.0.is_ended) n.ended ∙ ap (λ t. c.0 || t) j) d) r)

  module_lost : (b : Bodies) (h : FrontRead) (f : Found) (ts : Tokens) → IsSound end ts → Gone b ts → Lost b f (some_item (module_with inside depth h f ts))
  module_lost b h f ts l g =
      let c = eat 59 (written_name ts).1 in
      let x = inside_unless c.0 inside nothing_found c.1 in
      let leads = through (named_leads ts) (eat_leads 59 (written_name ts).1) in
      let found = unless_found end inside finds depth c.0 nothing_found c.1 (sound_on end leads l).laid in
      (gone_on (gone_on g leads) found.leads, parent_misses b.opening.at depth h.start x.1.1.past kind.Module (written_name ts).0 (c.0 || x.0.is_ended) x.1.0 f (found_gone found (gone_on g leads)))

  head_lost : (b : Bodies) (k : Head) (h : FrontRead) (f : Found) (ts : Tokens) → IsSound end ts → Gone b ts → Lost b f (by_head inside depth k h f ts)
  head_lost b heads.Module h f ts l g = module_lost b h f ts l g
  head_lost b heads.ExternBlock h f ts l g = extern_block_lost end depth h.start h.attrs b f ts l g
  head_lost b _ h f ts l g = leaf_turn_lost end depth b h f ts l g

  head_told : (b : Bodies) → SameLoose b → BeginPlain b → (k : Head) (h h' : FrontRead) → FrontAlike b h h' → (f f' : Found) (ts us : Tokens) → IsSound end ts → ProblemsAlike b f f' → Beside b ts us
      → Told Any b f (by_head inside depth k h f ts) (by_head inside depth k h' f' us)
  head_told b loose plain heads.Module h h' a f f' ts us l e k = module_told b loose plain h h' a f f' ts us l e k
  head_told b loose plain heads.ExternBlock h h' a f f' ts us l e k = extern_block_told end depth h.start h'.start h.attrs h'.attrs b loose plain a.start f f' ts us l e k
  head_told b loose plain _ h h' a f f' ts us l e k = leaf_turn_told end depth b loose plain h h' f f' ts us l e a k

  turn_with_told : (b : Bodies) → SameLoose b → BeginPlain b → UpTo end b (turn_with inside depth)
  turn_with_told b loose plain f f' ts us l e h =
      when (is_at_end ts)
      (λ t. rw (end_same b ts us h, t) (unmatched_told b f f' ts us e h))
      (λ t. rw (end_same b ts us h, t) (by_stayed (front_until b ts us h)
      (λ g. lost (head_lost b (front ts).0.head (front ts).0 f (front ts).1 (front_sound end ts l) g))
      (λ k. rw k.value.head (head_told b loose plain (front ts).0.head (front ts).0 (front us).0 k.value f f' (front ts).1 (front us).1 (front_sound end ts l) e k.rest))))

inside_told : (end left : ℕ) (b : Bodies) → SameLoose b → BeginPlain b → UpToBlock end b (inside left)
unfolding inside
inside_told end zero b loose plain f f' ts us l e h =
    when (symbol ts == 123)
    (λ z. rw (symbol_same b ts us h, z) (told refl (problem_same b f f' e problem.TooDeep _ _ (at_place b ts us h)) (behind_tree_beside b ts us h)))
    (λ z. rw (symbol_same b ts us h, z) (told refl e h))
inside_told end (suc left) b loose plain f f' ts us l e h =
    when (symbol ts == 123)
    (λ z. rw (symbol_same b ts us h, z)
    (block_told end (turn_with (inside left) (depth_of left)) (turn_with_found end (inside left) (inside_found end left) (depth_of left))
    (turn_with_told end (inside left) (inside_found end left) (inside_told end left) (depth_of left)) b loose plain f f' ts us l e h))
    (λ z. rw (symbol_same b ts us h, z) (told refl e h))

turn_told : (end left : ℕ) (b : Bodies) → SameLoose b → BeginPlain b → UpTo end b (turn left)
unfolding turn
turn_told end left b loose plain f f' ts us l e h = turn_with_told end (inside left) (inside_found end left) (inside_told end left) (depth_of left) b loose plain f f' ts us l e h

-- ---- whole files

-- the braces are of no item of the file, or its problems are the same
pub data FileTold (b : Bodies) (ts us : Tokens) : Type 0 where
  of_none : has_body b.opening.at (items true 128 nothing_found (inner_attributes ts).1).1.0.spans ≡ false → FileTold b ts us
  alike : ProblemsAlike b (items true 128 nothing_found (inner_attributes ts).1).1.0 (items true 128 nothing_found (inner_attributes us).1).1.0 → FileTold b ts us

pub file_told : (end : ℕ) (b : Bodies) → SameLoose b → BeginPlain b → (ts us : Tokens) → IsSound end ts → Beside b ts us → FileTold b ts us
unfolding finding
file_told end b loose plain ts us l h =
    let inner = inner_attributes ts in
    let sound = sound_on end (inner_attributes_leads ts) l in
    by_kept (inner_attributes_until b ts us h)
    (λ g. of_none (found_gone (list_found end (is_list_end true) (turn 128) (turn_found end 128) nothing_found inner.1 sound.laid) g))
    (λ k. by_told (list_told end (is_list_end true) (list_end_same true) (turn 128) (turn_found end 128) (turn_told end 128) most_tokens b loose plain [] [] nothing_found nothing_found inner.1 (inner_attributes us).1 sound no_more k.rest)
    (λ x. of_none x.1) (λ a d r. alike d))
