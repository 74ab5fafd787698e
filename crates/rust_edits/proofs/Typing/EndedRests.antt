-- What is left of an item is ended in both of two texts or in neither, where as many brackets are loose between the braces of each.
use Rattle.std.proofs.Common.{◌≡◌, ◌<◌, ℕ, zero, suc, ◌+◌, ◌-◌, ◌==◌, ◌||◌, ◌&&◌, Bool, true, false, Option, Some, None, List, [], ◌∷◌, ◌++◌, length, refl, ap, ◌∙◌, sym, subst, arith, map, length-append, ◌⊎◌, inl, inr, codes, if◌then◌else◌}
use Rattle.rust_edits.proofs.Common.{nat_lt, EditionYear, Piece, symbol_of, moved_piece, braces_from, Tokens, end_of, symbol, bumped, braces_behind, count_behind, closes_none, behind_braces, flat_behind, is_mark, nest_inside, nest_behind, ExcerptRead, stops, ends, opened_behind, taking, excerpt_behind, Bodies, AreOpen, Beside, ahead, Loose, none_loose, loose_behind, loose_from, is_some, bytes_eq, Visibility, MetaView, word, is_at_open, eat, eat_word, tree_body, path, use_tree, Head, FrontRead, is_called, begins_call, leaf_by, leaf, constant, structure, implementation, crate_item, use_read, use_declaration, macro_definition, invocation, item_call, LeafRead, written_name, crate_alias, crate_alias_if, written_rename, call_end, nat_tests, when, stops_empty, shorter, beside_twins, next_ahead, next_behind, tokens_at, symbol_at, some_at, bumped_at, inside_is, enters, and_parts, IsSound, eat_leads, IsAlike, neither, SamePlace, open_same, LeafAlike, named_local, named_or_local, FrontAlike, BeginPlain, LeafUntil, leaf_lost, leaf_same, leaf_until, LeafLost, by_stayed, word_test, after_word, eat_local, eat_word_local, taken_both, gone_on, mut_word_local, plain_leaf, rest_by, by_taken, rest_of}
use Rattle.rust_cursor.specs.declared.cursor.nest.Before.{Before}
use Rattle.rust_cursor.specs.declared.cursor.nest.Nest.{Nest}
use Rattle.rust_cursor.specs.TokensBeside.{behind}
use Rattle.rust_leaves.proofs.BodyFronts.{begins_call_beside}
use Rattle.rust_cursor.proofs.Scans.{taking_stop, taking_end, taking_more}
use Rattle.rust_cursor.proofs.Views.{symbol_same}
use Rattle.rust_cursor.proofs.Tests.{nest_same, stops_same, ends_same}
use Rattle.rust_cursor.proofs.BraceSteps.{stops_deep, not_last}
use Rattle.rust_cursor.proofs.BraceWalks.{brace_step}
use Rattle.rust_cursor.proofs.Walk.{nothing, matched_in}
use Rattle.rust_paths.proofs.BodyUseTrees.{use_tree_until}
use Rattle.rust_leaves.proofs.Crates.{is_called_same, called_next}
use Rattle.rust_cursor.specs.Extents as extents
use Rattle.rust_leaves.specs.declared.head.Head.TheVariants as heads
use Rattle.rust_cursor.specs.Grammar.{reads}
use Rattle.rust_cursor.proofs.Rules.{rule_local}
use Rattle.rust_cursor.specs.Looks.{sees}

-- ---- what is counted in braces

inner_is : (i : ℕ) (l : Loose) (c : ℕ) → count_behind (i - l.closing + l.opening) c ≡ i - (loose_behind l c).closing + (loose_behind l c).opening
inner_is i l c = grind (arith, nat_tests)

torn_is : (t : Bool) (i : ℕ) (l : Loose) (c : ℕ) → ((t || nat_lt i l.closing) || closes_none (i - l.closing + l.opening) c) ≡ (t || nat_lt i (loose_behind l c).closing)
torn_is t i l c = grind (arith, nat_tests)

-- in so many braces, behind these loose brackets
abbrev inside : Nest → ℕ → Loose → Nest
inside n k l = record { braces = k; others = n.others; free = n.free; angles = n.angles; inner = n.inner - l.closing + l.opening; is_torn = n.is_torn || nat_lt n.inner l.closing; before = n.before }

made : Nest → ℕ → ℕ → Bool → Before → Nest
made n k i t w = record { braces = k; others = n.others; free = n.free; angles = n.angles; inner = i; is_torn = t; before = w }

off : (k : ℕ) → (suc k == 0) ≡ false
off k = grind (arith, nat_tests)

still_before : (w v : Before) (k j c : ℕ) → braces_behind (suc k) c ≡ suc j → (if suc k == 1 && c == 125 then v else w) ≡ w
still_before w v k j c e = grind (arith, nat_tests)

nest_step : (n : Nest) (k j : ℕ) (l : Loose) (ts : Tokens) → braces_behind (suc k) (symbol ts) ≡ suc j → nest_behind (inside n (suc k) l) ts ≡ inside n (suc j) (loose_behind l (symbol ts))
unfolding made
nest_step n k j l ts e =
    let c = symbol ts in
    let m = inside n (suc k) l in
    let i = count_behind m.inner c in
    let t = m.is_torn || closes_none m.inner c in
    let w = (nest_inside m ts).before in
    inside_is m ts (off k) ∙ ap (λ b. made n b i t w) e ∙ ap (λ x. made n (suc j) x t w) (inner_is n.inner l c)
    ∙ ap (λ x. made n (suc j) (inside n (suc j) (loose_behind l c)).inner x w) (torn_is n.is_torn n.inner l c)
    ∙ ap (λ x. made n (suc j) (inside n (suc j) (loose_behind l c)).inner (inside n (suc j) (loose_behind l c)).is_torn x) (still_before n.before (behind_braces m) k j c e)

nest_is : (n : Nest) (k : ℕ) → n.braces ≡ k → n ≡ inside n k none_loose
unfolding made
nest_is n k e =
    let low : nat_lt n.inner 0 ≡ false = grind (arith, nat_tests) in
    ap (λ b. made n b n.inner n.is_torn n.before) e ∙ ap (λ x. made n k x n.is_torn n.before) (let same : n.inner ≡ n.inner - 0 + 0 = omega arith in same)
    ∙ ap (λ x. made n k (n.inner - 0 + 0) x n.before) (let same : n.is_torn ≡ (n.is_torn || nat_lt n.inner 0) = rw low (alone n.is_torn) in same)
  where
    alone : (t : Bool) → t ≡ (t || false)
    alone true = refl
    alone false = refl

-- behind a token in braces that is seen alike
inside_same : (n : Nest) (k : ℕ) (ts us : Tokens) → n.braces ≡ suc k → symbol us ≡ symbol ts → nest_behind n us ≡ nest_behind n ts
inside_same n k ts us d e =
    let some : (n.braces == 0) ≡ false = grind (arith, nat_tests) in
    rw (inside_is n us some, inside_is n ts some, e) refl

-- ---- through braces

module _ (R : ExcerptRead × Tokens → Type 0) (y : EditionYear) (u : Option ℕ) (n : Nest) where
  -- one token
  step : (e : _) (t : Piece) (rest : List Piece) (k j past : ℕ) (l : Loose) (done : List ℕ) (last : ℕ) (o : Option Tokens) → braces_behind (suc k) (symbol_of t) ≡ suc j
      → ((done : List ℕ) (last : ℕ) (o : Option Tokens) → R (taking e done last o (inside n (suc j) (loose_behind l (symbol_of t))) (tokens_at y (end_of t) rest u))) → R (taking e done last o (inside n (suc k) l) (tokens_at y past (t ∷ rest) u))
  step e t rest k j past l done last o f next =
      let ts = tokens_at y past (t ∷ rest) u in
      let m = inside n (suc k) l in
      let c = symbol_at y past t rest u in
      let behind_is : nest_behind m ts ≡ inside n (suc j) (loose_behind l (symbol_of t)) = nest_step n k j l ts (ap (braces_behind (suc k)) c ∙ f) ∙ ap (λ s. inside n (suc j) (loose_behind l s)) c in
      let go_on = stops_deep e m ts (some_at y past t rest u) (off k) in
      let no_end : ends e (is_mark m.before) (nest_behind m ts) ts ≡ false = ap (λ x. ends e (is_mark m.before) x ts) behind_is ∙ not_last e (is_mark m.before) (inside n (suc j) (loose_behind l (symbol_of t))) ts (off j) in
      let text = extents.more e last done ts in
      let braces = opened_behind o m ts in
      subst R
      (sym (taking_more e done last o m ts go_on no_end ∙ ap (λ x. taking e text (symbol ts) braces x (bumped ts)) behind_is
      ∙ ap (taking e text (symbol ts) braces (inside n (suc j) (loose_behind l (symbol_of t)))) (bumped_at y past t rest u))) (next text (symbol ts) braces)

  -- tokens whose braces match
  through : (e : _) (left : List Piece) (i : ℕ) (ms : List Piece) (k past : ℕ) (l : Loose) (done : List ℕ) (last : ℕ) (o : Option Tokens) → braces_from k ms ≡ Some i
      → ((done : List ℕ) (last : ℕ) (o : Option Tokens) (past : ℕ) → R (taking e done last o (inside n (suc i) (loose_from l ms)) (tokens_at y past left u))) → R (taking e done last o (inside n (suc k) l) (tokens_at y past (ms ++ left) u))
  through e left i [] k past l done last o f next =
      let same : i ≡ k = cc in
      subst (λ (j : ℕ). R (taking e done last o (inside n (suc j) l) (tokens_at y past left u))) same (next done last o past)
  through e left i (t ∷ ms) k past l done last o f next =
      let brace = brace_step t ms k i f in
      step e t (ms ++ left) k brace.depth past l done last o brace.inside
      (λ done last o. through e left i ms brace.depth (end_of t) (loose_behind l (symbol_of t)) done last o brace.rest next)

-- ---- both texts

-- as many brackets are loose between the braces of each text
abbrev pub SameLoose : Bodies → Type 0
SameLoose b = loose_from none_loose b.new ≡ loose_from none_loose b.old

module _ (b : Bodies) (same : SameLoose b) where
  abbrev Alike : (List ℕ → ℕ → Option Tokens → Nest → Tokens → ExcerptRead × Tokens) → Tokens → Tokens → Type 0
  Alike take ts us = (done done' : List ℕ) (last last' : ℕ) (o o' : Option Tokens) (n : Nest) → (take done' last' o' n us).0.is_ended ≡ (take done last o n ts).0.is_ended

  -- where neither stops
  onward : (e : _) (ts us : Tokens) (n m : Nest) (done done' : List ℕ) (last last' : ℕ) (o o' : Option Tokens) → stops e n ts ≡ false → stops e n us ≡ false → nest_behind n ts ≡ m → nest_behind n us ≡ m
      → symbol us ≡ symbol ts → Beside b (bumped ts) (bumped us) → Alike (taking e) (bumped ts) (bumped us) → (taking e done' last' o' n us).0.is_ended ≡ (taking e done last o n ts).0.is_ended
  onward e ts us n m done done' last last' o o' p p' i i' s next more =
      let ends' : ends e (is_mark n.before) m us ≡ ends e (is_mark n.before) m ts = ends_same (beside_twins b) e (is_mark n.before) m ts us s next in
      when (ends e (is_mark n.before) m ts)
      (λ q. let one = taking_end e done last o n ts p (ap (λ k. ends e (is_mark n.before) k ts) i ∙ q) in
      let two = taking_end e done' last' o' n us p' (ap (λ k. ends e (is_mark n.before) k us) i' ∙ ends' ∙ q) in
      rw (one, two, i, i') refl)
      (λ q. let one = taking_more e done last o n ts p (ap (λ k. ends e (is_mark n.before) k ts) i ∙ q) in
      let two = taking_more e done' last' o' n us p' (ap (λ k. ends e (is_mark n.before) k us) i' ∙ ends' ∙ q) in
      rw (one, two, i, i') (more (extents.more e last done ts) (extents.more e last' done' us) (symbol ts) (symbol us) (opened_behind o n ts) (opened_behind o' n us) m))

  -- a token that is none of the braces'
  one : (e : _) (ts us : Tokens) → Beside b ts us → Beside b (bumped ts) (bumped us) → Alike (taking e) (bumped ts) (bumped us) → Alike (taking e) ts us
  one e ts us h next more done done' last last' o o' n =
      let stops' : stops e n us ≡ stops e n ts = stops_same (beside_twins b) e n ts us h in
      when (stops e n ts)
      (λ p. rw (taking_stop e done last o n ts p, taking_stop e done' last' o' n us (stops' ∙ p)) refl)
      (λ p. onward e ts us n (nest_behind n ts) done done' last last' o o' p (stops' ∙ p) refl (nest_same (beside_twins b) n ts us h) (symbol_same b ts us h) next more)

  -- the `}` of the braces, behind as many loose brackets
  closed : (e : _) (past past' : ℕ) (r : List Piece) (u u' : Option ℕ) → AreOpen b r → (n : Nest) (k : ℕ) → n.braces ≡ suc k → (let tc = tokens_at b.edition past (moved_piece b.by b.closing ∷ map (moved_piece b.by) r) u in
      let uc = tokens_at b.edition past' (moved_piece b.by_new b.closing ∷ map (moved_piece b.by_new) r) u' in
      Alike (taking e) (bumped tc) (bumped uc) → (done done' : List ℕ) (last last' : ℕ) (o o' : Option Tokens) → (taking e done' last' o' n uc).0.is_ended ≡ (taking e done last o n tc).0.is_ended)
  closed e past past' r u u' j n k d more done done' last last' o o' =
      let tc = tokens_at b.edition past (moved_piece b.by b.closing ∷ map (moved_piece b.by) r) u in
      let uc = tokens_at b.edition past' (moved_piece b.by_new b.closing ∷ map (moved_piece b.by_new) r) u' in
      let deep : (n.braces == 0) ≡ false = grind (arith, nat_tests) in
      let s : symbol uc ≡ symbol tc = symbol_at b.edition past' (moved_piece b.by_new b.closing) (map (moved_piece b.by_new) r) u' ∙ sym (symbol_at b.edition past (moved_piece b.by b.closing) (map (moved_piece b.by) r) u) in
      onward e tc uc n (nest_behind n tc) done done' last last' o o' (stops_deep e n tc (some_at b.edition past (moved_piece b.by b.closing) (map (moved_piece b.by) r) u) deep)
      (stops_deep e n uc (some_at b.edition past' (moved_piece b.by_new b.closing) (map (moved_piece b.by_new) r) u') deep) refl (inside_same n k tc uc d s) s (next_behind b past past' b.closing r u u' j.behind) more

  -- the braces
  block : (e : _) (past : ℕ) (r : List Piece) (u u' : Option ℕ) → AreOpen b r → (let left = moved_piece b.by b.closing ∷ map (moved_piece b.by) r in
      let left' = moved_piece b.by_new b.closing ∷ map (moved_piece b.by_new) r in
      let ts = tokens_at b.edition past (b.opening ∷ (b.old ++ left)) u in
      let us = tokens_at b.edition past (b.opening ∷ (b.new ++ left')) u' in
      ((past past' : ℕ) → Alike (taking e) (bumped (tokens_at b.edition past left u)) (bumped (tokens_at b.edition past' left' u'))) → Beside b ts us → Alike (taking e) ts us)
  block e past r u u' j more h done done' last last' o o' n =
      let left = moved_piece b.by b.closing ∷ map (moved_piece b.by) r in
      let left' = moved_piece b.by_new b.closing ∷ map (moved_piece b.by_new) r in
      let ts = tokens_at b.edition past (b.opening ∷ (b.old ++ left)) u in
      let us = tokens_at b.edition past (b.opening ∷ (b.new ++ left')) u' in
      let stops' : stops e n us ≡ stops e n ts = stops_same (beside_twins b) e n ts us h in
      let m = nest_behind n ts in
      let k = n.braces in
      let deep = enters n ts (symbol_at b.edition past b.opening (b.old ++ left) u ∙ b.opens) in
      let m_is : m ≡ inside m (suc k) none_loose = nest_is m (suc k) deep.braces in
      let m'_is : nest_behind n us ≡ inside m (suc k) none_loose = nest_same (beside_twins b) n ts us h ∙ m_is in
      let no_end : ends e (is_mark n.before) (inside m (suc k) none_loose) ts ≡ false = not_last e (is_mark n.before) (inside m (suc k) none_loose) ts (off k) in
      let no_end' : ends e (is_mark n.before) (inside m (suc k) none_loose) us ≡ false = not_last e (is_mark n.before) (inside m (suc k) none_loose) us (off k) in
      when (stops e n ts)
      (λ p. rw (taking_stop e done last o n ts p, taking_stop e done' last' o' n us (stops' ∙ p)) refl)
      (λ p. let first = taking_more e done last o n ts p (ap (λ x. ends e (is_mark n.before) x ts) m_is ∙ no_end) in
      let first' = taking_more e done' last' o' n us (stops' ∙ p) (ap (λ x. ends e (is_mark n.before) x us) m'_is ∙ no_end') in
      let text = extents.more e last done ts in
      let text' = extents.more e last' done' us in
      let braces = opened_behind o n ts in
      let braces' = opened_behind o' n us in
      let in_it = inside m (suc k) none_loose in
      let entered = first ∙ ap (λ x. taking e text (symbol ts) braces x (bumped ts)) m_is ∙ ap (taking e text (symbol ts) braces in_it) (bumped_at b.edition past b.opening (b.old ++ left) u) in
      let entered' = first' ∙ ap (λ x. taking e text' (symbol us) braces' x (bumped us)) m'_is ∙ ap (taking e text' (symbol us) braces' in_it) (bumped_at b.edition past b.opening (b.new ++ left') u') in
      rw (entered, entered')
      (through (λ r. r.0.is_ended ≡ (taking e text (symbol ts) braces in_it (tokens_at b.edition (end_of b.opening) (b.old ++ left) u)).0.is_ended) b.edition u' m e left' k b.new k (end_of b.opening) none_loose text' (symbol us) braces' (matched_in k b.new b.new_matched)
      (λ done' last' o' past'. sym (through (λ r. r.0.is_ended ≡ (taking e done' last' o' (inside m (suc k) (loose_from none_loose b.new)) (tokens_at b.edition past' left' u')).0.is_ended) b.edition u m e left k b.old k (end_of b.opening) none_loose text (symbol ts) braces (matched_in k b.old b.old_matched)
      (λ done last o past. sym (subst (λ (l : Loose). (taking e done' last' o' (inside m (suc k) l) (tokens_at b.edition past' left' u')).0.is_ended ≡ (taking e done last o (inside m (suc k) (loose_from none_loose b.old)) (tokens_at b.edition past left u)).0.is_ended) (sym same)
      (closed e past past' r u u' j (inside m (suc k) (loose_from none_loose b.old)) k refl (more past past') done done' last last' o o')))))))

  all : (e : _) (fuel : ℕ) (ts us : Tokens) → length ts.left < fuel → Beside b ts us → Alike (taking e) ts us
  all e zero ts us le h = absurd (omega arith)
  all e (suc fuel) ts us le (ahead past [] r u u' f j) =
      let left = moved_piece b.by b.closing ∷ map (moved_piece b.by) r in
      let long = length-append b.old left in
      block e past r u u' j
      (λ past past'. let tc = tokens_at b.edition past left u in
      let less = shorter tc (some_at b.edition past (moved_piece b.by b.closing) (map (moved_piece b.by) r) u) in
      all e fuel (bumped tc) (bumped (tokens_at b.edition past' (moved_piece b.by_new b.closing ∷ map (moved_piece b.by_new) r) u')) (omega arith) (next_behind b past past' b.closing r u u' j.behind))
      (ahead past [] r u u' f j)
  all e (suc fuel) ts us le (ahead past (p ∷ x) r u u' f j) =
      let left = x ++ b.opening ∷ (b.old ++ moved_piece b.by b.closing ∷ map (moved_piece b.by) r) in
      let left' = x ++ b.opening ∷ (b.new ++ moved_piece b.by_new b.closing ∷ map (moved_piece b.by_new) r) in
      let ts = tokens_at b.edition past (p ∷ left) u in
      let us = tokens_at b.edition past (p ∷ left') u' in
      let less = shorter ts (some_at b.edition past p left u) in
      let next = next_ahead b past p x r u u' f.1 j in
      one e ts us (ahead past (p ∷ x) r u u' f j) next (all e fuel (bumped ts) (bumped us) (omega arith) next)
  all e (suc fuel) ts us le (behind past [] u u' f) =
      λ done done' last last' o o' n.
      let ts = tokens_at b.edition (past + b.by) [] u in
      let us = tokens_at b.edition (past + b.by_new) [] u' in
      rw (taking_stop e done last o n ts (stops_empty e n ts (nothing b.edition (past + b.by) u)), taking_stop e done' last' o' n us (stops_empty e n us (nothing b.edition (past + b.by_new) u'))) refl
  all e (suc fuel) ts us le (behind past (p ∷ r) u u' f) =
      let ts = tokens_at b.edition (past + b.by) (moved_piece b.by p ∷ map (moved_piece b.by) r) u in
      let us = tokens_at b.edition (past + b.by_new) (moved_piece b.by_new p ∷ map (moved_piece b.by_new) r) u' in
      let less = shorter ts (some_at b.edition (past + b.by) (moved_piece b.by p) (map (moved_piece b.by) r) u) in
      let next = next_behind b (past + b.by) (past + b.by_new) p r u u' f.1 in
      one e ts us (behind past (p ∷ r) u u' f) next (all e fuel (bumped ts) (bumped us) (omega arith) next)

  -- what is taken is ended in both texts or in neither
  pub taken_ended : (w : Before) (e : _) (ts us : Tokens) → Beside b ts us → (excerpt_behind w e us).0.is_ended ≡ (excerpt_behind w e ts).0.is_ended
  unfolding excerpt_behind
  taken_ended w e ts us h = all e (suc (length ts.left)) ts us (omega arith) h [] [] 0 0 None None (flat_behind w)

-- ---- items that hold none are ended in both of two texts or in neither, until one goes into the braces

-- whether an item is ended, if there is one, and the place of a use list in it that is too deep
abbrev ended_of : Option LeafRead → Bool
ended_of None = true
ended_of (Some l) = l.is_ended

abbrev deep_of : Option LeafRead → Option ℕ
deep_of None = None
deep_of (Some l) = l.too_deep

-- the same of both
pub record SameFlaws (b : Bodies) (o o' : Option LeafRead) : Type 0 where
  pub ended : ended_of o' ≡ ended_of o
  pub deep : IsAlike (SamePlace b) (deep_of o) (deep_of o')

-- the item of the one went into the braces, or these are the same
abbrev FlawsUntil : Bodies → Option LeafRead × Tokens → Option LeafRead × Tokens → Type 0
FlawsUntil b p q = LeafLost b p ⊎ SameFlaws b p.0 q.0

module _ (b : Bodies) (same : SameLoose b) where
  -- ---- ends

  call_ended : (ts us : Tokens) → Beside b ts us → (call_end us).0.is_ended ≡ (call_end ts).0.is_ended
  unfolding call_end
  call_ended ts us h =
      let body = taken_both b _ _ ts us h in
      let ended : (tree_body us).0.is_ended ≡ (tree_body ts).0.is_ended = taken_ended b same _ _ ts us h in
      let semicolon = eat_local b 59 refl (tree_body ts).1 (tree_body us).1 body.rest in
      when (is_at_open ts)
      (λ e. when (symbol ts == 123)
      (λ f. rw (open_same b ts us h, symbol_same b ts us h, e, f) ended)
      (λ f. rw (open_same b ts us h, symbol_same b ts us h, e, f, ended, semicolon.value) refl))
      (λ e. rw (open_same b ts us h, e) refl)

  -- ---- extern crates

  alias_beside : (ts us : Tokens) → Beside b ts us → Beside b (crate_alias ts).1 (crate_alias us).1
  unfolding crate_alias
  alias_beside ts us h =
      when (bytes_eq (word ts) (codes "_"))
      (λ e. let f : bytes_eq (word us) (codes "_") ≡ true = word_test b (codes "_") ts us h ∙ e in rw (e, f) (after_word b (codes "_") ts us refl h e))
      (λ e. let f : bytes_eq (word us) (codes "_") ≡ false = word_test b (codes "_") ts us h ∙ e in rw (e, f) (named_local b ts us h).rest)

  alias_if_beside : (found : Bool) (ts us : Tokens) → Beside b ts us → Beside b (crate_alias_if found ts).1 (crate_alias_if found us).1
  alias_if_beside true ts us h = alias_beside ts us h
  alias_if_beside false ts us h = h

  renamed_beside : (ts us : Tokens) → Beside b ts us → Beside b (written_rename ts).1 (written_rename us).1
  unfolding written_rename
  renamed_beside ts us h =
      let k = eat_word_local b (codes "as") refl ts us h in
      rw k.value (alias_if_beside (eat_word (codes "as") ts).0 (eat_word (codes "as") ts).1 (eat_word (codes "as") us).1 k.rest)

  -- ---- items

  some_is : {A : Type 0} (x y : A) → Some x ≡ Some y → x ≡ y
  some_is x y e = cc

  invocation_ended : (attrs : List MetaView) (ts us : Tokens) → Beside b ts us → SameFlaws b (invocation attrs ts).0 (invocation attrs us).0
  unfolding invocation
  invocation_ended attrs ts us h =
      let p = rule_local b path ts us h in
      let tests : (is_some (reads path us).0 && sees is_called (reads path us).1) ≡ (is_some (reads path ts).0 && sees is_called (reads path ts).1) =
      ap (λ o. is_some o && sees is_called (reads path us).1) p.value ∙ ap (λ t. is_some (reads path ts).0 && t) (is_called_same b (reads path ts).1 (reads path us).1 p.rest) in
      when (is_some (reads path ts).0 && sees is_called (reads path ts).1)
      (λ e. rw (tests, e) (record {
        ended = call_ended (bumped (reads path ts).1) (bumped (reads path us).1) (called_next b (reads path ts).1 (reads path us).1 p.rest (and_parts (is_some (reads path ts).0) (sees is_called (reads path ts).1) e).1);
        deep = neither;
      }))
      (λ e. rw (tests, e) (record { ended = refl; deep = neither }))

  item_call_ended : (attrs : List MetaView) (ts us : Tokens) → Beside b ts us → SameFlaws b (item_call attrs ts).0 (item_call attrs us).0
  unfolding item_call
  item_call_ended attrs ts us h =
      let calls = begins_call_beside b ts us h in
      when (begins_call ts) (λ e. rw (calls, e) (invocation_ended attrs ts us h)) (λ e. rw (calls, e) (record { ended = refl; deep = neither }))

  named_beside : (ts us : Tokens) → Beside b ts us → Beside b (written_name ts).1 (written_name us).1
  named_beside ts us h = (named_local b ts us h).rest

  rest_ended : (k : Head) (ts us : Tokens) → Beside b ts us → (rest_of k us).0.is_ended ≡ (rest_of k ts).0.is_ended
  unfolding rest_by
  rest_ended = by_taken (λ r. (ts us : Tokens) → Beside b ts us → (rest_by r us).0.is_ended ≡ (rest_by r ts).0.is_ended) (λ before e ts us h. taken_ended b same before e ts us h)

  flaws_until : (k : Head) (attrs : List MetaView) (v : Option Visibility) (ts us : Tokens) → Beside b ts us → FlawsUntil b (leaf_by k attrs v ts) (leaf_by k attrs v us)
  unfolding plain_leaf constant structure implementation crate_item use_declaration macro_definition
  flaws_until heads.Use attrs v ts us h =
      by_stayed (use_tree_until b ts us h)
      (λ g. inl (record { gone = gone_on g (eat_leads 59 _); free = λ l r e d s. absurd (let none : (use_read attrs v (use_tree ts).0 (eat 59 (use_tree ts).1).0).body ≡ Some r = ap (λ (x : LeafRead). x.body) (some_is _ l e) ∙ d in cc) }))
      (λ k. inr (record { ended = (eat_local b 59 refl (use_tree ts).1 (use_tree us).1 k.rest).value; deep = k.value.too_deep }))
  flaws_until heads.ExternCrate attrs v ts us h =
      inr (record { ended = (eat_local b 59 refl _ _ (renamed_beside _ _ (named_or_local b (codes "self") refl ts us h).rest)).value; deep = neither })
  flaws_until heads.Impl attrs v ts us h = inr (record { ended = rest_ended heads.Impl ts us h; deep = neither })
  flaws_until heads.Struct attrs v ts us h = inr (record { ended = rest_ended heads.Struct _ _ (named_beside ts us h); deep = neither })
  flaws_until heads.Const attrs v ts us h = inr (record { ended = rest_ended heads.Const _ _ (eat_word_local b (codes "_") refl _ _ (named_beside ts us h)).rest; deep = neither })
  flaws_until (heads.Plain k) attrs v ts us h = inr (record { ended = rest_ended (heads.Plain k) _ _ (named_beside _ _ (mut_word_local b k ts us h)); deep = neither })
  flaws_until heads.MacroRules attrs v ts us h = inr (record { ended = call_ended _ _ (named_or_local b (codes "try") refl ts us h).rest; deep = neither })
  flaws_until _ attrs v ts us h = inr (item_call_ended attrs ts us h)

-- ---- what is read of both

-- an item of both texts that is flawed alike, or none of either; or the one went into the braces, and its own do not stand at their place
pub data LeafTold (b : Bodies) (p q : Option LeafRead × Tokens) : Type 0 where
  lost : LeafLost b p → LeafTold b p q
  told : IsAlike (LeafAlike b) p.0 q.0 → SameFlaws b p.0 q.0 → Beside b p.1 q.1 → LeafTold b p q

flaws_of : (b : Bodies) → SameLoose b → (f g : FrontRead) (ts us : Tokens) → FrontAlike b f g → Beside b ts us → FlawsUntil b (leaf f ts) (leaf g us)
unfolding leaf
flaws_of b same f g ts us a h = rw (a.head, a.attrs, a.visibility) (flaws_until b same f.head f.attrs f.visibility ts us h)

pub leaf_told : (b : Bodies) → SameLoose b → BeginPlain b → (end : ℕ) (f g : FrontRead) (ts us : Tokens) → FrontAlike b f g → IsSound end ts → Beside b ts us → LeafTold b (leaf f ts) (leaf g us)
leaf_told b same plain end f g ts us a l h = by (flaws_of b same f g ts us a h) (leaf_until b plain end f g ts us a l h)
  where
    by : FlawsUntil b (leaf f ts) (leaf g us) → LeafUntil b (leaf f ts) (leaf g us) → LeafTold b (leaf f ts) (leaf g us)
    by (inl x) u = lost x
    by (inr s) (leaf_lost g x) = lost (record { gone = g; free = x })
    by (inr s) (leaf_same k r) = told k s r
