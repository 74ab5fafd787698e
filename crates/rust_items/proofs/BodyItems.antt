-- The items of two texts that differ between the braces of one item are the same but for body texts.
use Rattle.std.proofs.Common.{◌≡◌, ◌≤◌, ◌==◌, ◌||◌, ℕ, zero, suc, Bool, true, false, Option, Some, None, List, [], ◌∷◌, ◌++◌, map, refl, ap, sym, ◌∙◌, arith, option_map, option_to_list, eqb-true}
use Rattle.rust_items.proofs.Common.{Visibility, EditionYear, MetaView, item_without_bodies, ItemView, items_from, module_from, extern_block_from, Tokens, symbol, at, eat, is_at_end, bumped, most_tokens, progress_from, Bodies, Beside, ahead, behind, LeadsTo, further, through, when, eat_leads, beyond_leads, IsSound, sound_on, before_at, symbol_same, empty_same, end_same, beyond_beside, behind_tree_beside, eat_local, Gone, gone_on, by_kept, by_next, bumped_onward, by_stayed, SamePlace, at_place, past_place, TextRange, inner_attributes, inner_attributes_leads, inner_attributes_until, Head, FrontRead, front, LeafRead, no_name, written_name, node, named_node, leaf, behind_others_beside, LeafAlike, NameAlike, named_local, ItemSpan, Found, Finder, nothing_found, BlockRead, leaf_found, leaf_turn, finding_from, finding, is_list_end, block_of, as_extern, extern_kept, extern_found, extern_turn, extern_inside, extern_block, one_more, unmatched_token, inside_unless, module_with, some_item, by_head, turn_with, inside, turn, depth_of, items, begins_at, has_body, found_in, read_of, map-append}
use Rattle.hir_input.specs.declared.ids.AstIdKind.TheVariants as kind
use Rattle.rust_cursor.proofs.TokenPlaces as laid
use Rattle.rust_cursor.proofs.Places as places
use Rattle.rust_leaves.specs.declared.head.Head.TheVariants as heads
use Rattle.rust_items.proofs.BareItems.{extern_alike, list_of, module_alike, extern_block_alike}
use Rattle.rust_items.proofs.ItemRests.{named_leads, behind_others_leads, front_takes, front_start}
use Rattle.rust_items.proofs.Places.{FindsIn, inside_found, turn_found, turn_with_found, extern_turn_found, extern_inside_found, unless_found, items_found}
use Rattle.rust_items.proofs.FoundItems.{list_from, list_found, AreFound, Finds}
use Rattle.rust_items.proofs.BodyLeaves.{FrontAlike, front_until, BeginPlain, LeafUntil, leaf_lost, leaf_same, leaf_until, LeafLost, leaf_gone}
use Rattle.rust_items.proofs.FoundRows.{Elsewhere, AreElsewhere, Misses, misses_none, misses_both, found_gone, found_before, rows_of, FoundAlike, FoundKept, FoundUntil, ItemAlike, ListAlike, UpToFound, nothing_alike, problem_at_rows, leaf_rows_same, leaf_misses, elsewhere_by, parent_same, parent_misses, lost, same}

-- ---- items that hold none

-- the one went into the braces, and they are of no item that was found
record Lost {A : Type 0} (b : Bodies) (f : Found) (p : A × (Found × Tokens)) : Type 0 where
  gone : Gone b p.1.1
  misses : Misses b.opening.at f p.1.0

leaf_found_lost : (b : Bodies) (depth start : ℕ) (f : Found) (p : Option LeafRead × Tokens) → LeafLost b p → Lost b f (leaf_found depth start p.0 f p.1)
leaf_found_lost b depth start f p h = by p.0 h.free
  where
    by : (o : Option LeafRead) → ((l : LeafRead) (r : TextRange) → o ≡ Some l → l.body ≡ Some r → r.start ≡ b.opening.at → ⊥) → Lost b f (leaf_found depth start o f p.1)
    by None k = record { gone = gone_on h.gone (behind_others_leads p.1); misses = misses_none b.opening.at f _ refl }
    by (Some l) k = record { gone = h.gone; misses = leaf_misses b.opening.at depth start p.1.past l f (elsewhere_by b.opening.at l.body (λ r d s. k l r refl d s)) }

module _ (b : Bodies) (depth start start' : ℕ) (i : SamePlace b start start') (f f' : Found) (e : FoundAlike b f f') where
  leaf_found_until : (p q : Option LeafRead × Tokens) → LeafUntil b p q → FoundUntil ItemAlike b f (leaf_found depth start p.0 f p.1) (leaf_found depth start' q.0 f' q.1)
  leaf_found_until p q (leaf_lost g h) = let l = leaf_found_lost b depth start f p (record { gone = g; free = h }) in lost l.gone l.misses
  leaf_found_until p q (leaf_same a h) = by p.0 q.0 a
    where
      by : (o o' : Option LeafRead) → places.IsAlike (LeafAlike b) o o' → FoundUntil ItemAlike b f (leaf_found depth start o f p.1) (leaf_found depth start' o' f' q.1)
      by o o' places.neither = same (record { value = refl; found = e; rest = behind_others_beside b p.1 q.1 h })
      by o o' (places.both {x = l} {y = m} k) = same (record { value = ap Some k.item; found = leaf_rows_same b depth start p.1.past start' q.1.past l m f f' i (past_place b p.1 q.1 h) k e; rest = h })

-- ---- extern blocks

module _ (b : Bodies) (depth start start' : ℕ) (i : SamePlace b start start') (f f' : Found) (e : FoundAlike b f f') where
  kept_until : (end end' : ℕ) (ts us : Tokens) (l m : LeafRead) (o o' : Option ItemView) → SamePlace b end end' → LeafAlike b l m → option_map item_without_bodies o' ≡ option_map item_without_bodies o → Beside b ts us
      → FoundUntil ItemAlike b f ((extern_kept depth start end l o f).0, ((extern_kept depth start end l o f).1, ts)) ((extern_kept depth start' end' m o' f').0, ((extern_kept depth start' end' m o' f').1, us))
  kept_until end end' ts us l m None None j a d h = same (record { value = refl; found = e; rest = h })
  kept_until end end' ts us l m (Some _) (Some _) j a d h = same (record { value = d; found = leaf_rows_same b depth start end start' end' l m f f' i j a e; rest = h })
  kept_until end end' ts us l m _ _ j a d h = absurd cc

  kept_misses : (end : ℕ) (l : LeafRead) (o : Option ItemView) → Elsewhere b.opening.at l.body → Misses b.opening.at f (extern_kept depth start end l o f).1
  kept_misses end l None h = misses_none b.opening.at f _ refl
  kept_misses end l (Some i) h = leaf_misses b.opening.at depth start end l f h

  extern_found_until : (p q : Option LeafRead × Tokens) → LeafUntil b p q → FoundUntil ItemAlike b f (extern_found depth start p.0 f p.1) (extern_found depth start' q.0 f' q.1)
  extern_found_until p q (leaf_lost g h) = by p.0 (λ l r d. h l r d)
    where
      by : (o : Option LeafRead) → ((l : LeafRead) (r : TextRange) → o ≡ Some l → l.body ≡ Some r → r.start ≡ b.opening.at → ⊥)
          → FoundUntil ItemAlike b f (extern_found depth start o f p.1) (extern_found depth start' q.0 f' q.1)
      by None h = lost (gone_on g (behind_others_leads p.1)) (misses_none b.opening.at f _ refl)
      by (Some l) h = lost g (kept_misses p.1.past l (as_extern l.item) (elsewhere_by b.opening.at l.body (λ r d s. h l r refl d s)))
  extern_found_until p q (leaf_same a h) = by p.0 q.0 a
    where
      by : (o o' : Option LeafRead) → places.IsAlike (LeafAlike b) o o' → FoundUntil ItemAlike b f (extern_found depth start o f p.1) (extern_found depth start' o' f' q.1)
      by o o' places.neither = same (record { value = refl; found = e; rest = behind_others_beside b p.1 q.1 h })
      by o o' (places.both {x = l} {y = m} k) =
          kept_until p.1.past q.1.past p.1 q.1 l m (as_extern l.item) (as_extern m.item) (past_place b p.1 q.1 h) k (extern_alike m.item ∙ ap as_extern k.item ∙ sym (extern_alike l.item)) h

-- ---- turns

front_laid : (end : ℕ) (ts : Tokens) → IsSound end ts → IsSound end (front ts).1
front_laid end ts l = sound_on end (front_takes ts).leads l

front_place : (b : Bodies) (ts us : Tokens) → Beside b ts us → SamePlace b (front ts).0.start (front us).0.start
front_place b ts us h = rw (front_start ts, front_start us) (at_place b ts us h)

-- nothing is found where a bracket closes nothing
unmatched_until : (b : Bodies) (f f' : Found) (ts us : Tokens) → FoundAlike b f f' → Beside b ts us → FoundUntil ItemAlike b f (unmatched_token f ts) (unmatched_token f' us)
unmatched_until b f f' ts us e h =
    by_next (bumped_onward b ts us h) (λ g. lost g (misses_none b.opening.at f _ refl)) (λ n. same (record { value = refl; found = e; rest = n }))

extern_turn_until : (end depth : ℕ) (b : Bodies) → BeginPlain b → UpToFound end b (extern_turn depth)
unfolding extern_turn
extern_turn_until end depth b plain f f' ts us l e h =
    when (is_at_end ts)
    (λ t. rw (end_same b ts us h, t) (unmatched_until b f f' ts us e h))
    (λ t. rw (end_same b ts us h, t) (by_stayed (front_until b ts us h)
    (λ g. extern_found_until b depth (front ts).0.start (front us).0.start (front_place b ts us h) f f' e (leaf (front ts).0 (front ts).1) (leaf (front us).0 (front us).1) (let x = leaf_gone b end (front ts).0 (front ts).1 (front_laid end ts l) g in leaf_lost x.gone x.free))
    (λ k. extern_found_until b depth (front ts).0.start (front us).0.start k.value.start f f' e (leaf (front ts).0 (front ts).1) (leaf (front us).0 (front us).1) (leaf_until b plain end (front ts).0 (front us).0 (front ts).1 (front us).1 k.value (front_laid end ts l) k.rest))))

leaf_turn_until : (end depth : ℕ) (b : Bodies) → BeginPlain b → (h h' : FrontRead) (f f' : Found) (ts us : Tokens) → IsSound end ts → FoundAlike b f f' → FrontAlike b h h' → Beside b ts us
    → FoundUntil ItemAlike b f (leaf_turn depth h f ts) (leaf_turn depth h' f' us)
unfolding leaf_turn
leaf_turn_until end depth b plain h h' f f' ts us l e a k = leaf_found_until b depth h.start h'.start a.start f f' e (leaf h ts) (leaf h' us) (leaf_until b plain end h h' ts us a l k)

leaf_turn_lost : (end depth : ℕ) (b : Bodies) (h : FrontRead) (f : Found) (ts : Tokens) → IsSound end ts → Gone b ts → Lost b f (leaf_turn depth h f ts)
unfolding leaf_turn
leaf_turn_lost end depth b h f ts l g = leaf_found_lost b depth h.start f (leaf h ts) (leaf_gone b end h ts l g)

-- ---- lists

by_found : {A P : Type 0} {alike : A → A → Type 0} {b : Bodies} {f : Found} {p q : A × (Found × Tokens)} → FoundUntil alike b f p q
    → (Gone b p.1.1 → Misses b.opening.at f p.1.0 → P) → (FoundKept alike b p q → P) → P
by_found (lost g m) x y = x g m
by_found (same k) x y = y k

-- the braces are passed
unfoldable pub passed : Bodies → Bodies
passed b = record b { passed = true }

pub plain_passed : (b : Bodies) → BeginPlain b → BeginPlain (passed b)
unfolding passed
plain_passed b plain = record { new_behind = plain.new_behind; old = plain.old; new = plain.new }

pub side : {P : Type 0} (b : Bodies) (ts us : Tokens) → Beside b ts us → (ts.past ≤ b.opening.at → P) → (Beside (passed b) ts us → P) → P
unfolding passed
side b ts us (ahead past x r u u' i j) before far = before (before_at b.opening.at past x i)
side b ts us (behind past r u u' i) before far = far (behind past r u u' i)

found_passed : (b : Bodies) (f g : Found) → FoundAlike b f g → FoundAlike (passed b) f g
unfolding passed
found_passed b f g a = a

pub unpassed_beside : (b : Bodies) (ts us : Tokens) → Beside (passed b) ts us → Beside b ts us
unfolding passed
unpassed_beside b ts us (ahead past x r u u' i j) = absurd (let no : true ≡ false = j.unpassed in cc)
unpassed_beside b ts us (behind past r u u' i) = behind past r u u' i

unpassed : {A : Type 0} {alike : A → A → Type 0} (b : Bodies) {f g : Found} {p q : A × (Found × Tokens)} → FoundUntil alike (passed b) f p q → FoundUntil alike b g p q
unfolding passed
unpassed b (lost g m) = absurd (let no : true ≡ false = g.unpassed in cc)
unpassed b (same k) = same (record { value = k.value; found = k.found; rest = unpassed_beside b _ _ k.rest })

more_alike : (done done' : List ItemView) (o o' : Option ItemView) → ListAlike done done' → ItemAlike o o' → ListAlike (done ++ option_to_list o) (done' ++ option_to_list o')
more_alike done done' o o' a e =
    map-append item_without_bodies done' (option_to_list o') ∙ ap (λ l. l ++ map item_without_bodies (option_to_list o')) a
    ∙ ap (λ l. map item_without_bodies done ++ l) (list_of item_without_bodies o' ∙ ap option_to_list e ∙ sym (list_of item_without_bodies o)) ∙ sym (map-append item_without_bodies done (option_to_list o))

-- what is found by a turn, and what is left behind it and what is passed over then
pub record TurnOn (end : ℕ) (turn : Finder (Option ItemView)) (f : Found) (ts : Tokens) : Type 0 where
  pub found : AreFound ts (turn f ts).1.1 f (turn f ts).1.0 (items_from (option_to_list (turn f ts).0))
  pub leads : LeadsTo (turn f ts).1.1 (progress_from ts.past (turn f ts).1.1)
  pub sound : IsSound end (progress_from ts.past (turn f ts).1.1)
  pub past : (turn f ts).1.1.past ≤ (progress_from ts.past (turn f ts).1.1).past

pub turn_on : (end : ℕ) (turn : Finder (Option ItemView)) → Finds end turn → (f : Found) (ts : Tokens) → IsSound end ts → TurnOn end turn f ts
turn_on end turn finds f ts l =
    let found = finds f ts l.laid in
    let leads = beyond_leads ts.past (turn f ts).1.1 in
    record { found = found; leads = leads; sound = sound_on end (through found.leads leads) l; past = (laid.behind end leads (laid.behind end found.leads l.laid).laid).past }

module _ (end : ℕ) (ends : Tokens → Bool) (ends_same : (b : Bodies) (ts us : Tokens) → Beside b ts us → ends us ≡ ends ts) (turn : Finder (Option ItemView)) (finds : Finds end turn)
    (each : (b : Bodies) → BeginPlain b → UpToFound end b turn) where
  list_until : (n : ℕ) (b : Bodies) → BeginPlain b → (done done' : List ItemView) (f f' : Found) (ts us : Tokens) → IsSound end ts → ListAlike done done' → FoundAlike b f f' → Beside b ts us
      → FoundUntil ListAlike b f (finding_from ends turn n done f ts) (finding_from ends turn n done' f' us)
  list_until zero b plain done done' f f' ts us l a e h = same (record { value = a; found = e; rest = h })
  list_until (suc n) b plain done done' f f' ts us l a e h =
      let o = (turn f ts).0 in
      let o' = (turn f' us).0 in
      let g = (turn f ts).1.0 in
      let g' = (turn f' us).1.0 in
      let next = progress_from ts.past (turn f ts).1.1 in
      let next' = progress_from us.past (turn f' us).1.1 in
      let one = turn_on end turn finds f ts l in
      let rest = list_from end ends turn finds n (done ++ option_to_list o) g next one.sound.laid in
      when (ends ts)
      (λ z. rw (ends_same b ts us h, z) (same (record { value = a; found = e; rest = h })))
      (λ z. rw (ends_same b ts us h, z) (by_found (each b plain f f' ts us l e h)
      (λ k m. let k' = gone_on k one.leads in lost (gone_on k' rest.found.leads) (misses_both m (found_gone rest.found k')))
      (λ k. let both = beyond_beside b ts us _ _ h k.rest in
      let alike = more_alike done done' o o' a k.value in
      side b next next' both
      (λ low. by_found (list_until n b plain (done ++ option_to_list o) (done' ++ option_to_list o') g g' next next' one.sound alike k.found both)
      (λ x m. lost x (misses_both (found_before b one.found (let past = one.past in omega arith)) m)) (λ j. same j))
      (λ far. unpassed b (list_until n (passed b) (plain_passed b plain) (done ++ option_to_list o) (done' ++ option_to_list o') g g' next next' one.sound alike (found_passed b g g' k.found) far)))))

-- ---- blocks

pub record BlockAlike (r s : BlockRead) : Type 0 where
  pub attrs : s.attrs ≡ r.attrs
  pub items : option_map (map item_without_bodies) s.items ≡ option_map (map item_without_bodies) r.items

abbrev UpToBlock : ℕ → Bodies → Finder BlockRead → Type 0
UpToBlock end b inside = (f f' : Found) (ts us : Tokens) → IsSound end ts → FoundAlike b f f' → Beside b ts us → FoundUntil BlockAlike b f (inside f ts) (inside f' us)

list_end_same : (is_top : Bool) (b : Bodies) (ts us : Tokens) → Beside b ts us → is_list_end is_top us ≡ is_list_end is_top ts
unfolding is_list_end
list_end_same is_top b ts us h = rw (empty_same b ts us h, symbol_same b ts us h) refl

module _ (end : ℕ) (turn : Finder (Option ItemView)) (finds : Finds end turn) (each : (b : Bodies) → BeginPlain b → UpToFound end b turn) where
  block_until : (b : Bodies) → BeginPlain b → UpToBlock end b (block_of turn)
  unfolding finding
  block_until b plain f f' ts us l e h =
      let inner = inner_attributes (bumped ts) in
      let inner' = inner_attributes (bumped us) in
      let open_leads : LeadsTo ts inner.1 = further (inner_attributes_leads (bumped ts)) in
      let first = laid.behind end open_leads l.laid in
      let list = list_found end (is_list_end false) turn finds f inner.1 first.laid in
      by_next (bumped_onward b ts us h)
      (λ g. let k = gone_on g (inner_attributes_leads (bumped ts)) in lost (gone_on (gone_on k list.leads) (eat_leads 125 _)) (found_gone list k))
      (λ n. by_kept (inner_attributes_until b (bumped ts) (bumped us) n)
      (λ k. lost (gone_on (gone_on k list.leads) (eat_leads 125 _)) (found_gone list k))
      (λ k. by_found (list_until end (is_list_end false) (list_end_same false) turn finds each most_tokens b plain [] [] f f' inner.1 inner'.1 (sound_on end open_leads l) refl e k.rest)
      (λ g m. lost (gone_on g (eat_leads 125 _)) m)
      (λ j. same (record { value = record { attrs = k.value; items = ap Some j.value }; found = j.found; rest = (eat_local b 125 refl _ _ j.rest).rest }))))

-- ---- items that hold others

module_same : (attrs attrs' : List MetaView) (n n' : Option (List ℕ)) (v v' : Option Visibility) (s s' : Bool) (is is' : Option (List ItemView)) → attrs' ≡ attrs → n' ≡ n → v' ≡ v → s' ≡ s
    → option_map (map item_without_bodies) is' ≡ option_map (map item_without_bodies) is → item_without_bodies (module_from (named_node attrs' n' v' []) s' is') ≡ item_without_bodies (module_from (named_node attrs n v []) s is)
module_same attrs attrs' n n' v v' s s' is is' a b c d e =
    module_alike (named_node attrs' n' v' []) s' is' ∙ ap (module_from (named_node attrs' n' v' []) s') e ∙ ap (λ t. module_from (named_node attrs' n' v' []) t (option_map (map item_without_bodies) is)) d
    ∙ ap (λ (t : Option Visibility). module_from (named_node attrs' n' t []) s (option_map (map item_without_bodies) is)) c
    ∙ ap (λ (t : Option (List ℕ)). module_from (named_node attrs' t v []) s (option_map (map item_without_bodies) is)) b
    ∙ ap (λ (t : List MetaView). module_from (named_node t n v []) s (option_map (map item_without_bodies) is)) a ∙ sym (module_alike (named_node attrs n v []) s is)

extern_block_same : (attrs attrs' : List MetaView) (is is' : Option (List ItemView)) → attrs' ≡ attrs → option_map (map item_without_bodies) is' ≡ option_map (map item_without_bodies) is
    → item_without_bodies (extern_block_from (node attrs' []) is') ≡ item_without_bodies (extern_block_from (node attrs []) is)
extern_block_same attrs attrs' is is' a e =
    extern_block_alike (node attrs' []) is' ∙ ap (extern_block_from (node attrs' [])) e ∙ ap (λ (t : List MetaView). extern_block_from (node t []) (option_map (map item_without_bodies) is)) a
    ∙ sym (extern_block_alike (node attrs []) is)

-- extern blocks
extern_inside_until : (end depth : ℕ) (b : Bodies) → BeginPlain b → UpToBlock end b (extern_inside depth)
unfolding extern_inside
extern_inside_until end depth b plain f f' ts us l e h =
    when (symbol ts == 123)
    (λ z. rw (symbol_same b ts us h, z) (block_until end (extern_turn depth) (extern_turn_found end depth) (extern_turn_until end depth) b plain f f' ts us l e h))
    (λ z. rw (symbol_same b ts us h, z) (same (record { value = record { attrs = refl; items = refl }; found = e; rest = h })))

extern_block_until : (end depth start start' : ℕ) (attrs attrs' : List MetaView) (b : Bodies) → BeginPlain b → SamePlace b start start' → attrs' ≡ attrs → (f f' : Found) (ts us : Tokens) → IsSound end ts → FoundAlike b f f' → Beside b ts us
    → FoundUntil ItemAlike b f (some_item (extern_block depth start attrs f ts)) (some_item (extern_block depth start' attrs' f' us))
unfolding extern_block
extern_block_until end depth start start' attrs attrs' b plain i a f f' ts us l e h =
    let x = extern_inside (one_more depth) nothing_found ts in
    let y = extern_inside (one_more depth) nothing_found us in
    by_found (extern_inside_until end (one_more depth) b plain nothing_found nothing_found ts us l (nothing_alike b) h)
    (λ g m. lost g (parent_misses b.opening.at depth start x.1.1.past kind.ExternBlock no_name x.0.is_ended x.1.0 f m))
    (λ k. same (record {
      value = ap Some (extern_block_same (attrs ++ x.0.attrs) (attrs' ++ y.0.attrs) x.0.items y.0.items (ap (λ l. l ++ y.0.attrs) a ∙ ap (λ l. attrs ++ l) k.value.attrs) k.value.items);
      found = parent_same b depth start x.1.1.past start' y.1.1.past kind.ExternBlock no_name no_name x.0.is_ended y.0.is_ended x.1.0 y.1.0 f f' i (past_place b x.1.1 y.1.1 k.rest) refl places.neither k.found e;
      rest = k.rest;
    }))

extern_block_lost : (end depth start : ℕ) (attrs : List MetaView) (b : Bodies) (f : Found) (ts : Tokens) → IsSound end ts → Gone b ts → Lost b f (some_item (extern_block depth start attrs f ts))
unfolding extern_block
extern_block_lost end depth start attrs b f ts l g =
    let x = extern_inside (one_more depth) nothing_found ts in
    let found = extern_inside_found end (one_more depth) nothing_found ts l.laid in
    record { gone = gone_on g found.leads; misses = parent_misses b.opening.at depth start x.1.1.past kind.ExternBlock no_name x.0.is_ended x.1.0 f (found_gone found g) }

-- the names of modules of both, and the semicolons behind them
pub record NamedAlike (b : Bodies) (ts us : Tokens) : Type 0 where
  pub name : NameAlike b (written_name ts).0 (written_name us).0
  pub ended : (eat 59 (written_name us).1).0 ≡ (eat 59 (written_name ts).1).0
  pub rest : Beside b (eat 59 (written_name ts).1).1 (eat 59 (written_name us).1).1

pub named_alike : (b : Bodies) (ts us : Tokens) → Beside b ts us → NamedAlike b ts us
named_alike b ts us h =
    let n = named_local b ts us h in
    let s = eat_local b 59 refl (written_name ts).1 (written_name us).1 n.rest in
    record { name = n.value; ended = s.value; rest = s.rest }

-- modules
module _ (end : ℕ) (inside : Finder BlockRead) (finds : FindsIn end inside) (each : (b : Bodies) → BeginPlain b → UpToBlock end b inside) (depth : ℕ) where
  unless_until : (b : Bodies) → BeginPlain b → (s s' : Bool) → s' ≡ s → (f f' : Found) (ts us : Tokens) → IsSound end ts → FoundAlike b f f' → Beside b ts us
      → FoundUntil BlockAlike b f (inside_unless s inside f ts) (inside_unless s' inside f' us)
  unless_until b plain true s' d f f' ts us l e h = rw d (same (record { value = record { attrs = refl; items = refl }; found = e; rest = h }))
  unless_until b plain false s' d f f' ts us l e h = rw d (each b plain f f' ts us l e h)

  module_until : (b : Bodies) → BeginPlain b → (h h' : FrontRead) → FrontAlike b h h' → (f f' : Found) (ts us : Tokens) → IsSound end ts → FoundAlike b f f' → Beside b ts us
      → FoundUntil ItemAlike b f (some_item (module_with inside depth h f ts)) (some_item (module_with inside depth h' f' us))
  module_until b plain h h' a f f' ts us l e k =
      let n = named_alike b ts us k in
      let c = eat 59 (written_name ts).1 in
      let c' = eat 59 (written_name us).1 in
      let x = inside_unless c.0 inside nothing_found c.1 in
      let y = inside_unless c'.0 inside nothing_found c'.1 in
      let sound = sound_on end (through (named_leads ts) (eat_leads 59 (written_name ts).1)) l in
      by_found (unless_until b plain c.0 c'.0 n.ended nothing_found nothing_found c.1 c'.1 sound (nothing_alike b) n.rest)
      (λ g m. lost g (parent_misses b.opening.at depth h.start x.1.1.past kind.Module (written_name ts).0 (c.0 || x.0.is_ended) x.1.0 f m))
      (λ j. same (record {
        value = ap Some (module_same (h.attrs ++ x.0.attrs) (h'.attrs ++ y.0.attrs) (written_name ts).0.name (written_name us).0.name h.visibility h'.visibility c.0 c'.0 x.0.items y.0.items
            (ap (λ l. l ++ y.0.attrs) a.attrs ∙ ap (λ l. h.attrs ++ l) j.value.attrs) n.name.name a.visibility n.ended j.value.items);
        found = parent_same b depth h.start x.1.1.past h'.start y.1.1.past kind.Module (written_name ts).0 (written_name us).0 (c.0 || x.0.is_ended) (c'.0 || y.0.is_ended) x.1.0 y.1.0 f f' a.start (past_place b x.1.1 y.1.1 j.rest) n.name.hashed n.name.range j.found e;
        rest = j.rest;
      }))

  module_lost : (b : Bodies) (h : FrontRead) (f : Found) (ts : Tokens) → IsSound end ts → Gone b ts → Lost b f (some_item (module_with inside depth h f ts))
  module_lost b h f ts l g =
      let c = eat 59 (written_name ts).1 in
      let x = inside_unless c.0 inside nothing_found c.1 in
      let leads = through (named_leads ts) (eat_leads 59 (written_name ts).1) in
      let sound = sound_on end leads l in
      let found = unless_found end inside finds depth c.0 nothing_found c.1 sound.laid in
      record { gone = gone_on (gone_on g leads) found.leads; misses = parent_misses b.opening.at depth h.start x.1.1.past kind.Module (written_name ts).0 (c.0 || x.0.is_ended) x.1.0 f (found_gone found (gone_on g leads)) }

  head_lost : (b : Bodies) (k : Head) (h : FrontRead) (f : Found) (ts : Tokens) → IsSound end ts → Gone b ts → Lost b f (by_head inside depth k h f ts)
  head_lost b heads.Module h f ts l g = module_lost b h f ts l g
  head_lost b heads.ExternBlock h f ts l g = extern_block_lost end depth h.start h.attrs b f ts l g
  head_lost b _ h f ts l g = leaf_turn_lost end depth b h f ts l g

  head_until : (b : Bodies) → BeginPlain b → (k : Head) (h h' : FrontRead) → FrontAlike b h h' → (f f' : Found) (ts us : Tokens) → IsSound end ts → FoundAlike b f f' → Beside b ts us
      → FoundUntil ItemAlike b f (by_head inside depth k h f ts) (by_head inside depth k h' f' us)
  head_until b plain heads.Module h h' a f f' ts us l e k = module_until b plain h h' a f f' ts us l e k
  head_until b plain heads.ExternBlock h h' a f f' ts us l e k = extern_block_until end depth h.start h'.start h.attrs h'.attrs b plain a.start a.attrs f f' ts us l e k
  head_until b plain _ h h' a f f' ts us l e k = leaf_turn_until end depth b plain h h' f f' ts us l e a k

  turn_with_until : (b : Bodies) → BeginPlain b → UpToFound end b (turn_with inside depth)
  turn_with_until b plain f f' ts us l e h =
      when (is_at_end ts)
      (λ t. rw (end_same b ts us h, t) (unmatched_until b f f' ts us e h))
      (λ t. rw (end_same b ts us h, t) (by_stayed (front_until b ts us h)
      (λ g. let x = head_lost b (front ts).0.head (front ts).0 f (front ts).1 (front_laid end ts l) g in lost x.gone x.misses)
      (λ k. rw k.value.head (head_until b plain (front ts).0.head (front ts).0 (front us).0 k.value f f' (front ts).1 (front us).1 (front_laid end ts l) e k.rest))))

inside_until : (end left : ℕ) (b : Bodies) → BeginPlain b → UpToBlock end b (inside left)
unfolding inside
inside_until end zero b plain f f' ts us l e h =
    when (symbol ts == 123)
    (λ z. rw (symbol_same b ts us h, z) (same (record { value = record { attrs = refl; items = refl }; found = e; rest = behind_tree_beside b ts us h })))
    (λ z. rw (symbol_same b ts us h, z) (same (record { value = record { attrs = refl; items = refl }; found = e; rest = h })))
inside_until end (suc left) b plain f f' ts us l e h =
    when (symbol ts == 123)
    (λ z. rw (symbol_same b ts us h, z)
    (block_until end (turn_with (inside left) (depth_of left)) (turn_with_found end (inside left) (inside_found end left) (depth_of left))
    (turn_with_until end (inside left) (inside_found end left) (inside_until end left) (depth_of left)) b plain f f' ts us l e h))
    (λ z. rw (symbol_same b ts us h, z) (same (record { value = record { attrs = refl; items = refl }; found = e; rest = h })))

turn_until : (end left : ℕ) (b : Bodies) → BeginPlain b → UpToFound end b (turn left)
unfolding turn
turn_until end left b plain f f' ts us l e h = turn_with_until end (inside left) (inside_found end left) (inside_until end left) (depth_of left) b plain f f' ts us l e h

-- the items of a file
pub items_until : (end : ℕ) (is_top : Bool) (left : ℕ) (b : Bodies) → BeginPlain b → (f f' : Found) (ts us : Tokens) → IsSound end ts → FoundAlike b f f' → Beside b ts us
    → FoundUntil ListAlike b f (items is_top left f ts) (items is_top left f' us)
unfolding finding
items_until end is_top left b plain f f' ts us l e h =
    list_until end (is_list_end is_top) (list_end_same is_top) (turn left) (turn_found end left) (turn_until end left) most_tokens b plain [] [] f f' ts us l refl e h

-- ---- whole files

abbrev pub items_behind : Tokens → List ItemView × (Found × Tokens)
items_behind ts = items true 128 nothing_found (inner_attributes ts).1

none_begins : (at : ℕ) (o : Option TextRange) → Elsewhere at o → begins_at at o ≡ false
none_begins at None h = refl
none_begins at (Some r) h = when (r.start == at) (λ e. absurd (h (eqb-true r.start at e))) (λ e. e)

none_has : (at : ℕ) (ss : List ItemSpan) → AreElsewhere at ss → has_body at ss ≡ false
none_has at [] h = refl
none_has at (s ∷ ss) h = rw (none_begins at s.body h.0) (none_has at ss h.1)

misses_all : {at : ℕ} {g : Found} → Misses at nothing_found g → has_body at g.spans ≡ false
misses_all {at} m = ap (has_body at) m.is ∙ none_has at m.more m.free

-- the braces are of no item of the file, or the same is read but for body texts
pub data FileUntil (b : Bodies) (ts us : Tokens) : Type 0 where
  of_none : has_body b.opening.at (items_behind ts).1.0.spans ≡ false → FileUntil b ts us
  alike : (inner_attributes us).0 ≡ (inner_attributes ts).0 → ListAlike (items_behind ts).0 (items_behind us).0 → FoundAlike b (items_behind ts).1.0 (items_behind us).1.0 → FileUntil b ts us

pub file_until : (end : ℕ) (b : Bodies) → BeginPlain b → (ts us : Tokens) → IsSound end ts → Beside b ts us → FileUntil b ts us
file_until end b plain ts us l h =
    let inner = inner_attributes ts in
    let sound = sound_on end (inner_attributes_leads ts) l in
    by_kept (inner_attributes_until b ts us h)
    (λ g. let m = found_gone (items_found end true 128 nothing_found inner.1 sound.laid) g in of_none (misses_all m))
    (λ k. by_found (items_until end true 128 b plain nothing_found nothing_found inner.1 (inner_attributes us).1 sound (nothing_alike b) k.rest)
    (λ g m. of_none (misses_all m)) (λ j. alike k.value j.value j.found))

pub found_rows : (edition : EditionYear) (x : List ℕ) → rows_of (found_in edition x) ≡ rows_of (read_of edition x).1.0
unfolding found_in
found_rows edition x = problem_at_rows _ _ _
