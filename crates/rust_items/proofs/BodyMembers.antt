-- Members of traits and impls, of tokens beside, stand alike until one goes into the braces.
use Rattle.std.proofs.Common.{◌≡◌, ◌≤◌, ◌<◌, ◌==◌, ℕ, zero, suc, true, false, Option, Some, None, List, [], ◌∷◌, ◌++◌, refl, ap, sym, ◌∙◌, if◌then◌else◌, arith, append_assoc, option_map, option_to_list}
use Rattle.hir_input.specs.declared.ast.PlainKind.TheVariants as plain_kind
use Rattle.hir_input.specs.Attr.{MetaView}
use Rattle.hir_input.specs.Bodies.{item_without_bodies}
use Rattle.hir_input.specs.declared.ast.Visibility.{Visibility}
use Rattle.hir_input.specs.declared.ids.AstIdKind.{AstIdKind}
use Rattle.hir_input.specs.declared.ids.AstIdKind.TheVariants as kind
use Rattle.rust_cursor.proofs.BodyValues.{by_stayed}
use Rattle.rust_cursor.proofs.SoundTokens.{IsSound, sound_on}
use Rattle.rust_cursor.proofs.TokenPlaces as laid
use Rattle.rust_cursor.proofs.TokenRests.{LeadsTo, further, through, when, beyond_leads}
use Rattle.rust_cursor.proofs.Passing.{beyond_beside}
use Rattle.rust_cursor.proofs.Places.{AreAlike, IsAlike, SamePlace, alike_join, at_place, both, neither, no_more, one_more, past_place}
use Rattle.rust_cursor.proofs.BodyReaders.{Gone, bumped_onward, by_kept, by_next, gone_on}
use Rattle.rust_cursor.proofs.Views.{behind_at, empty_same, end_same, symbol_same}
use Rattle.rust_cursor.specs.TokensBeside.{Beside, Bodies}
use Rattle.rust_items.proofs.FoundRows.{Elsewhere}
use Rattle.rust_items.proofs.ItemRests.{behind_others_leads, front_start, front_takes}
use Rattle.rust_items.proofs.BodyItems.{passed, plain_passed, side}
use Rattle.rust_items.proofs.BodyLeaves.{BeginPlain, LeafUntil, front_until, leaf_gone, leaf_lost, leaf_same, leaf_until}
use Rattle.rust_leaves.proofs.BodyParts.{LeafAlike, RangeAlike, SameRange}
use Rattle.rust_leaves.proofs.BodyFronts.{behind_others_beside}
use Rattle.rust_leaves.specs.Kinds.{leaf}
use Rattle.rust_metas.proofs.AttributeRests.{inner_attributes_leads}
use Rattle.rust_metas.proofs.BodyAttributes.{inner_attributes_until}
use Rattle.rust_metas.specs.Attributes.{inner_attributes}
use Rattle.rust_metas.specs.declared.wanted.WantedMetas.{WantedMetas}
use Rattle.rust_items.proofs.MemberCommon.{ItemView, plain_item, Tokens, Reader, symbol, at, is_at_end, bumped, most_tokens, progress_from, turns_from, turns, perhaps, TextRange, front, LeafRead, IsNameIn, MemberRead, MemberTold, told_of, told_with, body_of, member_kept, leaf_member, associated_item, part_of, part_member, member_turn, is_list_over, members_from, ArePlaced}
use Rattle.rust_items.specs.MemberParts.{told_keeping}
use Rattle.rust_items.specs.declared.member.MemberKind.{MemberKind}
use Rattle.rust_items.specs.declared.member.MemberKind.TheVariants as member
use Rattle.rust_items.proofs.MemberPlacing.{AreFound, Finds, associated_found, list_from, list_found}

-- ---- whose braces they are

-- the braces of these members do not begin there
abbrev pub AreElsewhere : ℕ → List MemberRead → Type 0
AreElsewhere at [] = Unit {0}
AreElsewhere at (m ∷ ms) = Elsewhere at m.body × AreElsewhere at ms

all_elsewhere : (at : ℕ) (xs ys : List MemberRead) → AreElsewhere at xs → AreElsewhere at ys → AreElsewhere at (xs ++ ys)
all_elsewhere at [] ys h k = k
all_elsewhere at (x ∷ xs) ys h k = (h.0, all_elsewhere at xs ys h.1 k)

body_behind : (at : ℕ) (range : TextRange) (body : Option TextRange) → IsNameIn range body → at < range.start → Elsewhere at body
body_behind at range None h l = tt
body_behind at range (Some r) h l = λ e. let begins : range.start ≤ r.start = h.0 in absurd (omega arith)

body_before : (at : ℕ) (range : TextRange) (body : Option TextRange) → IsNameIn range body → range.end ≤ at → Elsewhere at body
body_before at range None h l = tt
body_before at range (Some r) h l = λ e. let some : r.start < r.end = h.1 in let ends : r.end ≤ range.end = h.2 in absurd (omega arith)

behind_elsewhere : (at from to : ℕ) (ms : List MemberRead) → ArePlaced from to ms → at < from → AreElsewhere at ms
behind_elsewhere at from to [] p l = tt
behind_elsewhere at from to (m ∷ ms) p l =
    let begins = p.0.begins in
    let some = p.0.some in
    (body_behind at m.range m.body p.0.body (omega arith), behind_elsewhere at m.range.end to ms p.1 (omega arith))

before_elsewhere : (at from to : ℕ) (ms : List MemberRead) → ArePlaced from to ms → to ≤ at → AreElsewhere at ms
before_elsewhere at from to [] p l = tt
before_elsewhere at from to (m ∷ ms) p l =
    let ends = p.0.ends in
    (body_before at m.range m.body p.0.body (omega arith), before_elsewhere at m.range.end to ms p.1 l)

-- of what was found behind the first, no member has its braces there
record Misses (at : ℕ) (done all : List MemberRead) : Type 0 where
  more : List MemberRead
  is : all ≡ done ++ more
  free : AreElsewhere at more

misses_more : (at : ℕ) (done new all : List MemberRead) → AreElsewhere at new → Misses at (done ++ new) all → Misses at done all
misses_more at done new all f m = record { more = new ++ m.more; is = m.is ∙ append_assoc done new m.more; free = all_elsewhere at new m.more f m.free }

-- ---- what is read

-- where a member and its braces stand in the one text and in the other
pub record MemberAlike (same : ℕ → ℕ → Type 0) (m n : MemberRead) : Type 0 where
  pub range : SameRange same m.range n.range
  pub body : IsAlike (SameRange same) m.body n.body

-- a member of both texts, or none of either; or the one went into the braces, and its own do not stand at their place
data TurnUntil (b : Bodies) (p q : Option MemberRead × Tokens) : Type 0 where
  turn_lost : Gone b p.1 → AreElsewhere b.opening.at (option_to_list p.0) → TurnUntil b p q
  turn_same : IsAlike (MemberAlike (SamePlace b)) p.0 q.0 → Beside b p.1 q.1 → TurnUntil b p q

-- what an item is as a member is told without its body
abbrev kind_of : Option MemberTold → Option MemberKind
kind_of o = option_map (λ t. t.kind) o

kind_bare : (i : ItemView) → kind_of (told_of (item_without_bodies i)) ≡ kind_of (told_of i)
kind_bare (plain_item plain_kind.Fn n) = refl
kind_bare (plain_item plain_kind.TypeAlias n) = refl
kind_bare _ = refl

kind_with : (w : WantedMetas) (o : Option MemberTold) → kind_of (option_map (told_keeping w) o) ≡ kind_of o
kind_with w None = refl
kind_with w (Some t) = refl

kind_same : (w : WantedMetas) (i j : ItemView) → item_without_bodies j ≡ item_without_bodies i → kind_of (told_with w j) ≡ kind_of (told_with w i)
kind_same w i j e =
    kind_with w (told_of j) ∙ sym (kind_bare j) ∙ ap (λ k. kind_of (told_of k)) e ∙ kind_bare i ∙ sym (kind_with w (told_of i))

body_alike : (b : Bodies) (k k' : MemberKind) (o o' : Option TextRange) → k' ≡ k → RangeAlike b o o' → RangeAlike b (body_of k o) (body_of k' o')
body_alike b k k' o o' e a = rw e (by k)
  where
    by : (k : MemberKind) → RangeAlike b (body_of k o) (body_of k o')
    by member.Function = a
    by _ = neither

some_kind : (k k' : MemberKind) → Some k' ≡ Some k → k' ≡ k
some_kind k k' e = cc

kept_alike : (b : Bodies) (start start' end end' : ℕ) (l m : LeafRead) (o o' : Option MemberTold) → SamePlace b start start' → SamePlace b end end' → LeafAlike b l m → kind_of o' ≡ kind_of o
    → IsAlike (MemberAlike (SamePlace b)) (member_kept start end l o) (member_kept start' end' m o')
kept_alike b start start' end end' l m None None i j a e = neither
kept_alike b start start' end end' l m (Some t) (Some t') i j a e =
    both (record { range = record { start = i; end = j }; body = body_alike b t.kind t'.kind l.body m.body (some_kind t.kind t'.kind e) a.body })
kept_alike b start start' end end' l m _ _ i j a e = absurd cc

elsewhere_by : (at : ℕ) (k : MemberKind) (o : Option TextRange) → ((r : TextRange) → o ≡ Some r → r.start ≡ at → ⊥) → Elsewhere at (body_of k o)
elsewhere_by at member.Function None f = tt
elsewhere_by at member.Function (Some r) f = f r refl
elsewhere_by at _ o f = tt

kept_elsewhere : (at start end : ℕ) (l : LeafRead) (o : Option MemberTold) → ((r : TextRange) → l.body ≡ Some r → r.start ≡ at → ⊥) → AreElsewhere at (option_to_list (member_kept start end l o))
kept_elsewhere at start end l None f = tt
kept_elsewhere at start end l (Some t) f = (elsewhere_by at t.kind l.body f, tt)

leaf_member_until : (b : Bodies) (w : WantedMetas) (start start' : ℕ) → SamePlace b start start' → (p q : Option LeafRead × Tokens) → LeafUntil b p q
    → TurnUntil b (leaf_member (told_with w) start p.0 p.1) (leaf_member (told_with w) start' q.0 q.1)
leaf_member_until b w start start' i p q (leaf_lost g h) = by p.0 (λ l r e d. h l r e d)
  where
    by : (o : Option LeafRead) → ((l : LeafRead) (r : TextRange) → o ≡ Some l → l.body ≡ Some r → r.start ≡ b.opening.at → ⊥)
        → TurnUntil b (leaf_member (told_with w) start o p.1) (leaf_member (told_with w) start' q.0 q.1)
    by None h = turn_lost (gone_on g (behind_others_leads p.1)) tt
    by (Some l) h = turn_lost g (kept_elsewhere b.opening.at start p.1.past l (told_with w l.item) (λ r d s. h l r refl d s))
leaf_member_until b w start start' i p q (leaf_same a h) = by p.0 q.0 a
  where
    by : (o o' : Option LeafRead) → IsAlike (LeafAlike b) o o' → TurnUntil b (leaf_member (told_with w) start o p.1) (leaf_member (told_with w) start' o' q.1)
    by o o' neither = turn_same neither (behind_others_beside b p.1 q.1 h)
    by o o' (both {x = l} {y = m} k) =
        turn_same (kept_alike b start start' p.1.past q.1.past l m (told_with w l.item) (told_with w m.item) i (past_place b p.1 q.1 h) k (kind_same w l.item m.item k.item)) h

-- ---- a member

front_sound : (end : ℕ) (ts : Tokens) → IsSound end ts → IsSound end (front ts).1
front_sound end ts l = sound_on end (front_takes ts).leads l

front_place : (b : Bodies) (ts us : Tokens) → Beside b ts us → SamePlace b (front ts).0.start (front us).0.start
front_place b ts us h = rw (front_start ts, front_start us) (at_place b ts us h)

associated_until : (end : ℕ) (w : WantedMetas) (b : Bodies) → BeginPlain b → (ts us : Tokens) → IsSound end ts → Beside b ts us → TurnUntil b (associated_item w ts) (associated_item w us)
unfolding associated_item
associated_until end w b plain ts us l h =
    let f = front ts in
    let g = front us in
    let i = front_place b ts us h in
    when (is_at_end ts)
    (λ t. rw (end_same b ts us h, t) (by_next (bumped_onward b ts us h) (λ g. turn_lost g tt) (λ n. turn_same neither n)))
    (λ t. rw (end_same b ts us h, t) (by_stayed (front_until b ts us h)
    (λ k. let x = leaf_gone b end f.0 f.1 (front_sound end ts l) k in leaf_member_until b w f.0.start g.0.start i (leaf f.0 f.1) (leaf g.0 g.1) (leaf_lost x.gone x.free))
    (λ k. leaf_member_until b w f.0.start g.0.start i (leaf f.0 f.1) (leaf g.0 g.1) (leaf_until b plain end f.0 g.0 f.1 g.1 k.value (front_sound end ts l) k.rest))))

-- ---- lists

-- the one went into the braces, and they are of no member; or the members are alike
pub data MembersUntil (b : Bodies) (xs ys : List MemberRead) : Type 0 where
  of_none : AreElsewhere b.opening.at xs → MembersUntil b xs ys
  alike : AreAlike (MemberAlike (SamePlace b)) xs ys → MembersUntil b xs ys

-- the same of those behind the first
data ListUntil (b : Bodies) (done xs ys : List MemberRead) : Type 0 where
  list_lost : b.passed ≡ false → Misses b.opening.at done xs → ListUntil b done xs ys
  list_same : AreAlike (MemberAlike (SamePlace b)) xs ys → ListUntil b done xs ys

option_alike : {alike : MemberRead → MemberRead → Type 0} (o o' : Option MemberRead) → IsAlike alike o o' → AreAlike alike (option_to_list o) (option_to_list o')
option_alike o o' neither = no_more
option_alike o o' (both a) = one_more a no_more

alike_passed : (b : Bodies) (xs ys : List MemberRead) → AreAlike (MemberAlike (SamePlace b)) xs ys → AreAlike (MemberAlike (SamePlace (passed b))) xs ys
unfolding passed
alike_passed b xs ys a = a

over_same : (b : Bodies) (ts us : Tokens) → Beside b ts us → is_list_over us ≡ is_list_over ts
unfolding is_list_over
over_same b ts us h = rw (empty_same b ts us h, symbol_same b ts us h) refl

-- behind the braces nothing goes into them
passed_list : (b : Bodies) {done xs ys : List MemberRead} → ListUntil (passed b) done xs ys → AreAlike (MemberAlike (SamePlace b)) xs ys
unfolding passed
passed_list b (list_lost u m) = absurd (let no : true ≡ false = u in cc)
passed_list b (list_same a) = a

by_turn : {P : Type 0} {b : Bodies} {p q : Option MemberRead × Tokens} → TurnUntil b p q → (Gone b p.1 → AreElsewhere b.opening.at (option_to_list p.0) → P) → (IsAlike (MemberAlike (SamePlace b)) p.0 q.0 → Beside b p.1 q.1 → P) → P
by_turn (turn_lost g m) x y = x g m
by_turn (turn_same a h) x y = y a h

by_list : {P : Type 0} {b : Bodies} {done xs ys : List MemberRead} → ListUntil b done xs ys → (b.passed ≡ false → Misses b.opening.at done xs → P) → (AreAlike (MemberAlike (SamePlace b)) xs ys → P) → P
by_list (list_lost u m) x y = x u m
by_list (list_same a) x y = y a

found_gone : {b : Bodies} {ts us : Tokens} {ms : List MemberRead} → AreFound ts us ms → Gone b ts → AreElsewhere b.opening.at ms
found_gone {b} {ts} {us} {ms} f g =
    let low = behind_at (suc b.opening.at) ts.past ts.left g.over in
    behind_elsewhere b.opening.at ts.past us.past ms f.placed (omega arith)

-- what a turn found, and what is left behind it and what is passed over then
record TurnOn (end : ℕ) (reader : Reader (Option MemberRead)) (ts : Tokens) : Type 0 where
  found : AreFound ts (reader ts).1 (option_to_list (reader ts).0)
  leads : LeadsTo (reader ts).1 (progress_from ts.past (reader ts).1)
  sound : IsSound end (progress_from ts.past (reader ts).1)
  past : (reader ts).1.past ≤ (progress_from ts.past (reader ts).1).past

turn_on : (end : ℕ) (reader : Reader (Option MemberRead)) → Finds end reader → (ts : Tokens) → IsSound end ts → TurnOn end reader ts
turn_on end reader finds ts l =
    let found = finds ts l.laid in
    let leads = beyond_leads ts.past (reader ts).1 in
    record { found = found; leads = leads; sound = sound_on end (through found.leads leads) l; past = (laid.behind end leads (laid.behind end found.leads l.laid).laid).past }

module _ (end : ℕ) (w : WantedMetas) where
  abbrev reader : Reader (Option MemberRead)
  reader = associated_item w

  abbrev list : ℕ → List MemberRead → Reader (List MemberRead)
  list n done ts = turns_from is_list_over (perhaps reader) n done ts

  list_until : (n : ℕ) (b : Bodies) → BeginPlain b → (done done' : List MemberRead) (ts us : Tokens) → IsSound end ts → AreAlike (MemberAlike (SamePlace b)) done done' → Beside b ts us → ListUntil b done (list n done ts).0 (list n done' us).0
  list_until zero b plain done done' ts us l a h = list_same a
  list_until (suc n) b plain done done' ts us l a h =
      let o = option_to_list (reader ts).0 in
      let o' = option_to_list (reader us).0 in
      let next = progress_from ts.past (reader ts).1 in
      let next' = progress_from us.past (reader us).1 in
      let one = turn_on end reader (associated_found end w) ts l in
      let rest = list_from end is_list_over reader (associated_found end w) n (done ++ o) next one.sound.laid in
      when (is_list_over ts)
      (λ z. rw (over_same b ts us h, z) (list_same a))
      (λ z. rw (over_same b ts us h, z) (by_turn (associated_until end w b plain ts us l h)
      (λ k m. let k' = gone_on k one.leads in
      list_lost k.unpassed (misses_more b.opening.at done o _ m (record { more = rest.new; is = rest.list; free = found_gone rest.found k' })))
      (λ k r. let both = beyond_beside b ts us _ _ h r in
      let alike = alike_join a (option_alike (reader ts).0 (reader us).0 k) in
      side b next next' both
      (λ low. by_list (list_until n b plain (done ++ o) (done' ++ o') next next' one.sound alike both)
      (λ u m. list_lost u (misses_more b.opening.at done o _ (before_elsewhere b.opening.at ts.past (reader ts).1.past o one.found.placed (let past = one.past in omega arith)) m))
      (λ j. list_same j))
      (λ far. list_same (passed_list b (list_until n (passed b) (plain_passed b plain) (done ++ o) (done' ++ o') next next' one.sound (alike_passed b (done ++ o) (done' ++ o') alike) far))))))

  turns_until : (b : Bodies) → BeginPlain b → (ts us : Tokens) → IsSound end ts → Beside b ts us → MembersUntil b (turns is_list_over (perhaps reader) ts).0 (turns is_list_over (perhaps reader) us).0
  unfolding turns
  turns_until b plain ts us l h = by_list (list_until most_tokens b plain [] [] ts us l no_more h) (λ u m. rw m.is (of_none m.free)) (λ a. alike a)

  -- what stands between the braces of a trait or an impl
  abbrev held_from : Tokens → List MemberRead
  held_from ts = if symbol ts == 123 then (turns is_list_over (perhaps reader) (inner_attributes (bumped ts)).1).0 else []

  held_until : (b : Bodies) → BeginPlain b → (ts us : Tokens) → IsSound end ts → Beside b ts us → MembersUntil b (held_from ts) (held_from us)
  held_until b plain ts us l h =
      let inner = inner_attributes (bumped ts) in
      let leads : LeadsTo ts inner.1 = further (inner_attributes_leads (bumped ts)) in
      let sound = sound_on end leads l in
      let found = list_found end is_list_over reader (associated_found end w) inner.1 sound.laid in
      when (symbol ts == 123)
      (λ z. rw (symbol_same b ts us h, z) (by_next (bumped_onward b ts us h)
      (λ g. of_none (found_gone found (gone_on g (inner_attributes_leads (bumped ts)))))
      (λ n. by_kept (inner_attributes_until b (bumped ts) (bumped us) n) (λ g. of_none (found_gone found g))
      (λ k. turns_until b plain inner.1 (inner_attributes (bumped us)).1 sound k.rest))))
      (λ z. rw (symbol_same b ts us h, z) (alike no_more))

-- ---- variants and fields have no braces of their own

part_elsewhere : (at start end : ℕ) (k : MemberKind) (attrs : List MetaView) (v : Option Visibility) (identifier : Option (List ℕ)) (o : Option TextRange) → AreElsewhere at (option_to_list (part_of k start attrs v identifier o end))
part_elsewhere at start end k attrs v identifier None = tt
part_elsewhere at start end k attrs v identifier (Some name) = (tt, tt)

member_elsewhere : (at : ℕ) (w : WantedMetas) (k : MemberKind) (ts : Tokens) → AreElsewhere at (option_to_list (part_member w k ts).0)
unfolding part_member
member_elsewhere at w k ts = part_elsewhere at _ _ k _ _ _ _

parts_elsewhere : (at : ℕ) (w : WantedMetas) (k : MemberKind) (n : ℕ) (done : List MemberRead) (ts : Tokens) → AreElsewhere at done → AreElsewhere at (turns_from is_list_over (perhaps (part_member w k)) n done ts).0
parts_elsewhere at w k zero done ts h = h
parts_elsewhere at w k (suc n) done ts h =
    when (is_list_over ts) (λ e. rw e h)
    (λ e. rw e (parts_elsewhere at w k n _ _ (all_elsewhere at done (option_to_list (part_member w k ts).0) h (member_elsewhere at w k ts))))

held_parts : (at : ℕ) (w : WantedMetas) (k : MemberKind) (ts : Tokens) → AreElsewhere at (if symbol ts == 123 then (turns is_list_over (perhaps (part_member w k)) (inner_attributes (bumped ts)).1).0 else [])
unfolding turns
held_parts at w k ts = when (symbol ts == 123) (λ e. rw e (parts_elsewhere at w k most_tokens [] _ tt)) (λ e. rw e tt)

-- ---- all

-- the members of tokens beside
pub members_until : (end : ℕ) (w : WantedMetas) (k : AstIdKind) (b : Bodies) → BeginPlain b → (ts us : Tokens) → IsSound end ts → Beside b ts us → MembersUntil b (members_from w k ts) (members_from w k us)
unfolding members_from member_turn
members_until end w kind.Enum b plain ts us l h = of_none (held_parts b.opening.at w member.Variant ts)
members_until end w kind.Struct b plain ts us l h = of_none (held_parts b.opening.at w member.Field ts)
members_until end w kind.Union b plain ts us l h = of_none (held_parts b.opening.at w member.Field ts)
members_until end w _ b plain ts us l h = held_until end w b plain ts us l h
