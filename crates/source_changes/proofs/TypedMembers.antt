-- A member's hole in which something was typed: its item's members, and all items of the text.
use Rattle.std.proofs.Common.{◌≡◌, ◌≤◌, ◌<◌, ◌+◌, ◌-◌, ◌++◌, ◌⊎◌, inl, inr, ℕ, suc, Bool, true, false, Option, Some, None, List, [], ◌∷◌, length, refl, sym, ap, ◌∙◌, subst, arith, option_map, map, flat_map, take, append_assoc, length-append, slice_range}
use Rattle.std.specs.List.{Contains, list_any}
use Rattle.std.proofs.Math.Seq.{drop-append_seam, take-append_seam}
use Rattle.std.proofs.lemmas.Bool.{and_parts}
use Rattle.std.proofs.lemmas.List.Elements.{Contains-append_left, Contains-append_right}
use Rattle.std.proofs.lemmas.List.Concat.{flat_map-cons}
use Rattle.std.proofs.lemmas.Grind.{flat_map-append}
use Rattle.hir_input.specs.declared.edition.EditionYear.{EditionYear}
use Rattle.hir_input.specs.declared.ids.AstIdKind.{AstIdKind}
use Rattle.hir_input.specs.declared.ids.AstIdKind.TheVariants as kind
use Rattle.rust_lexer.proofs.Cases.{when}
use Rattle.rust_paths.specs.declared.names.TextRange.{TextRange}
use Rattle.rust_items.specs.declared.source_file.ItemPlace.{ItemPlace}
use Rattle.rust_items.specs.LineEnds.{moved_range}
use Rattle.rust_items.specs.MemberLists.{is_cut, members, members_in}
use Rattle.rust_items.specs.Members.{MemberRead, moved_member, range_moved_by}
use Rattle.rust_items.specs.MemberPlaces.{ArePlaced}
use Rattle.rust_items.proofs.MemberCuts.{placed_moved}
use Rattle.rust_items.proofs.MemberPlacing.{members_placed}
use Rattle.rust_items.proofs.FoundRows.{Elsewhere}
use Rattle.rust_items.proofs.BodyMembers.{AreElsewhere, MemberAlike, MembersUntil, alike, members_until, of_none}
use Rattle.rust_edits.proofs.Common.{AreAlike, close_of, close_some, end_of, tokens_of, tokens_sound}
use Rattle.rust_edits.proofs.Typing.Texts.{IsMoved, are_moved, begin_plain, bodies_at, tokens_beside}
use Rattle.rust_edits.proofs.Typing.Texts as texts
use Rattle.rust_edits.specs.Typing.Laws.{with_body, BeginsPlain}
use Rattle.rust_edits.specs.Typing.Moved.{close_at, moved_place, place_after_edit, shifted_by}
use Rattle.source_rows.specs.Labels.{has_members}
use Rattle.source_rows.specs.Listed.{body_members}
use Rattle.source_changes.specs.Parts.{fn_body}
use Rattle.source_changes.specs.declared.kept.Hole.{Hole}
use Rattle.source_changes.proofs.ItemHoles.{item_holes, member_holes, none_held, place_holes}
use Rattle.source_changes.proofs.PartedItems.{AllStand, AreBefore, Stands, may_hold}
use Rattle.source_changes.proofs.HoleOrder.{AreRising, rising_item, rising_within}
use Rattle.source_changes.specs.Typing.{AreBraces, braces, has_member_hole, is_member_hole, moved_hole}
use Rattle.source_changes.proofs.InMembers.{Follows, all_shifted, member_is, members_typed}
use Rattle.source_changes.proofs.Moving as moving
use Rattle.source_changes.proofs.TypedHoles.{around_moved, before_moves, behind_moves, only_one, range_is}

-- ---- the text of the braces

inner : (p m r s : List ℕ) → with_body p m r ++ 125 ∷ s ≡ p ++ 123 ∷ (m ++ 125 ∷ (r ++ 125 ∷ s))
inner p m r s = append_assoc p (123 ∷ (m ++ 125 ∷ r)) (125 ∷ s) ∙ ap (λ z. p ++ 123 ∷ z) (append_assoc m (125 ∷ r) (125 ∷ s))

pub text_is : (q p m r s : List ℕ) → with_body q (with_body p m r) s ≡ with_body (q ++ 123 ∷ p) m (r ++ 125 ∷ s)
text_is q p m r s = ap (λ z. q ++ 123 ∷ z) (inner p m r s) ∙ sym (append_assoc q (123 ∷ p) (123 ∷ (m ++ 125 ∷ (r ++ 125 ∷ s))))

between : (q x s : List ℕ) → slice_range (with_body q x s) (length q) (suc (close_at q x)) ≡ 123 ∷ (x ++ 125 ∷ [])
between q x s =
    let long = length-append x (125 ∷ []) in
    let many : suc (close_at q x) - length q ≡ length (123 ∷ (x ++ 125 ∷ [])) = omega (arith, long) in
    ap (take (suc (close_at q x) - length q)) (drop-append_seam q (123 ∷ (x ++ 125 ∷ s)) ∙ ap (λ z. 123 ∷ z) (sym (append_assoc x (125 ∷ []) s)))
    ∙ ap (λ k. take k ((123 ∷ (x ++ 125 ∷ [])) ++ s)) many ∙ take-append_seam (123 ∷ (x ++ 125 ∷ [])) s

-- the same as a text with the member's braces
abbrev part : List ℕ → List ℕ → List ℕ → List ℕ
part p m r = with_body (123 ∷ p) m (r ++ 125 ∷ [])

part_is : (q p m r s : List ℕ) → slice_range (with_body q (with_body p m r) s) (length q) (suc (close_at q (with_body p m r))) ≡ part p m r
part_is q p m r s = between q (with_body p m r) s ∙ ap (λ z. 123 ∷ z) (inner p m r [])

-- members in braces that have one are read of their text
held : (w : _) (edition : EditionYear) (k : AstIdKind) (text x : List ℕ) (body : TextRange) (test : MemberRead → Bool) → slice_range text body.start body.end ≡ x → list_any test (members w edition k text body) ≡ true
    → members w edition k text body ≡ map (moved_member body.start) (members_in w edition k x)
held w edition k text x body test e some =
    when (is_cut text body) (λ c. rw c (ap (λ z. map (moved_member body.start) (members_in w edition k z)) e))
    (λ c. absurd (let no : list_any test [] ≡ true = rw c at some in cc))

-- ---- members of both texts

begins_there : (d at : ℕ) (o : Option TextRange) (body : TextRange) → Elsewhere at o → option_map (range_moved_by d) o ≡ Some body → body.start ≡ d + at → ⊥
begins_there d at None body h e s = absurd cc
begins_there d at (Some r) body h e s = h (let start : d + r.start ≡ body.start = ap (λ o. start_of o) e in omega (arith, start, s))
  where
    start_of : Option TextRange → ℕ
    start_of None = 0
    start_of (Some r) = r.start

module _ (text : List ℕ) (body : TextRange) (member_is : (x : MemberRead) → is_member_hole text body x ≡ true → x.body ≡ Some body) where
  not_elsewhere : (d at : ℕ) (xs : List MemberRead) → AreElsewhere at xs → body.start ≡ d + at → list_any (is_member_hole text body) (map (moved_member d) xs) ≡ true → ⊥
  not_elsewhere d at [] h s e = absurd cc
  not_elsewhere d at (x ∷ xs) h s e =
      when (is_member_hole text body (moved_member d x))
      (λ t. begins_there d at x.body body h.0 (member_is (moved_member d x) t) s)
      (λ t. not_elsewhere d at xs h.1 s (rw t at e))

module _ (edition : EditionYear) (q p m m' r s : List ℕ) (t : AreBraces (123 ∷ p) m m' (r ++ 125 ∷ [])) (g : BeginsPlain m) (g' : BeginsPlain m') where
  abbrev front : List ℕ
  front = q ++ 123 ∷ p

  abbrev back : List ℕ
  back = r ++ 125 ∷ s

  abbrev text : List ℕ → List ℕ
  text m = with_body q (with_body p m r) s

  abbrev n : ℕ
  n = length front

  abbrev c : ℕ
  c = close_at front m

  abbrev c' : ℕ
  c' = close_at front m'

  abbrev mvh : List Hole → List Hole
  mvh hs = map (moved_hole (shifted_by front m m')) hs

  abbrev one : Hole
  one = record { start = suc n; end = c }

  abbrev has : List ℕ → MemberRead → Bool
  has m x = is_member_hole (text m) (braces front m) x

  abbrev outer : List ℕ → TextRange
  outer m = braces q (with_body p m r)

  front_length : n ≡ length q + suc (length p)
  front_length = length-append q (123 ∷ p)

  -- the members of the braces, read of each text
  reading : (w : _) (k : AstIdKind) → MembersUntil (texts.bodies edition (123 ∷ p) m m' (r ++ 125 ∷ []) t.alone t.alone_new) (members_in w edition k (part p m r)) (members_in w edition k (part p m' r))
  reading w k =
      members_until (length (part p m r)) w k (texts.bodies edition (123 ∷ p) m m' (r ++ 125 ∷ []) t.alone t.alone_new) (begin_plain edition (123 ∷ p) m m' (r ++ 125 ∷ []) t.alone t.alone_new g g')
      (tokens_of edition (part p m r)) (tokens_of edition (part p m' r)) (tokens_sound edition (part p m r)) (tokens_beside edition (123 ∷ p) m m' (r ++ 125 ∷ []) t.opens t.alone t.alone_new)

  -- the holes of these members
  abbrev HolesTyped : List MemberRead → List MemberRead → List ℕ → List ℕ → Type 0
  HolesTyped xs ys x x' = list_any (is_member_hole x (braces front m)) xs ≡ true → list_any (is_member_hole x' (braces front m')) ys ≡ true
      → Contains (member_holes x xs) one × (member_holes x' ys ≡ mvh (member_holes x xs))

  followed : (xs ys : List MemberRead) → ArePlaced 0 (length (part p m r)) xs → AreAlike (MemberAlike (IsMoved (123 ∷ p) m m' (r ++ 125 ∷ []))) xs ys → HolesTyped (map (moved_member (length q)) xs) (map (moved_member (length q)) ys) (text m) (text m')
  followed xs ys placed a =
      let d = length q in
      let at = suc (length p) in
      let open_at : d + at ≡ n = sym front_length in
      let close : d + (suc at + length m) ≡ c = omega (arith, front_length) in
      let close' : d + (suc at + length m') ≡ c' = omega (arith, front_length) in
      let follow = all_shifted d at (end_of (close_of (r ++ 125 ∷ []))) (suc at + length m) (suc at + length m') (close_some (r ++ 125 ∷ [])) (omega arith) xs ys a in
      let there = subst (λ (f : ℕ → ℕ). AreAlike (Follows f) (map (moved_member d) xs) (map (moved_member d) ys)) (λ i. place_after_edit (open_at i) (close i) (close' i)) follow in
      let stand = placed_moved d 0 (length (part p m r)) xs placed in
      subst (λ x. HolesTyped (map (moved_member d) xs) (map (moved_member d) ys) x (text m')) (sym (text_is q p m r s))
      (subst (λ x'. HolesTyped (map (moved_member d) xs) (map (moved_member d) ys) (with_body front m back) x') (sym (text_is q p m' r s))
      (λ e e'. members_typed edition front m m' back (d + 0) (d + length (part p m r)) (map (moved_member d) xs) (map (moved_member d) ys) stand there e e'))

  members_follow : (w : _) (k : AstIdKind) → HolesTyped (members w edition k (text m) (outer m)) (members w edition k (text m') (outer m')) (text m) (text m')
  members_follow w k e e' =
      let xs = members_in w edition k (part p m r) in
      let ys = members_in w edition k (part p m' r) in
      let d = length q in
      let old : members w edition k (text m) (outer m) ≡ map (moved_member d) xs = held w edition k (text m) (part p m r) (outer m) (has m) (part_is q p m r s) e in
      let new : members w edition k (text m') (outer m') ≡ map (moved_member d) ys = held w edition k (text m') (part p m' r) (outer m') (has m') (part_is q p m' r s) e' in
      let e2 : list_any (has m) (map (moved_member d) xs) ≡ true = sym (ap (list_any (has m)) old) ∙ e in
      let e3 : list_any (has m') (map (moved_member d) ys) ≡ true = sym (ap (list_any (has m')) new) ∙ e' in
      let all : HolesTyped (map (moved_member d) xs) (map (moved_member d) ys) (text m) (text m') = by (reading w k) e2 in
      let both = all e2 e3 in
      (subst (λ l. Contains (member_holes (text m) l) one) (sym old) both.0, ap (member_holes (text m')) new ∙ both.1 ∙ sym (ap (λ l. mvh (member_holes (text m) l)) old))
    where
      by : MembersUntil (texts.bodies edition (123 ∷ p) m m' (r ++ 125 ∷ []) t.alone t.alone_new) (members_in w edition k (part p m r)) (members_in w edition k (part p m' r))
          → list_any (has m) (map (moved_member (length q)) (members_in w edition k (part p m r))) ≡ true
          → HolesTyped (map (moved_member (length q)) (members_in w edition k (part p m r))) (map (moved_member (length q)) (members_in w edition k (part p m' r))) (text m) (text m')
      by (of_none h) e =
          absurd (not_elsewhere (text m) (braces front m) (λ x e. (member_is (text m) (braces front m) x e).0) (length q) (length (123 ∷ p)) (members_in w edition k (part p m r))
          (subst (λ (at : ℕ). AreElsewhere at (members_in w edition k (part p m r))) (bodies_at edition (123 ∷ p) m m' (r ++ 125 ∷ []) t.alone t.alone_new) h) front_length e)
      by (alike a) e =
          followed (members_in w edition k (part p m r)) (members_in w edition k (part p m' r)) (members_placed w edition k (part p m r))
          (are_moved edition (123 ∷ p) m m' (r ++ 125 ∷ []) t.alone t.alone_new (λ same. AreAlike (MemberAlike same) (members_in w edition k (part p m r)) (members_in w edition k (part p m' r))) a)

  -- ---- items

  fn_none : (k : AstIdKind) (o : Option TextRange) → has_members k ≡ true → fn_body k o ≡ None
  fn_none kind.Fn o e = absurd cc
  fn_none _ o e = refl

  holders_none : (k : AstIdKind) → may_hold k ≡ true → has_members k ≡ false
  holders_none kind.Module e = refl
  holders_none kind.ExternBlock e = refl
  holders_none _ e = absurd cc

  abbrev some_has : List ℕ → AstIdKind → Option TextRange → Bool
  some_has m k body = list_any (has m) (body_members edition k (text m) (has_members k) body)

  -- of the item with the braces
  item_typed : (k : AstIdKind) (range range' : TextRange) → some_has m k (Some (outer m)) ≡ true → some_has m' k (Some (outer m')) ≡ true
      → Contains (item_holes edition (text m) k range (Some (outer m))) one × (item_holes edition (text m') k range' (Some (outer m')) ≡ mvh (item_holes edition (text m) k range (Some (outer m))))
  item_typed k range range' e e' =
      when (has_members k)
      (λ h. rw (fn_none k (Some (outer m)) h, fn_none k (Some (outer m')) h, h) (members_follow _ k (rw h at e) (rw h at e')))
      (λ h. absurd (let no : list_any (has m) [] ≡ true = rw h at e in cc))

  abbrev has_item : List ℕ → ItemPlace → Bool
  has_item m i = has_member_hole edition (text m) (outer m) (braces front m) i

  item_is : (m : List ℕ) (i : ItemPlace) → has_item m i ≡ true → (i.body ≡ Some (outer m)) × (some_has m i.id.kind i.body ≡ true)
  item_is m i e = let tests = and_parts _ (some_has m i.id.kind i.body) e in (range_is (outer m) i.body tests.0, tests.1)

  pub holds_none : (m : List ℕ) (i : ItemPlace) → has_item m i ≡ true → may_hold i.id.kind ≡ false
  holds_none m i e =
      when (may_hold i.id.kind)
      (λ h. absurd (let some = (item_is m i e).1 in let no : list_any (has m) [] ≡ true = rw (holders_none i.id.kind h) at some in cc))
      (λ h. h)

  pub has_body : (m : List ℕ) (i : ItemPlace) → has_item m i ≡ true → i.body ≡ Some (outer m)
  has_body m i e = (item_is m i e).0

  abbrev move : ℕ → ℕ
  move = shifted_by q (with_body p m r) (with_body p m' r)

  abbrev HolesMove : ItemPlace → Type 0
  HolesMove i = place_holes edition (text m') (moved_place move i) ≡ mvh (place_holes edition (text m) i)

  one_typed : (i : ItemPlace) → has_item m i ≡ true → has_item m' (moved_place move i) ≡ true → Contains (place_holes edition (text m) i) one × HolesMove i
  one_typed i e e' =
      let a = item_is m i e in
      let b = item_is m' (moved_place move i) e' in
      rw (b.0, a.0) (item_typed i.id.kind i.range (moved_range move i.range) (rw a.0 at a.1) (rw b.0 at b.1))

  -- ---- items around it

  outer_close : (m : List ℕ) → close_at q (with_body p m r) ≡ close_at front m + suc (length r)
  outer_close m =
      let all = length-append p (123 ∷ (m ++ 125 ∷ r)) in
      let some = length-append m (125 ∷ r) in
      omega (arith, all, some, front_length)

  agree_before : (low : ℕ) (hs : List Hole) → AreRising low (length q) hs → map (moved_hole move) hs ≡ mvh hs
  agree_before low hs rises =
      moving.all_stay (length q) (close_at q (with_body p m r)) (close_at q (with_body p m' r)) (omega arith) low hs rises
      ∙ sym (moving.all_stay n c c' (omega arith) low hs (rising_within low (length q) low n hs (omega arith) (omega (arith, front_length)) rises))

  place_agrees : (k : ℕ) → close_at q (with_body p m r) < k → move k ≡ shifted_by front m m' k
  place_agrees k le =
      let first = moving.moves (length q) (close_at q (with_body p m r)) (close_at q (with_body p m' r)) k (omega (arith, le)) in
      let second = moving.moves n c c' k (omega (arith, le, outer_close m)) in
      omega (arith, first, second, le, outer_close m, outer_close m')

  agree_behind : (low high : ℕ) (hs : List Hole) → suc (close_at q (with_body p m r)) ≤ low → AreRising low high hs → map (moved_hole move) hs ≡ mvh hs
  agree_behind low high [] le r = refl
  agree_behind low high (h ∷ hs) le r =
      let starts : suc (move (h.start - 1)) ≡ suc (shifted_by front m m' (h.start - 1)) = ap suc (place_agrees (h.start - 1) (omega (arith, le, r.0))) in
      let ends : move h.end ≡ shifted_by front m m' h.end = place_agrees h.end (omega (arith, le, r.0, r.1)) in
      (λ i. record { start = starts i; end = ends i } ∷ map (moved_hole move) hs) ∙ ap (λ l. moved_hole (shifted_by front m m') h ∷ l) (agree_behind (suc h.end) high hs (omega (arith, le, r.0, r.1)) r.2)

  before_move : (i : ItemPlace) → Stands 0 (length q) i ⊎ (may_hold i.id.kind ≡ true) → HolesMove i
  before_move i (inl at) =
      let size : i.range.start ≤ i.range.end = omega (arith, at.some) in
      let hs = place_holes edition (text m) i in
      before_moves edition q (with_body p m r) (with_body p m' r) s i (inl at)
      ∙ agree_before i.range.start hs (rising_within i.range.start i.range.end i.range.start (length q) hs (omega arith) at.ends (rising_item edition (text m) i.id.kind i.range i.body size at.body))
  before_move i (inr h) = before_moves edition q (with_body p m r) (with_body p m' r) s i (inr h) ∙ agree_none
    where
      agree_none : map (moved_hole move) (place_holes edition (text m) i) ≡ mvh (place_holes edition (text m) i)
      agree_none = rw (none_held edition i.id.kind h (text m) i.range i.body) refl

  behind_move : (to : ℕ) (i : ItemPlace) → Stands (suc (close_at q (with_body p m r))) to i → HolesMove i
  behind_move to i at =
      let size : i.range.start ≤ i.range.end = omega (arith, at.some) in
      behind_moves edition q (with_body p m r) (with_body p m' r) s to i at
      ∙ agree_behind i.range.start i.range.end (place_holes edition (text m) i) at.begins (rising_item edition (text m) i.id.kind i.range i.body size at.body)

  -- the holes of the items of both texts
  pub items_typed : (to : ℕ) (before behind : List ItemPlace) (i : ItemPlace) → AreBefore (length q) before → AllStand (suc (close_at q (with_body p m r))) to behind → has_item m i ≡ true
      → list_any (has_item m') (map (moved_place move) (before ++ i ∷ behind)) ≡ true
      → Contains (flat_map (place_holes edition (text m)) (before ++ i ∷ behind)) one × (flat_map (place_holes edition (text m')) (map (moved_place move) (before ++ i ∷ behind)) ≡ mvh (flat_map (place_holes edition (text m)) (before ++ i ∷ behind)))
  items_typed to before behind i are_before are_behind e e' =
      let f = place_holes edition (text m) in
      let has_new = only_one edition (length q) (close_at q (with_body p m r)) (close_at q (with_body p m' r)) (omega arith) (has_item m') (holds_none m') (has_body m') to before behind i (omega arith) are_before are_behind e' in
      let both = one_typed i e has_new in
      let all = flat_map-append f before (i ∷ behind) ∙ ap (λ l. flat_map f before ++ l) (flat_map-cons f i behind) in (
        subst (λ hs. Contains hs one) (sym all) (Contains-append_right (flat_map f before) (f i ++ flat_map f behind) one (Contains-append_left (f i) (flat_map f behind) one both.0)),
        around_moved f (place_holes edition (text m')) (moved_place move) (moved_hole (shifted_by front m m')) (length q) (suc (close_at q (with_body p m r))) to before_move (behind_move to) before behind i are_before both.1 are_behind,
      )
