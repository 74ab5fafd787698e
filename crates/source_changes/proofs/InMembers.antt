-- The holes of a text in which something was typed in a member's hole.
use Rattle.std.proofs.Common.{◌≡◌, ◌≤◌, ◌<◌, ◌+◌, ◌++◌, ℕ, suc, Bool, true, false, Option, Some, None, List, [], ◌∷◌, length, refl, sym, ap, ◌∙◌, subst, arith, option_map, map, length-append}
use Rattle.std.specs.List.{Contains, list_any}
use Rattle.std.proofs.lemmas.List.{map-append}
use Rattle.std.proofs.lemmas.List.Elements.{Contains-append_right}
use Rattle.std.proofs.lemmas.List.Concat.{flat_map-cons}
use Rattle.hir_input.specs.declared.edition.EditionYear.{EditionYear}
use Rattle.rust_lexer.proofs.Cases.{when}
use Rattle.rust_edits.proofs.Common.{AreAlike, IsAlike, Moves, SameRange, both, moves, neither, no_more, one_more, unmoved}
use Rattle.rust_paths.specs.declared.names.TextRange.{TextRange}
use Rattle.rust_items.specs.LineEnds.{moved_range}
use Rattle.rust_items.specs.Places.{IsNameIn}
use Rattle.rust_items.specs.Members.{MemberRead, moved_member, range_moved_by}
use Rattle.rust_items.specs.MemberPlaces.{ArePlaced, IsMemberPlaced}
use Rattle.rust_items.proofs.BodyMembers.{MemberAlike}
use Rattle.rust_edits.specs.Typing.Laws.{with_body}
use Rattle.rust_edits.specs.Typing.Moved.{close_at, place_after_edit, shifted_by}
use Rattle.source_changes.specs.Bodies.{hole_of}
use Rattle.source_changes.specs.Rows.{hole_inside}
use Rattle.source_changes.specs.declared.kept.Hole.{Hole}
use Rattle.source_changes.proofs.LeftOutParts.{moved_on}
use Rattle.source_changes.proofs.ItemHoles.{at_behind, at_front, hole_at, member_holes, name_ends}
use Rattle.source_changes.proofs.HoleOrder.{AreRising, rising_at, rising_within}
use Rattle.source_changes.specs.Typing.{braces, is_member_hole, moved_hole}
use Rattle.source_changes.proofs.Moving as moving
use Rattle.source_changes.proofs.TypedHoles.{back, braces_hole, contained, hole_is, long, maybe_back, range_back, range_is, range_on, range_stays, body_stays, text_back, text_front}

-- ---- places

-- a place that moves so in braces moves so in the text around them
place_shifted : (d at low by by' i j : ℕ) → 0 < low → at < by → Moves at low by by' i j → place_after_edit (d + at) (d + by) (d + by') (d + i) ≡ d + j
place_shifted d at low by by' i j some h (unmoved le e) = moving.stays (d + at) (d + by) (d + by') (d + i) (omega (arith, le)) ∙ ap (λ k. d + k) (sym e)
place_shifted d at low by by' i j some h (moves k over e f) = omega (arith, moving.moves (d + at) (d + by) (d + by') (d + i) (omega (arith, e, over, some, h)), e, f)

-- where a member of one text and its braces stand, and where those of the other
pub record Follows (move : ℕ → ℕ) (x y : MemberRead) : Type 0 where
  pub range : y.range ≡ moved_range move x.range
  pub body : y.body ≡ option_map (moved_range move) x.body

module _ (d at low by by' : ℕ) (some : 0 < low) (apart : at < by) where
  abbrev move : ℕ → ℕ
  move = place_after_edit (d + at) (d + by) (d + by')

  range_shifted : (r s : TextRange) → SameRange (Moves at low by by') r s → range_moved_by d s ≡ moved_range move (range_moved_by d r)
  range_shifted r s a =
      let starts : d + s.start ≡ move (d + r.start) = sym (place_shifted d at low by by' r.start s.start some apart a.start) in
      let ends : d + s.end ≡ move (d + r.end) = sym (place_shifted d at low by by' r.end s.end some apart a.end) in
      λ i. record { start = starts i; end = ends i }

  maybe_shifted : (o o' : Option TextRange) → IsAlike (SameRange (Moves at low by by')) o o' → option_map (range_moved_by d) o' ≡ option_map (moved_range move) (option_map (range_moved_by d) o)
  maybe_shifted o o' neither = refl
  maybe_shifted o o' (both {x = r} {y = s} a) = ap Some (range_shifted r s a)

  pub all_shifted : (xs ys : List MemberRead) → AreAlike (MemberAlike (Moves at low by by')) xs ys → AreAlike (Follows move) (map (moved_member d) xs) (map (moved_member d) ys)
  all_shifted xs ys no_more = no_more
  all_shifted xs ys (one_more {x = x} {y = y} {xs = xs'} {ys = ys'} a h) =
      one_more (record { range = range_shifted x.range y.range a.range; body = maybe_shifted x.body y.body a.body }) (all_shifted xs' ys' h)

-- ---- the holes of members

-- the body of a member that is a hole
pub member_is : (text : List ℕ) (body : TextRange) (x : MemberRead) → is_member_hole text body x ≡ true → (x.body ≡ Some body) × (hole_of text x.range x.body ≡ Some body)
member_is text body x e = let own = range_is body (hole_of text x.range x.body) e in (hole_is text x.range body x.body own, own)

module _ (edition : EditionYear) (q m m' s : List ℕ) where
  abbrev n : ℕ
  n = length q

  abbrev c : ℕ
  c = close_at q m

  abbrev c' : ℕ
  c' = close_at q m'

  abbrev text : List ℕ → List ℕ
  text m = with_body q m s

  abbrev front : List ℕ
  front = q ++ 123 ∷ []

  abbrev mvh : List Hole → List Hole
  mvh hs = map (moved_hole (shifted_by q m m')) hs

  abbrev holes : List ℕ → MemberRead → List Hole
  holes m x = hole_at (text m) x.range x.body

  abbrev has : List ℕ → MemberRead → Bool
  has m x = is_member_hole (text m) (braces q m) x

  abbrev HolesFollow : MemberRead → MemberRead → Type 0
  HolesFollow x y = holes m' y ≡ mvh (holes m x)

  before_follows : (from : ℕ) (x y : MemberRead) → IsMemberPlaced from n x → Follows (shifted_by q m m') x y → HolesFollow x y
  before_follows from x y at f =
      let low : n < length front = let all = length-append q (123 ∷ []) in omega (arith, all) in
      let range = f.range ∙ range_stays edition n c c' x.range (omega (arith, at.some, at.ends)) at.ends in
      let body = f.body ∙ body_stays edition n c c' x.range x.body at.ends at.body in
      let here = λ (m : List ℕ). ap (λ t. hole_at t x.range x.body) (text_front edition q m m' s m) ∙ at_front front (m ++ 125 ∷ s) n x.range x.body low (name_ends n x.range x.body at.ends at.body) in
      let hs = holes m x in
      let rises = rising_at (text m) x.range x.body (omega (arith, at.some)) at.body in
      (λ i. hole_at (text m') (range i) (body i)) ∙ here m' ∙ sym (here m)
      ∙ sym (moving.all_stay n c c' (omega arith) x.range.start hs (rising_within x.range.start x.range.end x.range.start n hs (omega arith) at.ends rises))

  behind_follows : (to : ℕ) (x y : MemberRead) → IsMemberPlaced (suc c) to x → Follows (shifted_by q m m') x y → HolesFollow x y
  behind_follows to x y at f =
      let from = at.begins in
      let size = at.some in
      let r = back edition n c c' x.range in
      let o = option_map (back edition n c c') x.body in
      let range = range_back edition n c c' x.range (omega (arith, from)) (omega (arith, from, size)) in
      let range' = f.range ∙ range_on edition n c c' x.range (omega (arith, from)) (omega (arith, from, size)) in
      let body = maybe_back edition n c c' (suc c) x.range x.body (omega arith) (omega arith) from at.body in
      let rest = hole_at (125 ∷ s) r o in
      let on = λ (m : List ℕ) (d : ℕ) (e : length (q ++ 123 ∷ m) ≡ d).
      subst (λ (d : ℕ). hole_at ((q ++ 123 ∷ m) ++ 125 ∷ s) (range_moved_by d r) (option_map (range_moved_by d) o) ≡ map (moved_on d) rest) e (at_behind (q ++ 123 ∷ m) (125 ∷ s) r o) in
      let old : holes m x ≡ map (moved_on c) rest =
      ap (λ t. hole_at t x.range x.body) (text_back edition q m m' s m) ∙ (λ i. hole_at ((q ++ 123 ∷ m) ++ 125 ∷ s) (range i) (body.0 i)) ∙ on m c (long edition q m m' s m) in
      let new : holes m' y ≡ map (moved_on c') rest =
      ap (λ t. hole_at t y.range y.body) (text_back edition q m m' s m') ∙ (λ i. hole_at ((q ++ 123 ∷ m') ++ 125 ∷ s) (range' i) ((f.body ∙ body.1) i)) ∙ on m' c' (long edition q m m' s m') in
      let rises = subst (AreRising x.range.start x.range.end) old (rising_at (text m) x.range x.body (omega (arith, size)) at.body) in
      new ∙ sym (ap mvh old ∙ moving.all_move n c c' (omega arith) x.range.start x.range.end rest (omega (arith, from)) rises)

  -- ---- lists of members

  abbrev AllFollow : List MemberRead → List MemberRead → Type 0
  AllFollow xs ys = AreAlike (Follows (shifted_by q m m')) xs ys

  abbrev Moved : List MemberRead → List MemberRead → Type 0
  Moved xs ys = member_holes (text m') ys ≡ mvh (member_holes (text m) xs)

  more_moved : (x y : MemberRead) (xs ys : List MemberRead) → HolesFollow x y → Moved xs ys → Moved (x ∷ xs) (y ∷ ys)
  more_moved x y xs ys h k =
      flat_map-cons (holes m') y ys ∙ ap (λ l. l ++ member_holes (text m') ys) h ∙ ap (λ l. mvh (holes m x) ++ l) k
      ∙ sym (map-append (moved_hole (shifted_by q m m')) (holes m x) (member_holes (text m) xs)) ∙ sym (ap mvh (flat_map-cons (holes m) x xs))

  placed_on : (low from to : ℕ) (x : MemberRead) → low ≤ from → IsMemberPlaced from to x → IsMemberPlaced low to x
  placed_on low from to x a at = record { begins = omega (arith, at.begins); some = at.some; ends = at.ends; name = at.name; body = at.body }

  all_behind : (from to : ℕ) (xs ys : List MemberRead) → suc c ≤ from → ArePlaced from to xs → AllFollow xs ys → Moved xs ys
  all_behind from to xs ys le a no_more = refl
  all_behind from to xs ys le a (one_more {x = x} {y = y} {xs = xs'} {ys = ys'} f h) =
      more_moved x y xs' ys' (behind_follows to x y (placed_on (suc c) from to x le a.0) f) (all_behind x.range.end to xs' ys' (omega (arith, a.0.begins, a.0.some)) a.1 h)

  -- those behind the braces do not begin with them
  behind_other : (from : ℕ) (range : TextRange) (o : Option TextRange) → suc c ≤ from → from ≤ range.start → IsNameIn range o → option_map (moved_range (shifted_by q m m')) o ≡ Some (braces q m') → ⊥
  behind_other from range None le b k e = absurd cc
  behind_other from range (Some r) le b k e =
      let start : shifted_by q m m' r.start ≡ n = ap (λ o. start_of o) e in
      let moved = moving.moves n c c' r.start (omega (arith, le, b, k.0)) in
      absurd (omega (arith, start, moved))
    where
      start_of : Option TextRange → ℕ
      start_of None = 0
      start_of (Some r) = r.start

  none_behind : (from to : ℕ) (xs ys : List MemberRead) → suc c ≤ from → ArePlaced from to xs → AllFollow xs ys → list_any (has m') ys ≡ false
  none_behind from to xs ys le a no_more = refl
  none_behind from to xs ys le a (one_more {x = x} {y = y} {xs = xs'} {ys = ys'} f h) =
      when (has m' y)
      (λ e. absurd (behind_other from x.range x.body le a.0.begins a.0.body (sym f.body ∙ (member_is (text m') (braces q m') y e).0)))
      (λ e. rw e (none_behind x.range.end to xs' ys' (omega (arith, a.0.begins, a.0.some)) a.1 h))

  -- the member with the braces stands around them
  record Around (x : MemberRead) : Type 0 where
    low : x.range.start ≤ n
    high : suc c ≤ x.range.end

  around : (from to : ℕ) (x : MemberRead) → IsMemberPlaced from to x → has m x ≡ true → Around x
  around from to x at e =
      let b : IsNameIn x.range (Some (braces q m)) = subst (IsNameIn x.range) (member_is (text m) (braces q m) x e).0 at.body in
      record { low = b.0; high = b.2 }

  -- a list with it begins before them
  begins_before : (from to : ℕ) (xs : List MemberRead) → ArePlaced from to xs → list_any (has m) xs ≡ true → from ≤ n
  begins_before from to [] a e = absurd cc
  begins_before from to (x ∷ xs) a e =
      when (has m x) (λ h. omega (arith, a.0.begins, (around from to x a.0 h).low))
      (λ h. omega (arith, begins_before x.range.end to xs a.1 (rw h at e), a.0.begins, a.0.some))

  none_before : (from : ℕ) (x y : MemberRead) → IsMemberPlaced from n x → Follows (shifted_by q m m') x y → has m' y ≡ false
  none_before from x y at f =
      when (has m' y)
      (λ e. let is : x.body ≡ Some (braces q m') = sym (body_stays edition n c c' x.range x.body at.ends at.body) ∙ sym f.body ∙ (member_is (text m') (braces q m') y e).0 in
      let b : IsNameIn x.range (Some (braces q m')) = subst (IsNameIn x.range) is at.body in
      absurd (omega (arith, b.0, b.1, b.2, at.ends)))
      (λ e. e)

  own : (m : List ℕ) (x : MemberRead) → has m x ≡ true → holes m x ≡ record { start = suc n; end = close_at q m } ∷ []
  own m x e = ap hole_inside (member_is (text m) (braces q m) x e).1 ∙ braces_hole n (close_at q m) (omega arith)

  -- the holes of members of which one has the braces, in both texts
  pub members_typed : (from to : ℕ) (xs ys : List MemberRead) → ArePlaced from to xs → AllFollow xs ys → list_any (has m) xs ≡ true → list_any (has m') ys ≡ true
      → Contains (member_holes (text m) xs) (record { start = suc n; end = c }) × Moved xs ys
  members_typed from to xs ys a no_more e e' = absurd cc
  members_typed from to xs ys a (one_more {x = x} {y = y} {xs = xs'} {ys = ys'} f h) e e' =
      when (has m x)
      (λ t. let high = (around from to x a.0 t).high in
      let other = none_behind x.range.end to xs' ys' high a.1 h in
      let is_new : has m' y ≡ true = when (has m' y) (λ u. u) (λ u. absurd (let yes : list_any (has m') ys' ≡ true = rw u at e' in cc)) in
      let one = own m x t in (
        subst (λ hs. Contains hs (record { start = suc n; end = c })) (sym (flat_map-cons (holes m) x xs' ∙ ap (λ l. l ++ member_holes (text m) xs') one)) (contained [] (member_holes (text m) xs') _),
        more_moved x y xs' ys' (own m' y is_new ∙ sym (ap mvh one ∙ ap (λ h. h ∷ []) (moving.one_moves n c c' (omega arith)))) (all_behind x.range.end to xs' ys' high a.1 h),
      ))
      (λ t. let more : list_any (has m) xs' ≡ true = rw t at e in
      let low = begins_before x.range.end to xs' a.1 more in
      let at : IsMemberPlaced from n x = record { begins = a.0.begins; some = a.0.some; ends = low; name = a.0.name; body = a.0.body } in
      let rest = members_typed x.range.end to xs' ys' a.1 h more (rw (none_before from x y at f) at e') in (
        subst (λ hs. Contains hs (record { start = suc n; end = c })) (sym (flat_map-cons (holes m) x xs')) (Contains-append_right (holes m x) (member_holes (text m) xs') _ rest.0),
        more_moved x y xs' ys' (before_follows from x y at f) rest.1,
      ))
